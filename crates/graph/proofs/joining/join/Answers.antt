-- `joining::join`: each node keeps what is left to do, by the laws of `Boxes`.
-- Assumes nothing.
use mathlib.Core.Path.{sym, ◌∙◌}
use Rattle.graph.proofs.Boxes.{none-joined, passing_first, passing_last, passing_sinks, passing_sources, passing_next}
use Rattle.graph.proofs.joining.join.Goals as goal

pub returns-then-count-eq0 : goal.returns-then-count-eq0
returns-then-count-eq0 c = none-joined c.args.t.now c.requires.standing (sym c.requires.count_value ∙ c.if-count-eq0.true)

pub loop-p-init : goal.loop-p-init
loop-p-init c = passing_first c.args.t.now c.requires.standing

pub join_sinks-requires-clause-fits : goal.join_sinks-requires-clause-fits
join_sinks-requires-clause-fits c = passing_sinks c.args.t.now c.loop-p.t c.loop-p.p c.loop-p.invariant c.loop-p-test.true c.requires.fits

pub join_sources-requires-clause-fits : goal.join_sources-requires-clause-fits
join_sources-requires-clause-fits c = passing_sources c.args.t.now c.loop-p.t c.loop-p.p c.loop-p.invariant c.loop-p-test.true c.requires.fits _ c.join_sinks.ensures

pub loop-p-preserved : goal.loop-p-preserved
loop-p-preserved c = passing_next c.args.t.now c.loop-p.t c.loop-p.p c.loop-p.invariant c.loop-p-test.true c.requires.fits _ c.join_sinks.ensures _ c.join_sources.ensures

pub returns : goal.returns
returns c = passing_last c.args.t.now c.loop-p.t c.loop-p.p c.loop-p.invariant c.loop-p-test.false
