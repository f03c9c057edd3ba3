-- `completion::complete`: each node keeps what is left to do, by the laws of `Rounds`.
-- Assumes nothing.
use Rattle.graph.proofs.Rounds.{doing_first, doing_last, doing_next}
use Rattle.graph.proofs.completion.complete.Goals as goal

pub loop-p-init : goal.loop-p-init
loop-p-init c = rw c.as_slice-given.ensures.items (doing_first c.args.t.now c.requires)

pub loop-p-preserved : goal.loop-p-preserved
loop-p-preserved c =
    doing_next _ c.args.t.now c.loop-p.t c.loop-p.p c.loop-p.invariant c.loop-p-test.true c.complete_sinks.new.t c.complete_sinks.ensures c.complete_sources.new.t c.complete_sources.ensures

pub returns : goal.returns
returns c = doing_last _ c.args.t.now c.loop-p.t c.loop-p.p c.loop-p.invariant c.loop-p-test.false
