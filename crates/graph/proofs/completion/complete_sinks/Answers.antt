-- `completion::complete_sinks`: each turn keeps what is left to do, by the laws of `Turns`.
-- Assumes nothing.
use Rattle.std.proofs.Common.{rules, tests, eqb}
use Rattle.std.proofs.lemmas.Iterator.{YieldsList-from_slice}
use Rattle.std.proofs.lemmas.Iterator.Consumers.{YieldsList-from_filter, YieldsList-from_enumerate, YieldsList-at}
use Rattle.graph.specs.declared.Item.{Item}
use Rattle.graph.proofs.Turns.{turn-first, turn-next, turn_end}
use Rattle.graph.proofs.completion.complete_sinks.Goals as goal

pub loop-i-init : goal.loop-i-init
loop-i-init c =
    turn-first _ _ c.args.given c.args.t.now c.requires.fit c.args.p c.requires.p_lt_n c.into_iter-i-iterator.result
    (YieldsList-at c.into_iter-i-iterator.ensures.into_iter_gives
    (YieldsList-from_enumerate
    (YieldsList-at c.enumerate-i-items.ensures.source
    (YieldsList-from_filter _ (λ (e : Item). eqb e.owner c.args.p) (YieldsList-from_slice _ cc) c.filter-own.ensures.closure (λ x b q k. search (rules, tests))))
    c.enumerate-i-items.ensures.count))

pub loop-i-preserved : goal.loop-i-preserved
loop-i-preserved c =
    turn-next _ _ c.args.given c.args.t.now c.requires.fit c.args.p c.requires.p_lt_n _ c.loop-i.i-iterator c.loop-i.invariant c.next.new.self (c.in-Some.i, c.in-Some.e) c.in-Some.ensures.steps
    c.gain_source.new.sources (rw c.source_of.ensures at c.gain_source.ensures.items) c.gain_source.ensures.count (rw c.source_of.ensures at c.gain_source.ensures.kept)

pub returns : goal.returns
returns c =
    turn_end _ _ c.args.given c.args.t.now c.requires.fit c.args.p c.requires.p_lt_n _ c.loop-i.i-iterator c.loop-i.invariant c.next.new.self c.in-None.ensures.steps c.requires.sinks_bound
