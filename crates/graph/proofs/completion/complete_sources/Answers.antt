-- `completion::complete_sources`: each turn keeps what is left to do, by the laws of `Sinks`.
-- Assumes nothing.
use Rattle.std.proofs.Common.{◌<◌, arith, length}
use Rattle.graph.specs.code.Tables.{items_of}
use Rattle.graph.proofs.Lists.{table-size}
use Rattle.graph.proofs.Sinks.{right_end, right-other, right-own}
use Rattle.graph.proofs.completion.complete_sources.Goals as goal
use Rattle.graph.proofs.completion.complete_sources.Goals.{After-as_slice, then-as_slice-k, else-as_slice-k}

inside : (c : After-as_slice) → c.loop-k.k < length (items_of c.loop-k.t.sources)
inside c =
    let l = c.loop-k in
    omega (arith, c.loop-k-test.true, l.invariant.count, table-size l.t.sources c.as_slice.ensures.long l.invariant.fit.linked.source_room)

pub loop-k-preserved : goal.loop-k-preserved
loop-k-preserved c =
    let l = c.loop-k in
    let h : l.k < length (items_of l.t.sources) = inside (goal.at.loop-k-preserved c).After-as_slice in
    let items = c.as_slice.ensures.items in
    elim c.if-as_slice-k.branch [
      | then-as_slice-k w ↦
          rw w.t-is (right-own c.args.given c.args.t.now c.args.p l.t l.k l.invariant h (rw items at w.if-as_slice-k.true) w.gain_sink.new.t w.gain_sink.ensures)
      | else-as_slice-k w ↦ rw w.t-is (right-other c.args.given c.args.t.now c.args.p l.t l.k l.invariant h (rw items at w.if-as_slice-k.false))
    ]

pub returns : goal.returns
returns c = right_end c.args.given c.args.t.now c.args.p c.loop-k.t c.loop-k.k c.loop-k.invariant c.requires.p_lt_n c.loop-k-test.false
