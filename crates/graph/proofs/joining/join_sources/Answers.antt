-- `joining::join_sources`: each turn keeps what is left to do, by the laws of `BoxTurns`.
-- Assumes nothing.
use Prim.Native.Nat.{◌+◌, ◌<◌}
use mathlib.Core.Path.{refl}
use lib.ListN.{length, length-set}
use Rattle.graph.specs.Joining.{join_source, join_sources}
use Rattle.graph.specs.code.Tables.{items_of, graph_of, lines_of, Fits, owned}
use Rattle.graph.proofs.Lists.{node-graph}
use Rattle.graph.proofs.Boxes.{going_end}
use Rattle.graph.proofs.BoxTurns.{sources-other, sources-kept, sources-room, sources-joined}
use Rattle.graph.proofs.joining.join_sources.Goals as goal
use Rattle.graph.proofs.joining.join_sources.Goals.{In-loop-k, Start, then-e-p-via-then-e-p, then-e-p-via-else-e-p+then-e-n}

-- the whole fits
fits : (z : Start) → let t = z.args.t.now in Fits (join_sources z.args.n (graph_of t) z.args.p 0 (owned z.args.p (items_of t.sources)))
fits z = let t = z.args.t.now in rw (node-graph t.n (lines_of t) (items_of t.sources) (items_of t.sinks) z.args.p z.requires.p_lt_n) at z.requires.fits

inside : (a : In-loop-k) → a.loop-k.k < length (items_of a.args.t.now.sources)
inside a = rw a.as_slice-k-end.ensures.items at a.loop-k-test.true

pub loop-k-preserved-then-e-p : goal.loop-k-preserved-then-e-p
loop-k-preserved-then-e-p c =
    let z = goal.at.loop-k-preserved-then-e-p c in
    let i = c.loop-k.invariant.1.0 in
    elim c.then-e-p.branch [
      | then-e-p-via-then-e-p w ↦ (c.loop-k.invariant.0, (_, sources-other c.args.t.now c.args.n c.args.p c.requires.p_lt_n (fits z.Start) c.loop-k.t i c.loop-k.k c.loop-k.invariant.1.1 (inside z.In-loop-k) w.if-e-p.true))
      | then-e-p-via-else-e-p+then-e-n w ↦ (
        c.loop-k.invariant.0,
        (_, sources-kept c.args.t.now c.args.n c.args.p c.requires.p_lt_n (fits z.Start) c.loop-k.t i c.loop-k.k c.loop-k.invariant.1.1 (inside z.In-loop-k) w.if-e-p.false w.if-e-n.true),
      )
    ]

pub add_box-a-requires : goal.add_box-a-requires
add_box-a-requires c =
    let z = goal.at.add_box-a-requires c in
    sources-room c.args.t.now c.args.n c.args.p c.requires.p_lt_n (fits z.Start) c.loop-k.t c.loop-k.invariant.1.0 c.loop-k.k c.loop-k.invariant.1.1 (inside z.In-loop-k) c.if-e-p.false c.if-e-n.false

pub loop-k-preserved : goal.loop-k-preserved
loop-k-preserved c =
    let z = goal.at.loop-k-preserved c in
    rw (c.add_box-a.ensures.node, c.add_box-a.ensures.table) (
      simp length-set c.loop-k.invariant.0,
      (
        c.loop-k.invariant.1.0 + 1,
        (sources-joined c.args.t.now c.args.n c.args.p c.requires.p_lt_n (fits z.Start) c.loop-k.t c.loop-k.invariant.1.0 c.loop-k.k c.loop-k.invariant.1.1 (inside z.In-loop-k) c.if-e-p.false c.if-e-n.false c.loop-k.invariant.0
            (rw c.add_box-a.ensures.table at c.push.ensures.long) c.push.result c.push.new.self (rw c.add_box-a.ensures.table at c.push.ensures.room) (rw (c.sink_of.ensures, c.add_box-a.ensures.node, c.add_box-a.ensures.table) at c.push.ensures.table)),
      ),
    )

pub returns : goal.returns
returns c =
    let u = c.args.t.now in
    let w = c.loop-k.invariant.1.1 in
    record {
      graph =
          rw (node-graph u.n (lines_of u) (items_of u.sources) (items_of u.sinks) c.args.p c.requires.p_lt_n)
          (going_end (λ u. u.sources) (join_source c.args.n) (join_sources c.args.n) (λ g p i e es. refl) u c.args.p c.loop-k.t c.loop-k.invariant.1.0 c.loop-k.k w (rw c.as_slice-k-end.ensures.items at c.loop-k-test.false));
      standing = w.standing;
      cuts = w.cuts;
      lines = w.lines;
      more = w.more;
    }
