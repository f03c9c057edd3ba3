-- `joining::count_leads`: the records of both tables that lead to no node, by the laws of `Boxes`.
-- Assumes nothing.
use Prim.Native.Nat.{◌+◌, ◌≤◌}
use native.Mathlib.Omega.{arith}
use lib.ListN.{length}
use Rattle.std.proofs.lemmas.List.{length-take}
use Rattle.graph.specs.code.Tables.{items_of, lines_of, far}
use Rattle.graph.proofs.Boxes.{far_le, leads-held}
use Rattle.graph.proofs.joining.count_leads.Goals as goal
use Rattle.graph.proofs.joining.count_leads.Goals.{Start}

few : (z : Start) → let t = z.args.t.now in length (far t.n (items_of t.sinks)) + length (far t.n (items_of t.sources)) ≤ 176
few z =
    let t = z.args.t.now in
    omega (arith, far_le t.n (items_of t.sinks), far_le t.n (items_of t.sources), length-take t.sinks.count t.sinks.items, length-take t.sources.count t.sources.items, z.requires.owned.sink_room, z.requires.owned.source_room)

pub overflow_add-result : goal.overflow_add-result
overflow_add-result c = omega (arith, few (goal.at.overflow_add-result c).Start, rw c.as_slice.ensures.items at c.count_far.ensures, rw c.as_slice-2.ensures.items at c.count_far-2.ensures)

pub returns : goal.returns
returns c =
    let t = c.args.t.now in
    let sinks = rw c.as_slice.ensures.items at c.count_far.ensures in
    let sources = rw c.as_slice-2.ensures.items at c.count_far-2.ensures in (
      omega (arith, sinks, sources, leads-held t.n t.n (lines_of t) (items_of t.sources) (items_of t.sinks) c.requires.owned.source_owners c.requires.owned.sink_owners),
      omega (arith, sinks, sources, few (goal.at.returns c).Start),
    )
