-- `render_node::ends_of`: what is counted, and what is left to count.
-- Assumes nothing.
use Rattle.std.proofs.Common.{◌≡◌, ◌+◌, ◌*◌, ◌≤◌, map, length, drop}
use Rattle.graph.specs.code.Tables.{owned}
use Rattle.grid.specs.Lists.{total}
use Rattle.grid.specs.RenderNode.{text_length}
use Rattle.grid.proofs.render_node.ends_of.Given as goal

abbrev pub invariant-loop-e : goal.invariant-loop-e
invariant-loop-e l =
    (l.len + total (map text_length (owned l.p (drop l.e-index l.e-items))) ≡ total (map text_length (owned l.p l.e-items)))
    × (l.count + length (owned l.p (drop l.e-index l.e-items)) ≡ length (owned l.p l.e-items))
    × (l.len ≤ 255 * l.e-index) × (l.count ≤ l.e-index)
