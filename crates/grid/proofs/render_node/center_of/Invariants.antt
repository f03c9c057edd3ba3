-- `render_node::center_of`: what is looked at, and what is left to look at.
-- Assumes nothing.
use Rattle.std.proofs.Common.{◌≡◌, ℕ, ◌+◌, ◌≤◌, max, List, ◌++◌, map, length, drop}
use Rattle.chart.specs.declared.Line.{Line as LineItem}
use Rattle.chart.specs.code.Filled.{owned_lines}
use Rattle.graph.specs.declared.Name.{Name}
use Rattle.graph.specs.Graph.{Line, given}
use Rattle.graph.specs.code.Tables.{name_line}
use Rattle.grid.specs.Lists.{largest}
use Rattle.grid.specs.RenderNode.{line_length}
use Rattle.grid.proofs.render_node.center_of.Given as goal

-- the lines of p from record k on, and that of its number
abbrev pub left : List LineItem → Name → ℕ → ℕ → List Line
left ls name p k = map given (owned_lines p (drop k ls)) ++ name_line name

abbrev pub invariant-loop-e : goal.invariant-loop-e
invariant-loop-e l =
    (max l.longest (largest (map line_length (left l.e-items l.name l.p l.e-index))) ≡ largest (map line_length (left l.e-items l.name l.p 0)))
    × (l.count + length (left l.e-items l.name l.p l.e-index) ≡ length (left l.e-items l.name l.p 0))
    × (l.count ≤ l.e-index)
