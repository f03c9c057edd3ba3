-- How the code finds a label: in one list of labels after another.
-- Assumes nothing.
use Rattle.std.specs.Prelude.{ℕ, cond, ltb, map, Option, Some, None}
use Rattle.graph.specs.Graph.{Node}
use Rattle.grid.specs.declared.LabelPlace.{LabelPlace}
use Rattle.grid.specs.declared.TextPlace.TheVariants.{InChart}
use Rattle.grid.specs.declared.render_node.row.End.{End}
use Rattle.grid.specs.RenderNode.{drawn}
use Rattle.grid.specs.RenderGrid.{text_moved}
use Rattle.grid.specs.Labels.{label_at}

-- the label of an end, at height y; it has none without a text
abbrev pub end_place : ℕ → End → Option LabelPlace
end_place y e = cond (ltb 0 e.item.len) (Some (record { x = e.x; y = y; size = 232; width = e.width; text = InChart e.item.at e.item.len })) None

-- label i of a node whose box is at x and y
abbrev pub node_label : Node → ℕ → ℕ → ℕ → Option LabelPlace
node_label n x y i = label_at (map (text_moved x y) (drawn n).texts) i
