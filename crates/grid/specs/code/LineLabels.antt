-- The labels of a node's lines, as the code goes over them.
-- Assumes nothing.
use Rattle.std.specs.Prelude.{List, map, ◌++◌}
use Rattle.chart.specs.code.Filled.{owned_lines}
use Rattle.graph.specs.Graph.{given}
use Rattle.graph.specs.code.Tables.{name_line}
use Rattle.grid.specs.declared.LabelPlace.{LabelPlace}
use Rattle.grid.specs.declared.label.lines.LineLabels.{LineLabels}
use Rattle.grid.specs.RenderNode.{line_texts}
use Rattle.grid.specs.Labels.{place_of}

-- those that the iterator has left
abbrev pub labels_left : LineLabels → List LabelPlace
labels_left s = map place_of (line_texts s.x s.y (map given (owned_lines s.owner s.rest.now) ++ name_line s.name))
