-- What the code holds of a node: the numbers of `RenderNode::new`.
-- Assumes nothing.
use Rattle.std.specs.Prelude.{ℕ, ◌+◌, ◌-◌, ◌*◌, ◌/◌, ◌≤◌, max, cond, List, map, eqb, ltb, length, ◌≡◌}
use Rattle.graph.specs.declared.Tables.{Tables}
use Rattle.graph.specs.Graph.{Edge, Line, Node}
use Rattle.graph.specs.code.Tables.{Linked}
use Rattle.grid.specs.declared.render_node.Ends.{Ends}
use Rattle.grid.specs.declared.render_node.Center.{Center}
use Rattle.grid.specs.declared.render_node.Run.{Run}
use Rattle.grid.specs.declared.render_node.RenderNode.{RenderNode}
use Rattle.grid.specs.Lists.{largest, total}
use Rattle.grid.specs.RenderNode.{text_length, line_length, inner_width, center_width, box_width, box_height, input_y, output_y, center_y, source_gap, sink_gap, first_x}

-- ---- of a node
abbrev pub ends_of : List Edge → Ends
ends_of es = record { len = total (map text_length es); count = length es }

abbrev pub center_of : List Line → Center
center_of ls = record { longest = largest (map line_length ls); count = length ls }

abbrev pub inputs_of : Node → Run
inputs_of n = record { x = first_x (source_gap n) n.sources; y = input_y n; gap = source_gap n }

abbrev pub outputs_of : Node → Run
outputs_of n = record { x = first_x (sink_gap n) n.sinks; y = output_y n; gap = sink_gap n }

unfoldable pub render_of : Node → RenderNode
render_of n =
    record {
      width = box_width n;
      height = box_height n;
      inputs = inputs_of n;
      outputs = outputs_of n;
      cx = (inner_width n - center_width n) / 2 + 128;
      cy = center_y n;
    }

-- ---- the same from the numbers of its ends and its lines
abbrev pub gap_from : ℕ → ℕ → ℕ
gap_from free count = cond (ltb count 2) (free / 2) (free / (count - 1))

abbrev pub first_from : ℕ → ℕ → ℕ
first_from gap count = cond (eqb count 1) (128 + gap) 128

abbrev pub lines_from : ℕ → ℕ
lines_from count = cond (eqb count 0) 0 (640 * count - 128)

abbrev pub text_from : ℕ → ℕ
text_from len = cond (ltb 0 len) 256 0

abbrev pub empty_from : ℕ → ℕ
empty_from inner = cond (eqb inner 128) 128 0

abbrev pub inner_from : Ends → Center → Ends → ℕ
inner_from a c b = max (max (128 * a.len) (128 * b.len)) (256 * c.longest) + 128

-- the ends e, at height y, in a width of inner
abbrev pub run_from : ℕ → ℕ → Ends → Run
run_from inner y e =
    let gap = gap_from (inner - 128 * e.len) e.count in
    record { x = first_from gap e.count; y = y; gap = gap }

abbrev pub center_from : ℕ → Ends → ℕ
center_from inner a = empty_from inner + text_from a.len + 128

abbrev pub output_from : ℕ → Ends → Center → Ends → ℕ
output_from inner a c b = center_from inner a + lines_from c.count + text_from b.len

unfoldable pub render_from : Ends → Center → Ends → RenderNode
render_from a c b =
    let inner = inner_from a c b in
    record {
      width = inner + 256;
      height = output_from inner a c b + empty_from inner;
      inputs = run_from inner (empty_from inner) a;
      outputs = run_from inner (output_from inner a c b) b;
      cx = (inner - 256 * c.longest) / 2 + 128;
      cy = center_from inner a;
    }

-- the numbers are small enough for the sums
pub record Modest (r : RenderNode) : Type 0 where
  pub wide : r.width ≤ 8389000
  pub tall : r.height ≤ 200000
  pub first_input : r.inputs.x ≤ 8389000
  pub input_gap : r.inputs.gap ≤ 8389000
  pub input_height : r.inputs.y ≤ 200000
  pub first_output : r.outputs.x ≤ 8389000
  pub output_gap : r.outputs.gap ≤ 8389000
  pub output_height : r.outputs.y ≤ 200000
  pub output_below : 128 ≤ r.outputs.y
  pub center_x : r.cx ≤ 8389000
  pub center_y : r.cy ≤ 200000

-- the tables of a graph that can be laid: they are linked, the lines are within their array, and those of the ends are whole
pub record Seated (g : Tables) : Type 0 where
  pub linked : Linked g
  pub line_room : g.lines.count ≤ 128
  -- the arrays are as long as they are declared
  pub sources_long : length g.sources.items ≡ 88
  pub sinks_long : length g.sinks.items ≡ 88
