-- What the functions of the sheet answer, over the arrays that they are handed.
-- Assumes nothing.
use Rattle.std.specs.Prelude.{ℕ, ◌+◌, ◌≤◌, ◌<◌, cond, ◌&&◌, List, [], ◌∷◌, ◌++◌, ltb, get_or, Result, Ok, Err}
use Rattle.laws.specs.Lists.{tabulate, padded}
use Rattle.graph.specs.declared.Item.{Item}
use Rattle.graph.specs.Graph.{Edge, Node, node_at}
use Rattle.graph.specs.code.Tables.{owned, name_line, graph_of}
use Rattle.grid.specs.declared.BoxRecord.{BoxRecord}
use Rattle.grid.specs.declared.Curve.{Curve}
use Rattle.grid.specs.declared.render_node.Run.{Run}
use Rattle.grid.specs.declared.render_node.Sides.{Sides}
use Rattle.grid.specs.declared.render_grid.Axis.{Axis}
use Rattle.grid.specs.declared.render_grid.Axis.TheVariants.{Across, Down}
use Rattle.tables.specs.declared.Table.{Table}
use Rattle.tables.specs.Tables.{empty, pushed_if}
use Rattle.grid.specs.Record.{no_box, no_curve}
use Rattle.grid.specs.RenderNode.{Input, Output, inputs_at, outputs_at, box_width, box_height}
use Rattle.grid.specs.RenderGrid.{begins, owner_in}
use Rattle.grid.specs.Curves.{output_for, curve_if}
use Rattle.grid.specs.code.Rendered.{inputs_of, outputs_of}
use Rattle.refusals.specs.declared.Refusal.{Refusal}
use Rattle.refusals.specs.declared.Refusal.TheVariants.{TooFar}
use Rattle.graph.specs.declared.Name.TheVariants.{Nothing}
use Rattle.graph.specs.declared.Tables.{Tables}
use Rattle.grid.specs.declared.SheetRecord.{SheetRecord}
use Rattle.grid.specs.Sheeted.{within}

-- the first n are at most b
pub record Bounded (b : ℕ) (xs : List ℕ) (n : ℕ) : Type 0 where
  pub most : (k : ℕ) → k < n → get_or xs k 0 ≤ b

-- ---- lines
-- the line of an axis that a box stands in, its size along the axis, and the gap between two lines
abbrev pub line_of : Axis → BoxRecord → ℕ
line_of Across b = b.column
line_of Down b = b.row

abbrev pub size_of : Axis → BoxRecord → ℕ
size_of Across b = b.width
size_of Down b = b.height

abbrev pub gap_of : Axis → ℕ
gap_of Across = 1024
gap_of Down = 2048

abbrev pub begins_to : ℕ → List ℕ → List ℕ → ℕ → List ℕ
begins_to gap places sizes k = padded 144 0 (tabulate (begins gap places sizes) 0 k)

-- ---- boxes
-- box k before it has a place
abbrev pub sized : Tables → List ℕ → List ℕ → ℕ → BoxRecord
sized g rows cols k =
    record {
      x = 0;
      y = 0;
      width = box_width (node_at (graph_of g) k);
      height = box_height (node_at (graph_of g) k);
      column = get_or cols k 0;
      row = get_or rows k 0;
      owner = owner_in k (name_line (get_or g.names k Nothing));
    }

abbrev pub sized_in : Tables → List ℕ → List ℕ → List BoxRecord
sized_in g rows cols = tabulate (sized g rows cols) 0 g.n

-- a box in its place, where columns begin at xs and rows at ys
abbrev pub placed_at : List ℕ → List ℕ → BoxRecord → BoxRecord
placed_at xs ys b =
    record {
      x = get_or xs b.column 0;
      y = get_or ys b.row 0;
      width = b.width;
      height = b.height;
      column = b.column;
      row = b.row;
      owner = b.owner;
    }

-- ---- points in their final places
abbrev pub no_sides : Sides
no_sides = record { inputs = record { x = 0; y = 0; gap = 0 }; outputs = record { x = 0; y = 0; gap = 0 } }

abbrev pub sides_of : Node → Sides
sides_of n = record { inputs = inputs_of n; outputs = outputs_of n }

abbrev pub sides_in : Tables → List Sides
sides_in g = tabulate (λ k. sides_of (node_at (graph_of g) k)) 0 g.n

-- `translate`
abbrev pub moved : Run → BoxRecord → Run
moved r b = record { x = r.x + b.x; y = r.y + b.y; gap = r.gap }

-- the inputs, and the outputs, of each of these boxes
abbrev pub inputs_in : List Sides → List BoxRecord → ℕ → Run
inputs_in ss bs k = moved (get_or ss k no_sides).inputs (get_or bs k no_box)

abbrev pub outputs_in : List Sides → List BoxRecord → ℕ → Run
outputs_in ss bs k = moved (get_or ss k no_sides).outputs (get_or bs k no_box)

-- the numbers are small enough for the sums
pub record Near (r : Run) (b : BoxRecord) : Type 0 where
  pub first : r.x ≤ 8389000
  pub height : r.y ≤ 200000
  pub gap : r.gap ≤ 8389000
  pub across : b.x ≤ 1250000000
  pub down : b.y ≤ 1250000000

pub record Low (r : Run) : Type 0 where
  pub first : r.x ≤ 1300000000
  pub gap : r.gap ≤ 8389000

abbrev pub laid_outputs : Run → List Edge → List Output
laid_outputs r es = outputs_at r.gap r.x r.y es

abbrev pub laid_inputs : Run → List Edge → List Input
laid_inputs r es = inputs_at r.gap r.x r.y es

-- ---- curves
abbrev pub Curves : Type 0
Curves = Table Curve 88

abbrev pub no_curves : Curves
no_curves = empty 88 no_curve

-- one curve more, while there is room
abbrev pub added : Curves → Curve → Curves
added s c = pushed_if (ltb s.count 88) s c

abbrev pub add_all : Curves → List Curve → Curves
add_all s [] = s
add_all s (c ∷ cs) = add_all (added s c) cs

-- the curves to box k that these inputs have, where ys are the records of the sinks and outs the outputs of each box
abbrev pub curves_over : List Item → (ℕ → Run) → ℕ → List Input → List Curve
curves_over ys outs k [] = []
curves_over ys outs k (i ∷ is) = curve_if (output_for i.mark (laid_outputs (outs i.from) (owned i.from ys)) k) i ++ curves_over ys outs k is

-- those of box k, after s, where ins are the inputs of each box and xs the records of the sources
abbrev pub curves_at : List Item → List Item → (ℕ → Run) → (ℕ → Run) → ℕ → Curves → Curves
curves_at xs ys ins outs k s = add_all s (curves_over ys outs k (laid_inputs (ins k) (owned k xs)))

-- 14, of a sheet's record
abbrev pub fitted_of : SheetRecord → Result SheetRecord Refusal
fitted_of s = cond (within s.x s.width && within s.y s.height) (Ok s) (Err TooFar)
