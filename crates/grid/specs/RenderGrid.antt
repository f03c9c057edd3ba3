-- Document 01, module 8: the sheet, as `RenderGrid::new` has it, from the graph, its columns and its rows.
-- Assumes nothing.
use Rattle.std.specs.Prelude.{ℕ, zero, suc, ◌+◌, max, cond, List, [], ◌∷◌, map, eqb, length}
use Rattle.laws.specs.Lists.{tabulate}
use Rattle.graph.specs.Graph.{Line, given, number, invalid, Node, Graph, node_at}
use Rattle.graph.specs.Shape.{shape_of}
use Rattle.grid.specs.Lists.{largest}
use Rattle.grid.specs.Heights.{heights}
use Rattle.grid.specs.Columns.{at, columns}
use Rattle.grid.specs.RenderNode.{Text, Input, Output, drawn, box_width, box_height}

-- the largest size of the boxes in line c (a column, or a row), 0 where it has none
abbrev pub extent : List ℕ → List ℕ → ℕ → ℕ
extent [] sizes c = 0
extent (p ∷ places) [] c = 0
extent (p ∷ places) (s ∷ sizes) c = max (cond (eqb p c) s 0) (extent places sizes c)

-- where line c begins: PAD, and before it each line's size and the gap
abbrev pub begins : ℕ → List ℕ → List ℕ → ℕ → ℕ
begins gap places sizes zero = 128
begins gap places sizes (suc c) = begins gap places sizes c + extent places sizes c + gap

-- the sheet's size: lines run to the largest used
abbrev pub reach : ℕ → List ℕ → List ℕ → ℕ
reach gap places sizes = begins gap places sizes (largest places) + extent places sizes (largest places) + 128

-- the owner of box k, whose node has these lines (document 02, L6): 'the node itself, the node whose number a cut's box shows, or 255 for a box of L5'
abbrev pub owner_in : ℕ → List Line → ℕ
owner_in k [] = k
owner_in k (given t ∷ ls) = owner_in k ls
owner_in k (number q ∷ ls) = q
owner_in k (invalid t ∷ ls) = 255

-- a box's record: it spans x to x plus width and y to y plus height; texts and points are in their final places
pub record Box : Type 0 where
  pub column : ℕ
  pub row : ℕ
  pub x : ℕ
  pub y : ℕ
  pub width : ℕ
  pub height : ℕ
  pub owner : ℕ
  pub texts : List Text
  pub inputs : List Input
  pub outputs : List Output

pub record Sheet : Type 0 where
  pub columns : ℕ
  pub rows : ℕ
  pub width : ℕ
  pub height : ℕ
  pub cuts : ℕ
  pub boxes : List Box

-- `translate`
abbrev pub text_moved : ℕ → ℕ → Text → Text
text_moved dx dy t = record { x = t.x + dx; y = t.y + dy; size = t.size; width = t.width; line = t.line }

abbrev pub input_moved : ℕ → ℕ → Input → Input
input_moved dx dy i = record { x = i.x + dx; y = i.y + dy; from = i.from; mark = i.mark }

abbrev pub output_moved : ℕ → ℕ → Output → Output
output_moved dx dy o = record { x = o.x + dx; y = o.y + dy; to = o.to }

-- the box of node k, n, in column c and row r, at x and y
abbrev pub box_at : ℕ → Node → ℕ → ℕ → ℕ → ℕ → Box
box_at k n c r x y =
    let d = drawn n in
    record {
      column = c;
      row = r;
      x = x;
      y = y;
      width = d.width;
      height = d.height;
      owner = owner_in k n.lines;
      texts = map (text_moved x y) d.texts;
      inputs = map (input_moved x y) d.inputs;
      outputs = map (output_moved x y) d.outputs;
    }

abbrev pub widths : Graph → List ℕ
widths g = map box_width g

abbrev pub tallnesses : Graph → List ℕ
tallnesses g = map box_height g

-- box k
abbrev pub box_of : Graph → List ℕ → List ℕ → ℕ → Box
box_of g cols rows k =
    box_at k (node_at g k) (at cols k) (at rows k) (begins 1024 cols (widths g) (at cols k)) (begins 2048 rows (tallnesses g) (at rows k))

-- The sheet of the graph with these columns and rows, which has so many cuts. Columns and rows run to the largest used, so an empty chart has one empty cell.
unfoldable pub sheet_of : Graph → ℕ → List ℕ → List ℕ → Sheet
sheet_of g cuts cols rows =
    record {
      columns = suc (largest cols);
      rows = suc (largest rows);
      width = reach 1024 cols (widths g);
      height = reach 2048 rows (tallnesses g);
      cuts = cuts;
      boxes = tabulate (box_of g cols rows) 0 (length g);
    }

-- modules 6, 7 and 8: the sheet of a cut graph whose nodes have these first columns
unfoldable pub sheet : Graph → ℕ → List ℕ → Sheet
sheet g cuts first = let s = shape_of g in let rows = heights s in sheet_of g cuts (columns s rows first) rows
