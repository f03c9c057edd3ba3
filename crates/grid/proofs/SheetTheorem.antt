-- The box theorem of the definition's sheet, over lists, the cells apart: `BoxTheorem` has it of the record that `sheet` hands out.
-- Assumes nothing.
use Prim.Native.Nat.{ℕ, ◌+◌, ◌*◌, ◌≤◌, ◌<◌}
use mathlib.Core.Path.{◌≡◌}
use mathlib.Core.Logic.{◌⊎◌}
use mathlib.Core.List.{map}
use lib.ListN.{length, get_or}
use Rattle.graph.specs.Graph.{Node, Graph, node_at}
use Rattle.grid.specs.Lists.{largest, total}
use Rattle.grid.specs.RenderNode.{text_length, line_length}
use Rattle.grid.specs.RenderGrid.{Box, Sheet, box_at}
use Rattle.grid.specs.Curves.{no_outputs}

-- box k of the sheet
abbrev pub box : Sheet → ℕ → Box
box s k = get_or s.boxes k no_outputs

-- box k names column c and row r
abbrev pub Names : Sheet → ℕ → ℕ → ℕ → Type 0
Names s k c r = ((box s k).column ≡ c) × ((box s k).row ≡ r)

-- the right side of one plus 1,024 is at most the left side of the other
abbrev pub Across : Box → Box → Type 0
Across a b = (a.x + a.width + 1024 ≤ b.x) ⊎ (b.x + b.width + 1024 ≤ a.x)

-- the bottom of one plus 2,048 is at most the top of the other
abbrev pub Down : Box → Box → Type 0
Down a b = (a.y + a.height + 2048 ≤ b.y) ⊎ (b.y + b.height + 2048 ≤ a.y)

-- n nodes are given, with so many leads to nothing; g is the cut graph, which has so many cuts
pub record SheetTheorem (n leads cuts : ℕ) (g : Graph) (s : Sheet) : Type 0 where
  -- each given node has exactly one box: box k is node k's, for each node of the cut graph, and there are no others
  pub one_each : length s.boxes ≡ length g
  pub node's : (k : ℕ) → k < length g → box s k ≡ box_at k (node_at g k) (box s k).column (box s k).row (box s k).x (box s k).y
  pub given : n ≤ length s.boxes
  -- boxes = nodes given + leads to nothing + 2 times cuts; the sheet reports the cuts
  pub boxes : length s.boxes ≡ n + leads + 2 * s.cuts
  pub reports : s.cuts ≡ cuts
  -- each box has a column and a row of the sheet
  pub has_cell : (k : ℕ) → k < length s.boxes → ((box s k).column < s.columns) × ((box s k).row < s.rows)
  -- no two have the same
  pub no_two : (i j c r : ℕ) → i < length s.boxes → j < length s.boxes → Names s i c r → Names s j c r → i ≡ j
  -- any two boxes are at least 1,024 units apart across or 2,048 down
  pub distance : (i j : ℕ) → i < length s.boxes → j < length s.boxes → (i ≡ j → ⊥) → Across (box s i) (box s j) ⊎ Down (box s i) (box s j)
  -- each box is at least 128 inside all four edges of the sheet
  pub left : (k : ℕ) → k < length s.boxes → 128 ≤ (box s k).x
  pub top : (k : ℕ) → k < length s.boxes → 128 ≤ (box s k).y
  pub right : (k : ℕ) → k < length s.boxes → (box s k).x + (box s k).width + 128 ≤ s.width
  pub bottom : (k : ℕ) → k < length s.boxes → (box s k).y + (box s k).height + 128 ≤ s.height

-- the characters of the texts on a node's edges, and on all edges
abbrev pub edge_length : Node → ℕ
edge_length n = total (map text_length n.sources) + total (map text_length n.sinks)

-- What the chart's limits give of the cut graph: at most 48 boxes; 64 texts on edges with 24 characters each; at most 4 lines with at most 24 characters each.
pub record Small (g : Graph) : Type 0 where
  pub nodes : length g ≤ 48
  pub texts : total (map edge_length g) ≤ 64 * 24
  pub lines : (k : ℕ) → k < length g → length (node_at g k).lines ≤ 4
  pub narrow : (k : ℕ) → k < length g → largest (map line_length (node_at g k).lines) ≤ 24
