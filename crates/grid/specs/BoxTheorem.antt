-- Demand 3, the box theorem: what is claimed of a sheet that is laid out from a chart, a field for each sentence.
-- Assumes nothing.
use Rattle.std.specs.Prelude.{ℕ, ◌+◌, ◌*◌, ◌≤◌, ◌<◌, ◌≡◌, ◌⊎◌, ◌↔◌, length, get_or}
use Rattle.laws.specs.Lists.{one}
use Rattle.graph.specs.Graph.{number, Graph, node_at}
use Rattle.grid.specs.declared.BoxRecord.{BoxRecord}
use Rattle.grid.specs.declared.SheetRecord.{SheetRecord}
use Rattle.grid.specs.RenderNode.{box_width, box_height}
use Rattle.grid.specs.Record.{no_box}
use Rattle.grid.specs.Cells.{cell_at, cells_in}

-- box k of the sheet
abbrev pub box : SheetRecord → ℕ → BoxRecord
box s k = get_or s.boxes k no_box

-- what the rows of cells show at column c and row r: a box's number, or 255
abbrev pub cell : SheetRecord → ℕ → ℕ → ℕ
cell s c r = cell_at (cells_in s) r c

-- 'A cell holds a box exactly if the box's record names both' its column and its row
abbrev pub Names : SheetRecord → ℕ → ℕ → ℕ → Type 0
Names s k c r = ((box s k).column ≡ c) × ((box s k).row ≡ r)

-- 'the right side of one plus 1,024 is at most the left side of the other'
abbrev pub Across : BoxRecord → BoxRecord → Type 0
Across a b = (a.x + a.width + 1024 ≤ b.x) ⊎ (b.x + b.width + 1024 ≤ a.x)

-- '2,048 down likewise, bottom and top'
abbrev pub Down : BoxRecord → BoxRecord → Type 0
Down a b = (a.y + a.height + 2048 ≤ b.y) ⊎ (b.y + b.height + 2048 ≤ a.y)

-- n nodes are given, with so many leads to nothing; g is the cut graph, and the walk made so many cuts
pub record BoxTheorem (n leads cuts : ℕ) (g : Graph) (s : SheetRecord) : Type 0 where
  -- one box for each node of the cut graph, box k for node k: so one for each given node, and no other for it
  pub one_each : s.count ≡ length g
  pub given : n ≤ s.count
  pub widths : (k : ℕ) → k < s.count → (box s k).width ≡ box_width (node_at g k)
  pub heights : (k : ℕ) → k < s.count → (box s k).height ≡ box_height (node_at g k)
  -- boxes = nodes + leads to nothing + 2 × cuts: 'as many boxes as nodes, plus leads to nothing, plus two per cut'
  pub boxes : s.count ≡ n + leads + 2 * s.cuts
  -- cuts exactly those of the walk
  pub walked : s.cuts ≡ cuts
  -- the cells: at most 144 columns and 48 rows, which the rows of cells show
  pub columns : s.columns ≤ 144
  pub rows : s.rows ≤ 48
  -- each box in one cell
  pub in_cell : (k : ℕ) → k < s.count → ((box s k).column < s.columns) × ((box s k).row < s.rows) × (cell s (box s k).column (box s k).row ≡ k)
  pub no_other : (k c r : ℕ) → c < s.columns → r < s.rows → k < 255 → cell s c r ≡ k → (k < s.count) × Names s k c r
  -- no cell with two
  pub no_two : (i j c r : ℕ) → i < s.count → j < s.count → Names s i c r → Names s j c r → i ≡ j
  -- a cell is empty exactly when no box names it
  pub empty : (c r : ℕ) → c < s.columns → r < s.rows → (cell s c r ≡ 255) ↔ ((k : ℕ) → k < s.count → Names s k c r → ⊥)
  -- any two boxes are 1,024 apart across or 2,048 down
  pub distance : (i j : ℕ) → i < s.count → j < s.count → (i ≡ j → ⊥) → Across (box s i) (box s j) ⊎ Down (box s i) (box s j)
  -- each is 128 inside all four edges
  pub left : (k : ℕ) → k < s.count → 128 ≤ (box s k).x
  pub top : (k : ℕ) → k < s.count → 128 ≤ (box s k).y
  pub right : (k : ℕ) → k < s.count → (box s k).x + (box s k).width + 128 ≤ s.width
  pub bottom : (k : ℕ) → k < s.count → (box s k).y + (box s k).height + 128 ≤ s.height
  -- document 02, L6: a given node owns its box; 255 stands for 'a box of L5'; a cut's box is owned by 'the node whose number' it 'shows', a given one
  pub owner_given : (k : ℕ) → k < n → (box s k).owner ≡ k
  pub owner_lead : (k : ℕ) → n ≤ k → k < n + leads → (box s k).owner ≡ 255
  pub owner_cut : (k : ℕ) → n + leads ≤ k → k < s.count → ((box s k).owner < n) × ((node_at g k).lines ≡ one (number (box s k).owner))
  -- 'both halves of a cut must have the pen of the block they stand for': cut j made boxes n + leads + 2 × j and the next, and they have one owner
  pub owner_halves : (j : ℕ) → j < cuts → (box s (n + leads + 2 * j)).owner ≡ (box s (n + leads + 2 * j + 1)).owner
  -- 'the owner of every box without 255 is a given node'
  pub owners : (k : ℕ) → k < s.count → ((box s k).owner ≡ 255 → ⊥) → (box s k).owner < n
