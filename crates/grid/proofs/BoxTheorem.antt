-- Modules 6, 7 and 8 together: the box theorem of every cut graph, and the sheet's size at the chart's limits.
-- Assumes nothing.
use Prim.Native.Nat.{ℕ, ◌+◌, ◌*◌, ◌≤◌, ◌<◌}
use native.Mathlib.Omega.{arith}
use mathlib.Core.Path.{◌≡◌, ◌∙◌}
use mathlib.Core.List.{List}
use lib.ListN.{length}
use Rattle.graph.specs.Graph.{Graph}
use Rattle.graph.specs.Shape.{shape_of}
use Rattle.graph.proofs.EndsLaws.{shape-long}
use Rattle.grid.specs.Lists.{largest}
use Rattle.grid.specs.Columns.{columns}
use Rattle.grid.specs.code.Placed.{Placed, FirstColumns}
use Rattle.grid.specs.Heights.{heights}
use Rattle.grid.specs.RenderGrid.{sheet_of, sheet, widths, tallnesses}
use Rattle.grid.proofs.SheetTheorem.{SheetTheorem, Small}
use Rattle.grid.proofs.ListLaws.{largest-below}
use Rattle.grid.proofs.HeightLaws.{heights-long, heights-below}
use Rattle.grid.proofs.ColumnLaws.{first-placed, columns-placed}
use Rattle.grid.proofs.GridLaws.{box-theorem}
use Rattle.grid.proofs.Totals.{reach_le, widths_le, heights_le}

module _ (g : Graph) (first : List ℕ) (f : FirstColumns (length g) first) where
  tall : length (heights (shape_of g)) ≡ length g
  tall = heights-long (shape_of g) ∙ shape-long g

  -- the columns of module 7 are below 3 times the number of boxes, and no two boxes have the same row and column
  pub placed : Placed (length g) (3 * length g) (heights (shape_of g)) (columns (shape_of g) (heights (shape_of g)) first)
  placed =
      columns-placed (length g) (heights (shape_of g)) tall (shape_of g) (shape-long g) first (first-placed (length g) (heights (shape_of g)) first f)

  -- n nodes are given, with so many leads to nothing, and the cuts made the rest
  pub sheet-theorem : (n leads cuts : ℕ) → length g ≡ n + leads + 2 * cuts → SheetTheorem n leads cuts g (sheet g cuts first)
  unfolding sheet
  sheet-theorem n leads cuts e = box-theorem n leads cuts (3 * length g) g (columns (shape_of g) (heights (shape_of g)) first) (heights (shape_of g)) tall e placed

  -- the sheet's columns and rows, at most: 144 and 48
  module _ (cuts : ℕ) (nodes : length g ≤ 48) where
    columns_le : largest (columns (shape_of g) (heights (shape_of g)) first) ≤ 143
    columns_le =
        let l : largest (columns (shape_of g) (heights (shape_of g)) first) < 144 =
        largest-below (columns (shape_of g) (heights (shape_of g)) first) 144 (omega arith) (λ k h. omega (arith, placed.below k (omega (arith, placed.long)))) in
        omega arith

    rows_le : largest (heights (shape_of g)) ≤ 47
    rows_le =
        let l : largest (heights (shape_of g)) < 48 =
        largest-below (heights (shape_of g)) 48 (omega arith) (λ k h. omega (arith, shape-long g, heights-below (shape_of g) k (omega (arith, heights-long (shape_of g))))) in
        omega arith

    pub columns-few : (sheet g cuts first).columns ≤ 144
    unfolding sheet sheet_of
    columns-few = omega (arith, columns_le)

    pub rows_few : (sheet g cuts first).rows ≤ 48
    unfolding sheet sheet_of
    rows_few = omega (arith, rows_le)

  -- at origin 0 0 no chart meets refusal 14
  module _ (cuts : ℕ) (z : Small g) where
    sheet-small : ((sheet g cuts first).width ≤ 656640) × ((sheet g cuts first).height ≤ 256256)
    unfolding sheet sheet_of
    sheet-small = (
      omega (arith, columns_le cuts z.nodes, z.nodes, z.texts, widths_le g z.narrow, reach_le 1024 (columns (shape_of g) (heights (shape_of g)) first) (widths g)),
      omega (arith, rows_le cuts z.nodes, z.nodes, heights_le g z.lines, reach_le 2048 (heights (shape_of g)) (tallnesses g)),
    )

    pub never_14 : ((sheet g cuts first).width ≤ 8388608) × ((sheet g cuts first).height ≤ 8388608)
    never_14 = (omega (arith, sheet-small.0), omega (arith, sheet-small.1))
