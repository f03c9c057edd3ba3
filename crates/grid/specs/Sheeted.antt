-- Modules 1 to 8 from the chart's bytes: the sheet at an origin in a setting, or the first of the refusals 1 to 14.
-- Assumes nothing.
use Rattle.std.specs.Prelude.{ℕ, ◌+◌, Bool, cond, ◌&&◌, List, leb, Result, Ok, Err}
use Rattle.refusals.specs.declared.Refusal.{Refusal}
use Rattle.refusals.specs.declared.Refusal.TheVariants.{TooFar}
use Rattle.chart.specs.declared.Setting.{Setting}
use Rattle.graph.specs.Shape.{shape_of}
use Rattle.graph.specs.Graphed.{Dag, Graphed, ready as cut, refusal as refused, graphed}
use Rattle.order.specs.Chains.{columns as first_columns}
use Rattle.grid.specs.declared.SheetRecord.{SheetRecord}
use Rattle.grid.specs.RenderGrid.{Sheet, sheet}
use Rattle.grid.specs.Curves.{record_of}

-- a sheet, or a refusal
pub data Sheeted : Type 0 where
  ready : Sheet → Sheeted
  refusal : Refusal → Sheeted

-- not 'Origin plus total exceeds 8,388,608'
abbrev pub within : ℕ → ℕ → Bool
within origin total = leb (origin + total) 8388608

-- 14. 'Origin plus total exceeds 8,388,608 in either direction.'
abbrev pub fitted : ℕ → ℕ → Sheet → Sheeted
fitted x y s = cond (within x s.width && within y s.height) (ready s) (refusal TooFar)

-- the sheet of a cut graph: its first columns are module 5's
unfoldable pub sheet_of_dag : Dag → Sheet
sheet_of_dag d = sheet d.graph d.cuts (first_columns (shape_of d.graph))

abbrev pub drawn : ℕ → ℕ → Graphed → Sheeted
drawn x y (cut d) = fitted x y (sheet_of_dag d)
drawn x y (refused why) = refusal why

-- the sheet of a chart's bytes at the origin x y, in the setting w
unfoldable pub sheeted : Setting → List ℕ → ℕ → ℕ → Sheeted
sheeted w s x y = drawn x y (graphed w s)

-- the answer: each field of the record is fixed, past the counts too
abbrev pub answer_of : ℕ → ℕ → Sheeted → Result SheetRecord Refusal
answer_of x y (ready s) = Ok (record_of s x y)
answer_of x y (refusal why) = Err why
