-- A label of a chart's sheet from the chart's bytes, 'the chart being laid out anew': its place, or the first of the refusals 1 to 15.
-- Assumes nothing.
use Rattle.std.specs.Prelude.{ℕ, List, Option, Some, None, Result, Ok, Err}
use Rattle.refusals.specs.declared.Refusal.{Refusal}
use Rattle.refusals.specs.declared.Refusal.TheVariants.{NotThere}
use Rattle.chart.specs.declared.Setting.{Setting}
use Rattle.grid.specs.declared.LabelPlace.{LabelPlace}
use Rattle.grid.specs.RenderGrid.{Sheet}
use Rattle.grid.specs.Sheeted.{Sheeted, ready as drawn, refusal as refused, sheeted}
use Rattle.grid.specs.Labels.{label_of}

-- a label's place, or a refusal
pub data Labelled : Type 0 where
  ready : LabelPlace → Labelled
  refusal : Refusal → Labelled

-- 15. 'A box, label .. number that isn't there'
abbrev pub ready_or_15 : Option LabelPlace → Labelled
ready_or_15 (Some p) = ready p
ready_or_15 None = refusal NotThere

abbrev pub label_in : Sheet → ℕ → ℕ → Labelled
label_in sh k i = ready_or_15 (label_of sh k i)

-- 1 to 14 come first
abbrev pub label_on : ℕ → ℕ → Sheeted → Labelled
label_on k i (drawn sh) = label_in sh k i
label_on k i (refused why) = refusal why

-- label i of box k of the chart's sheet at the origin x y in the setting w; the origin is not added to its place
unfoldable pub labelled : Setting → List ℕ → ℕ → ℕ → ℕ → ℕ → Labelled
labelled w s x y k i = label_on k i (sheeted w s x y)

abbrev pub label_place_of : Labelled → Result LabelPlace Refusal
label_place_of (ready p) = Ok p
label_place_of (refusal why) = Err why
