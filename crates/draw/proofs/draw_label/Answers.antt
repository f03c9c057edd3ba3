-- `draw_label`: the table is the stand-in table, so a label of a sheet is refused only where it is not there.
use Rattle.std.proofs.Common.{◌≡◌, ℕ, Bool, true, false, List, Option}
use Rattle.std.specs.Prelude.{Some, None, Result, Ok, Err, is_some, is_ok}
use mathlib.Core.Path.{refl}
use Rattle.refusals.specs.declared.Refusal.{Refusal}
use Rattle.chart.specs.declared.Setting.TheVariants.{Default}
use Rattle.grid.specs.declared.LabelPlace.{LabelPlace}
use Rattle.grid.specs.RenderGrid.{Sheet}
use Rattle.grid.specs.Sheeted.{ready as drawn, sheeted}
use Rattle.grid.specs.Labels.{label_of}
use Rattle.grid.specs.Labelled.{ready_or_15, labelled, label_place_of}
use Rattle.path.specs.Label.{stand_ins, tabled}
use Rattle.path.proofs.LabelCalls.{table-own}
use Rattle.draw.proofs.draw_label.Goals as goal

-- with that table, label i of box k of a chart's sheet is given where it is there
there : (s t : List ℕ) → t ≡ stand_ins → (k i : ℕ) {l : Result LabelPlace Refusal} → l ≡ label_place_of (tabled t (labelled Default s 0 0 k i)) →
    (sh : Sheet) → sheeted Default s 0 0 ≡ drawn sh → is_ok l ≡ is_some (label_of sh k i)
unfolding labelled
there s t f k i e sh q = rw (e, q) (go (label_of sh k i))
  where
    go : (o : Option LabelPlace) → is_ok (label_place_of (tabled t (ready_or_15 o))) ≡ is_some o
    go (Some p) = rw (table-own t f)
    go None = refl

pub returns-in_default : goal.returns-in_default
returns-in_default g c sh q =
    let a = c.args in rw c.in_default.is at (there a.chart.now a.table.now c.requires a.k a.i c.label_place.ensures sh q)

pub returns : goal.returns
returns g c sh q =
    let a = c.args in rw c.in-Ok.is at (there a.chart.now a.table.now c.requires a.k a.i c.label_place.ensures sh q)
