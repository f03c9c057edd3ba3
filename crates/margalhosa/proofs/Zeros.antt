-- No refusal has the number 0: so where a result's `refused` is 0, nothing was refused, and a C caller needs no other test.
-- Assumes nothing.
use Prim.Native.Nat.{ℕ, ◌<◌}
use native.Mathlib.Omega.{arith}
use mathlib.Core.Path.{◌≡◌, refl}
use Rattle.std.specs.Prelude.{Result, Ok, Err}
use Rattle.refusals.specs.declared.Refusal.{Refusal}
use Rattle.refusals.specs.declared.Refusal.TheVariants.{OneByte, OtherFormat, ManyNodes, CutContents, Misplaced, CutBody, ManyLines, LongText, NotText, BytesAfter, ManyEnds, Outside, ManyBoxes, TooFar, NotThere}
use Rattle.refusals.specs.declared.TextRefusal.{TextRefusal}
use Rattle.refusals.specs.Refusals.{numbers_of, text_numbers_of}
use Rattle.signal.specs.declared.NoOrder.{NoOrder}
use Rattle.signal.specs.declared.NoOrder.TheVariants.{Refused, Cycle}
use Rattle.signal.specs.Outcome.{Nodes}
use Rattle.grid.specs.declared.BoxRecord.{BoxRecord}
use Rattle.grid.specs.declared.LabelPlace.{LabelPlace}
use Rattle.grid.specs.declared.SheetRecord.{SheetRecord}
use Rattle.path.specs.declared.Segment.{Segment}
use Rattle.path.specs.declared.LabelSpan.{LabelSpan}
use Rattle.margalhosa.specs.Results.{sheet_result, box_result, segment_result, count_result, label_result, part_result, order_result}

pub number-some : (why : Refusal) → 0 < (numbers_of why).first
number-some OneByte = omega arith
number-some OtherFormat = omega arith
number-some ManyNodes = omega arith
number-some CutContents = omega arith
number-some Misplaced = omega arith
number-some CutBody = omega arith
number-some ManyLines = omega arith
number-some LongText = omega arith
number-some NotText = omega arith
number-some BytesAfter = omega arith
number-some ManyEnds = omega arith
number-some (Outside t) = omega arith
number-some ManyBoxes = omega arith
number-some TooFar = omega arith
number-some NotThere = omega arith

pub text_number-some : (why : TextRefusal) → 0 < (text_numbers_of why).first
text_number-some TextRefusal.TooFar = omega arith
text_number-some TextRefusal.NotThere = omega arith
text_number-some (TextRefusal.ShortBuffer n) = omega arith
text_number-some (TextRefusal.NotProfile p) = omega arith
text_number-some (TextRefusal.LargeNumber p) = omega arith
text_number-some TextRefusal.NoMove = omega arith

pub sheet_zero : (r : Result SheetRecord Refusal) → (sheet_result r).refused ≡ 0 → r ≡ Ok (sheet_result r).sheet
sheet_zero (Ok s) e = refl
sheet_zero (Err why) e = absurd (omega (arith, number-some why, e))

pub box_zero : (r : Result BoxRecord Refusal) → (box_result r).refused ≡ 0 → r ≡ Ok (box_result r).place
box_zero (Ok b) e = refl
box_zero (Err why) e = absurd (omega (arith, number-some why, e))

pub label_zero : (r : Result LabelPlace Refusal) → (label_result r).refused ≡ 0 → (l : LabelPlace) × (r ≡ Ok l)
label_zero (Ok l) e = (l, refl)
label_zero (Err why) e = absurd (omega (arith, number-some why, e))

pub part_zero : (r : Result LabelSpan Refusal) → (part_result r).refused ≡ 0 → (l : LabelSpan) × (r ≡ Ok l)
part_zero (Ok l) e = (l, refl)
part_zero (Err why) e = absurd (omega (arith, number-some why, e))

pub segment_zero : (r : Result Segment TextRefusal) → (segment_result r).refused ≡ 0 → (g : Segment) × (r ≡ Ok g)
segment_zero (Ok g) e = (g, refl)
segment_zero (Err why) e = absurd (omega (arith, text_number-some why, e))

-- so a count is that of all that is written, or of the segments of a text
pub count_zero : (r : Result ℕ TextRefusal) → (count_result r).refused ≡ 0 → r ≡ Ok (count_result r).count
count_zero (Ok n) e = refl
count_zero (Err why) e = absurd (omega (arith, text_number-some why, e))

pub order_zero : (r : Result Nodes NoOrder) → (order_result r).refused ≡ 0 → (t : Nodes) × (r ≡ Ok t)
order_zero (Ok t) e = (t, refl)
order_zero (Err (Cycle t)) e = absurd (omega (arith, e))
order_zero (Err (Refused why)) e = absurd (omega (arith, number-some why, e))
