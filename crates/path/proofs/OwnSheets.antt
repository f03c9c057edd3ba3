-- A chart's own sheet: a box, a segment and the text of it are refused by 15 and 16 alone, never by 14. Assumes nothing.
use mathlib.Core.Path.{◌≡◌, sym, subst, ◌∙◌}
use mathlib.Core.Bool.{true}
use mathlib.Core.List.{List, map}
use Prim.Native.Nat.{ℕ, ◌+◌, ◌≤◌, ◌<◌}
use native.Mathlib.Omega.{arith}
use borrow.Author.Tests.{le-leb, lt-leb, lt-ltb, le-ltb}
use lib.ListN.{length, get_or}
use Rattle.laws.proofs.Lists.{length-padded}
use Rattle.chart.specs.declared.Setting.{Setting}
use Rattle.grid.specs.declared.SheetRecord.{SheetRecord}
use Rattle.grid.specs.RenderGrid.{Sheet}
use Rattle.grid.specs.Record.{no_box, no_curve, sound_of, box_answer_of}
use Rattle.grid.specs.Curves.{box_record, curves, record_of}
use Rattle.grid.specs.Sheeted.{ready, sheeted}
use Rattle.grid.specs.LaidOut.{IsSheet}
use Rattle.grid.proofs.SoundLaws.{sheet-sound, Own, own}
use Rattle.std.specs.Prelude.{Result, Ok, Err}
use Rattle.refusals.specs.declared.Refusal.{Refusal}
use Rattle.refusals.specs.declared.Refusal.TheVariants.{NotThere as NoBox}
use Rattle.refusals.specs.declared.TextRefusal.{TextRefusal}
use Rattle.refusals.specs.declared.TextRefusal.TheVariants.{NotThere, ShortBuffer}
use Rattle.path.specs.Drawn.{segment_of}
use Rattle.path.specs.Text.{text_of}
use Rattle.path.specs.Segments.{drawn_of}
use Rattle.path.specs.code.Strokes.{doubled_of, size_of, stroke_at}
use Rattle.path.specs.Answers.{sheet_answer, given_of, written_of}
use Rattle.path.specs.Promises.{IsWritten}
use Rattle.path.proofs.Sheets.{sound-is, drawn-long, by_number}

-- what is answered of a sheet: all that it holds, and else 15 and 16
pub record Serves (r : SheetRecord) : Type 0 where
  pub box : (k : ℕ) → k < r.count → box_answer_of r k ≡ Ok (get_or r.boxes k no_box)
  pub no_box : (k : ℕ) → r.count ≤ k → box_answer_of r k ≡ Err NoBox
  pub segment : (k : ℕ) → k < size_of r → given_of k (sheet_answer r) ≡ Ok (segment_of (doubled_of (stroke_at r k)))
  pub no_segment : (k : ℕ) → size_of r ≤ k → given_of k (sheet_answer r) ≡ Err NotThere
  pub text : (buf : List ℕ) → length (text_of (drawn_of r)) ≤ length buf → written_of buf (sheet_answer r) ≡ Ok (length (text_of (drawn_of r)))
  pub no_text : (buf : List ℕ) → length buf < length (text_of (drawn_of r)) → written_of buf (sheet_answer r) ≡ Err (ShortBuffer (length (text_of (drawn_of r))))

-- so a sound one with whole arrays
pub sound_serves : (r : SheetRecord) → length r.boxes ≡ 48 → length r.curves ≡ 88 → sound_of r ≡ true → Serves r
sound_serves r b c o =
    let long : length (drawn_of r) ≡ size_of r = drawn-long r b c (sound-is r o) in
    record {
      box = λ k h. rw (o, lt-ltb k r.count h);
      no_box = λ k h. rw (o, le-ltb k r.count h);
      segment = λ k h. let l : k < length (drawn_of r) = omega arith in rw (o, lt-ltb k (length (drawn_of r)) l, by_number r b c (sound-is r o) k h);
      no_segment = λ k h. let l : length (drawn_of r) ≤ k = omega arith in rw (o, le-ltb k (length (drawn_of r)) l);
      text = λ buf h. let z : 0 + length (text_of (drawn_of r)) ≡ length (text_of (drawn_of r)) = omega arith in rw (o, z, le-leb (length (text_of (drawn_of r))) (length buf) h);
      no_text = λ buf h. let z : 0 + length (text_of (drawn_of r)) ≡ length (text_of (drawn_of r)) = omega arith in rw (o, z, lt-leb (length (text_of (drawn_of r))) (length buf) h);
    }

-- so `write_sheet` refuses no sound sheet whose text fits
pub sound-written : {r : SheetRecord} {buf out : List ℕ} {w : Result ℕ TextRefusal} → sound_of r ≡ true → length (text_of (drawn_of r)) ≤ length buf → IsWritten r buf w out → w ≡ Ok (length (text_of (drawn_of r)))
sound-written {r} {buf} o h i = let z : 0 + length (text_of (drawn_of r)) ≤ length buf = omega arith in i.whole ∙ rw (o, le-leb (0 + length (text_of (drawn_of r))) (length buf) z)

-- ---- of every chart, at every origin
pub sheet_serves : (v : Setting) (s : List ℕ) (x y : ℕ) (sh : Sheet) → sheeted v s x y ≡ ready sh → Serves (record_of sh x y)
unfolding record_of
sheet_serves v s x y sh e =
    sound_serves (record_of sh x y) (length-padded 48 no_box (map box_record sh.boxes)) (length-padded 88 no_curve (curves sh)) (sheet-sound v s x y sh e)

pub own_serves : (v : Setting) (s : List ℕ) (x y : ℕ) (a : Result SheetRecord Refusal) → IsSheet v s x y a → (r : SheetRecord) → a ≡ Ok r → Serves r
own_serves v s x y a i r q = let o : Own v s x y r = own v s x y r (sym i.whole ∙ q) in subst Serves (sym o.is) (sheet_serves v s x y o.sheet o.laid)
