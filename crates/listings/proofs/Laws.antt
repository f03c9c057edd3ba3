-- Laws on the lines of a listing.
-- Assumes nothing.
use Prim.Native.Nat.{ℕ, zero, suc, ◌+◌, ◌<◌, ◌≤◌}
use native.Mathlib.Omega.{arith}
use mathlib.Core.Path.{◌≡◌, refl, sym, ap, ◌∙◌}
use mathlib.Core.Bool.{Bool, true, false}
use mathlib.Core.List.{List, [], ◌∷◌, ◌++◌, append_assoc, append-nil}
use lib.Dec.{leb}
use lib.ListN.{length, get_or, take}
use borrow.Author.Tests.{leb-true}
use Rattle.std.specs.Prelude.{Result, Ok, Err}
use Rattle.refusals.specs.declared.Refusal.{Refusal}
use Rattle.refusals.specs.declared.TextRefusal.{TextRefusal}
use Rattle.refusals.specs.declared.TextRefusal.TheVariants.{TooFar, ShortBuffer}
use Rattle.refusals.specs.Refusals.{numbers_of, text_numbers_of}
use Rattle.grid.specs.declared.BoxRecord.{BoxRecord}
use Rattle.grid.specs.declared.SheetRecord.{SheetRecord}
use Rattle.grid.specs.Record.{sound_of}
use Rattle.grid.specs.Curves.{record_of}
use Rattle.grid.specs.Sheeted.{Sheeted, ready, refusal, answer_of}
use Rattle.path.specs.Text.{text_of}
use Rattle.path.specs.Segments.{drawn_of}
use Rattle.path.specs.Reader.{Answer, segments, refused}
use Rattle.path.specs.Answers.{sheet_answer, written_of, left_of}
use Rattle.path.specs.Promises.{IsWritten}
use Rattle.path.proofs.Laws.{buffer_text}
use Rattle.path.proofs.OwnSheets.{sound-written}
use Rattle.path.proofs.TextSizes.{sound-text-most}
use Rattle.listings.specs.Listings.{box_line, box_lines, text_line, refused_line, answer_line, path_line, sheet_lines, lines_of}

-- one box more
pub one-more : (i k : ℕ) (bs : List BoxRecord) (d : BoxRecord) → k < length bs → box_lines i (take (k + 1) bs) ≡ box_lines i (take k bs) ++ box_line (i + k) (get_or bs k d)
one-more i k [] d h = absurd (omega arith)
one-more i zero (b ∷ bs) d h = let e : i + 0 ≡ i = omega arith in rw e (append-nil (box_line i b))
one-more i (suc k) (b ∷ bs) d h =
    let e : i + 1 + k ≡ i + suc k = omega arith in
    let n : suc k + 1 ≡ suc (k + 1) = omega arith in
    rw n (ap (λ t. box_line i b ++ t) (one-more (i + 1) k bs d (omega arith)) ∙ rw e (sym (append_assoc (box_line i b) (box_lines (i + 1) (take k bs)) (box_line (i + suc k) (get_or bs k d)))))

-- what was written is the path's text
text-of-answer : (a : Answer) (buf : List ℕ) (n : ℕ) → Ok n ≡ written_of buf a → answer_line a ≡ text_line (take n (left_of buf a))
text-of-answer (refused why) buf n e = absurd cc
text-of-answer (segments ds) buf n e = go (leb (0 + length (text_of ds)) (length buf)) refl
  where
    t : List ℕ
    t = text_of ds

    go : (b : Bool) → leb (0 + length t) (length buf) ≡ b → text_line t ≡ text_line (take n (left_of buf (segments ds)))
    go false q = let no : Ok n ≡ Err (ShortBuffer (length t)) = e ∙ rw q in absurd cc
    go true q =
        let yes : Ok n ≡ Ok (length t) = e ∙ rw q in
        let is : n ≡ length t = cc in
        ap text_line (sym (buffer_text buf ds (omega (arith, leb-true (0 + length t) (length buf) q))) ∙ rw is)

pub text-line : {s : SheetRecord} {buf out : List ℕ} {r : Result ℕ TextRefusal} {n : ℕ} → IsWritten s buf r out → r ≡ Ok n → path_line s ≡ text_line (take n out)
text-line {s} {buf} {out} {r} {n} i e = text-of-answer (sheet_answer s) buf n (sym e ∙ i.whole) ∙ ap (λ b. text_line (take n b)) (sym i.bytes)

-- and what was refused is a sheet that is not sound: the text of any other has room
pub refused-line : {s : SheetRecord} {buf out : List ℕ} {r : Result ℕ TextRefusal} {why : TextRefusal} → 9887 ≤ length buf → IsWritten s buf r out → r ≡ Err why → path_line s ≡ refused_line (text_numbers_of why)
refused-line {s} {buf} {out} {r} {why} h i e = go (sound_of s) refl
  where
    go : (b : Bool) → sound_of s ≡ b → path_line s ≡ refused_line (text_numbers_of why)
    go true q =
        let no : r ≡ Ok (length (text_of (drawn_of s))) = sound-written q (omega (arith, sound-text-most s q)) i in
        absurd cc
    go false q =
        let is : Err why ≡ Err TooFar = sym e ∙ i.whole ∙ rw q in
        let same : why ≡ TooFar = cc in
        rw (q, same)

-- the lines of what `sheet` answers
pub ready-lines : (a : Sheeted) (s : SheetRecord) → Ok s ≡ answer_of 0 0 a → lines_of a ≡ sheet_lines s
ready-lines (ready sh) s e = let is : s ≡ record_of sh 0 0 = cc in ap sheet_lines (sym is)
ready-lines (refusal why) s e = absurd cc

pub refusal-line : (a : Sheeted) (why : Refusal) → Err why ≡ answer_of 0 0 a → lines_of a ≡ refused_line (numbers_of why)
refusal-line (ready sh) why e = absurd cc
refusal-line (refusal w) why e = let is : why ≡ w = cc in rw is
