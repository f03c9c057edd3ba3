-- Reading what is written gives the same segments. Assumes nothing.
use mathlib.Core.Path.{◌≡◌, refl, sym, ap, ◌∙◌}
use mathlib.Core.Bool.{Bool, true, false, cond, not, false≢true}
use mathlib.Core.List.{List, [], ◌∷◌, ◌++◌, append-nil, append_assoc}
use Prim.Native.Nat.{ℕ, zero, suc, ◌+◌, ◌-◌, ◌*◌, ◌/◌, ◌%◌, ◌≤◌, ◌<◌}
use native.Mathlib.Nat.{div-lt_self}
use native.Mathlib.Omega.{arith}
use borrow.Author.Tests.{ltb-true, ltb-false, ne_eqb, le-leb, lt-leb, le-ltb}
use lib.Dec.{eqb, ltb}
use lib.ListN.{length}
use Rattle.laws.proofs.Tests.{and_false}
use Rattle.std.specs.Prelude.{None}
use Rattle.path.specs.declared.reader.Phase.{Phase}
use Rattle.path.specs.declared.reader.Phase.TheVariants.{Begin, Letter, Lettered, Digit, Number, Point, Halved, Stopped}
use Rattle.path.specs.declared.reader.Command.{Command}
use Rattle.path.specs.declared.reader.Act.TheVariants.{Letter as letter}
use Rattle.path.specs.declared.drawn.Drawn.{Drawn}
use Rattle.path.specs.declared.drawn.Drawn.TheVariants.{Move, Line, Cubic, Close}
use Rattle.path.specs.Number.{limit, limit_halves, digits, number_text}
use Rattle.path.specs.Text.{letter_of, numbers_of, numbers_text, segment_text, rest_text, text_of, Small, none, more, Smalls, Led, move}
use Rattle.path.specs.Reader.{is_digit, arity, on_letter, Part, Reading, step, run_from, unread, run, part_of, drawn_all, answer_of, segments, read}
use Rattle.path.proofs.Numbers.{digits-one, digits-tens, text-whole, text-half}
use Rattle.path.proofs.Readings.{part, stand_by}

pub run-append : (xs ys : List ℕ) (at : ℕ) (r : Reading) → run_from (xs ++ ys) at r ≡ run_from ys (at + length xs) (run_from xs at r)
run-append [] ys at r = ap (λ (k : ℕ). run_from ys k r) (omega arith)
run-append (x ∷ xs) ys at r = run-append xs ys (suc at) (step at r x) ∙ ap (λ (k : ℕ). run_from ys k (run_from xs (suc at) (step at r x))) (omega arith)

-- a reading in which no number was too large
abbrev pub mk : Phase → ℕ → ℕ → ℕ → Bool → List Part → Reading
mk p l v g y ps = record { stand = stand_by p l v g None y; parts = ps }

-- ---- a number
pub a-digit : (d : ℕ) → d < 10 → is_digit (48 + d) ≡ true
a-digit d h = rw (le-leb 48 (48 + d) (omega arith), le-leb (48 + d) 57 (omega arith))

pub digits-read : (f n at l v g : ℕ) (y : Bool) (b : Command) (hs : List ℕ) (ps : List Part) → n < f → n ≤ limit
    → run_from (digits n) at (mk Digit (suc l) v g y (part b hs ∷ ps)) ≡ mk Number l n at y (part b (2 * n ∷ hs) ∷ ps)
digits-read zero n at l v g y b hs ps h k = absurd (omega arith)
digits-read (suc f) n at l v g y b hs ps h k =
    go (ltb n 10) refl (λ (s : n / 10 < n). digits-read f (n / 10) at l v g y b hs ps (omega arith) (omega arith))
  where
    go : (t : Bool) → ltb n 10 ≡ t
        → (n / 10 < n → run_from (digits (n / 10)) at (mk Digit (suc l) v g y (part b hs ∷ ps)) ≡ mk Number l (n / 10) at y (part b (2 * (n / 10) ∷ hs) ∷ ps))
        → run_from (digits n) at (mk Digit (suc l) v g y (part b hs ∷ ps)) ≡ mk Number l n at y (part b (2 * n ∷ hs) ∷ ps)
    go true e i =
        let s : n < 10 = ltb-true n 10 e in
        let m : 48 + n - 48 ≡ n = omega arith in
        let o : suc l - 1 ≡ l = omega arith in
        rw (digits-one n s, a-digit n s, m, o)
    go false e i =
        let s : 10 ≤ n = ltb-false n 10 e in
        let w : n / 10 < n = div-lt_self (omega arith) (omega arith) in
        let d : n % 10 < 10 = omega arith in
        let z : (n / 10 ≡ 0 → ⊥) = omega arith in
        let m : 48 + n % 10 - 48 ≡ n % 10 = omega arith in
        let c : 10 * (n / 10) + n % 10 ≡ n = omega arith in
        let u : 10 * (2 * (n / 10)) + 2 * (n % 10) ≡ 2 * n = omega arith in
        let j : n / 10 ≤ limit = omega arith in
        rw (digits-tens n s, run-append (digits (n / 10)) ((48 + n % 10) ∷ []) at (mk Digit (suc l) v g y (part b hs ∷ ps)), i w, ne_eqb (n / 10) 0 z, a-digit (n % 10) d, m, le-leb (n / 10) limit j, c, le-ltb limit n k, u)

-- a phase at the end of a word
abbrev pub is_word : Phase → Bool
is_word Begin = false
is_word Letter = false
is_word Lettered = true
is_word Digit = false
is_word Number = true
is_word Point = false
is_word Halved = true
is_word (Stopped k) = false

-- the reader is at the end of a word, with l numbers to come
pub record Word (r : Reading) (l : ℕ) (y : Bool) (ps : List Part) : Type 0 where
  pub phase : Phase
  pub value : ℕ
  pub begun : ℕ
  pub end : is_word phase ≡ true
  pub same : r ≡ mk phase l value begun y ps

-- a space there
pub space-read : (p : Phase) (at l v g : ℕ) (y : Bool) (ps : List Part) → is_word p ≡ true
    → step at (mk p l v g y ps) 32 ≡ mk (cond (eqb l 0) Letter Digit) l v g y ps
space-read Begin at l v g y ps e = absurd (false≢true e)
space-read Letter at l v g y ps e = absurd (false≢true e)
space-read Lettered at l v g y ps e = refl
space-read Digit at l v g y ps e = absurd (false≢true e)
space-read Number at l v g y ps e = rw (and_false (not (eqb v 0)))
space-read Point at l v g y ps e = absurd (false≢true e)
space-read Halved at l v g y ps e = refl
space-read (Stopped k) at l v g y ps e = absurd (false≢true e)

-- `.5` after a whole number below the limit
pub half-read : (n at l g : ℕ) (y : Bool) (b : Command) (hs : List ℕ) (ps : List Part) → n < limit
    → run_from (46 ∷ 53 ∷ []) at (mk Number l n g y (part b (2 * n ∷ hs) ∷ ps)) ≡ mk Halved l n g y (part b ((2 * n + 1) ∷ hs) ∷ ps)
half-read n at l g y b hs ps h = rw (and_false (not (eqb n 0)), lt-leb limit n h)

-- a space and a number
pub number_read : (h at l : ℕ) (y : Bool) (b : Command) (hs : List ℕ) (ps : List Part) (r : Reading) → h ≤ limit_halves → Word r (suc l) y (part b hs ∷ ps)
    → Word (run_from (32 ∷ number_text h) at r) l y (part b (h ∷ hs) ∷ ps)
number_read h at l y b hs ps r k w = go (h % 2) refl (omega arith)
  where
    starts : step at r 32 ≡ mk Digit (suc l) w.value w.begun y (part b hs ∷ ps)
    starts =
        ap (λ (z : Reading). step at z 32) w.same
        ∙ space-read w.phase at (suc l) w.value w.begun y (part b hs ∷ ps) w.end
        ∙ rw (ne_eqb (suc l) 0 (omega arith))

    whole : h / 2 ≤ limit
    whole = omega arith

    go : (m : ℕ) → h % 2 ≡ m → m < 2 → Word (run_from (32 ∷ number_text h) at r) l y (part b (h ∷ hs) ∷ ps)
    go zero e s =
        let t : h ≡ 2 * (h / 2) = omega arith in
        record {
          phase = Number;
          value = h / 2;
          begun = suc at;
          end = refl;
          same =
              ap (λ (z : Reading). run_from (number_text h) (suc at) z) starts
              ∙ ap (λ (z : List ℕ). run_from z (suc at) (mk Digit (suc l) w.value w.begun y (part b hs ∷ ps))) (ap number_text t ∙ text-whole (h / 2))
              ∙ digits-read (suc (h / 2)) (h / 2) (suc at) l w.value w.begun y b hs ps (omega arith) whole
              ∙ ap (λ (z : ℕ). mk Number l (h / 2) (suc at) y (part b (z ∷ hs) ∷ ps)) (sym t);
        }
    go (suc zero) e s =
        let t : h ≡ 2 * (h / 2) + 1 = omega arith in
        record {
          phase = Halved;
          value = h / 2;
          begun = suc at;
          end = refl;
          same =
              ap (λ (z : Reading). run_from (number_text h) (suc at) z) starts
              ∙ ap (λ (z : List ℕ). run_from z (suc at) (mk Digit (suc l) w.value w.begun y (part b hs ∷ ps))) (ap number_text t ∙ text-half (h / 2))
              ∙ run-append (digits (h / 2)) (46 ∷ 53 ∷ []) (suc at) (mk Digit (suc l) w.value w.begun y (part b hs ∷ ps))
              ∙ ap (λ (z : Reading). run_from (46 ∷ 53 ∷ []) (suc at + length (digits (h / 2))) z) (digits-read (suc (h / 2)) (h / 2) (suc at) l w.value w.begun y b hs ps (omega arith) whole)
              ∙ half-read (h / 2) (suc at + length (digits (h / 2))) l (suc at) y b hs ps (omega arith)
              ∙ ap (λ (z : ℕ). mk Halved l (h / 2) (suc at) y (part b (z ∷ hs) ∷ ps)) (sym t);
        }
    go (suc (suc m)) e s = absurd (omega arith)

-- ---- all numbers of a segment
abbrev pub onto : List ℕ → List ℕ → List ℕ
onto [] hs = hs
onto (k ∷ ks) hs = onto ks (k ∷ hs)

pub numbers-read : (ks : List ℕ) → Small ks → (at : ℕ) (y : Bool) (b : Command) (hs : List ℕ) (ps : List Part) (r : Reading) → Word r (length ks) y (part b hs ∷ ps)
    → Word (run_from (numbers_text ks) at r) 0 y (part b (onto ks hs) ∷ ps)
numbers-read [] none at y b hs ps r w = w
numbers-read (k ∷ ks) (more s ss) at y b hs ps r w =
    rw (run-append (32 ∷ number_text k) (numbers_text ks) at r)
    (numbers-read ks ss (at + length (32 ∷ number_text k)) y b (k ∷ hs) ps (run_from (32 ∷ number_text k) at r)
    (number_read k at (length ks) y b hs ps r s w))

-- ---- a segment
abbrev pub command_of : Drawn → Command
command_of (Move x y) = Command.Move
command_of (Line x y) = Command.Line
command_of (Cubic a b c e f g) = Command.Cubic
command_of Close = Command.Close

abbrev pub part_for : Drawn → Part
part_for d = part (command_of d) (onto (numbers_of d) [])

pub letter_wants : (d : Drawn) → (on_letter (letter_of d) ≡ letter (command_of d)) × (arity (command_of d) ≡ length (numbers_of d))
letter_wants (Move a b) = (refl, refl)
letter_wants (Line a b) = (refl, refl)
letter_wants (Cubic a b c e f g) = (refl, refl)
letter_wants Close = (refl, refl)

part_for_lem : (d : Drawn) → part_of (part_for d) ≡ d
part_for_lem (Move a b) = refl
part_for_lem (Line a b) = refl
part_for_lem (Cubic a b c e f g) = refl
part_for_lem Close = refl

-- after a space
later-read : (d : Drawn) → Small (numbers_of d) → (at : ℕ) (y : Bool) (ps : List Part) (r : Reading) → Word r 0 y ps
    → Word (run_from (32 ∷ segment_text d) at r) 0 y (part_for d ∷ ps)
later-read d s at y ps r w =
    numbers-read (numbers_of d) s (suc (suc at)) y (command_of d) [] ps (step (suc at) (step at r 32) (letter_of d))
    (record {
      phase = Lettered;
      value = w.value;
      begun = w.begun;
      end = refl;
      same =
          ap (λ (z : Reading). step (suc at) (step at z 32) (letter_of d)) w.same
          ∙ ap (λ (z : Reading). step (suc at) z (letter_of d)) (space-read w.phase at 0 w.value w.begun y ps w.end)
          ∙ rw ((letter_wants d).0, (letter_wants d).1);
    })

abbrev pub parts_onto : List Drawn → List Part → List Part
parts_onto [] ps = ps
parts_onto (d ∷ ds) ps = parts_onto ds (part_for d ∷ ps)

drawn-onto : (ds : List Drawn) (ps : List Part) → drawn_all (parts_onto ds ps) ≡ drawn_all ps ++ ds
drawn-onto [] ps = sym (append-nil (drawn_all ps))
drawn-onto (d ∷ ds) ps = drawn-onto ds (part_for d ∷ ps) ∙ rw (part_for_lem d) (append_assoc (drawn_all ps) (d ∷ []) ds)

pub rest_read : (ds : List Drawn) → Smalls ds → (at : ℕ) (y : Bool) (ps : List Part) (r : Reading) → Word r 0 y ps
    → Word (run_from (rest_text ds) at r) 0 y (parts_onto ds ps)
rest_read [] none at y ps r w = w
rest_read (d ∷ ds) (more s ss) at y ps r w =
    rw (run-append (32 ∷ segment_text d) (rest_text ds) at r)
    (rest_read ds ss (at + length (32 ∷ segment_text d)) y (part_for d ∷ ps) (run_from (32 ∷ segment_text d) at r) (later-read d s at y ps r w))

-- ---- the whole text
word-answer : (n : ℕ) (ps : List Part) (r : Reading) → Word r 0 false ps → answer_of n r.stand (drawn_all r.parts) ≡ segments (drawn_all ps)
word-answer n ps r w = ap (λ (z : Reading). answer_of n z.stand (drawn_all z.parts)) w.same ∙ go w.phase w.end
  where
    go : (p : Phase) → is_word p ≡ true → answer_of n (mk p 0 w.value w.begun false ps).stand (drawn_all ps) ≡ segments (drawn_all ps)
    go Begin e = absurd (false≢true e)
    go Letter e = absurd (false≢true e)
    go Lettered e = refl
    go Digit e = absurd (false≢true e)
    go Number e = refl
    go Point e = absurd (false≢true e)
    go Halved e = refl
    go (Stopped k) e = absurd (false≢true e)

pub written_read : (ds : List Drawn) → Led ds → Smalls ds → read (text_of ds) ≡ segments ds
unfolding read run text_of
written_read ds none s = refl
written_read xs (move {x = a} {y = b} {ds = ds}) (more s ss) =
    word-answer (length (segment_text (Move a b) ++ rest_text ds)) (parts_onto ds (part_for (Move a b) ∷ [])) (run_from (segment_text (Move a b) ++ rest_text ds) 0 unread)
    (rw (run-append (segment_text (Move a b)) (rest_text ds) 0 unread)
    (rest_read ds ss (0 + length (segment_text (Move a b))) false (part_for (Move a b) ∷ []) (run_from (segment_text (Move a b)) 0 unread)
    (numbers-read (a ∷ b ∷ []) s 1 false Command.Move [] [] (step 0 unread 77) (record { phase = Lettered; value = 0; begun = 0; end = refl; same = refl }))))
    ∙ ap segments (drawn-onto ds (part_for (Move a b) ∷ []))
