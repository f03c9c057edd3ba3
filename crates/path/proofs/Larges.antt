-- 18: a profile text is refused 18 exactly if it has a number above the limit, and the place is that of its first digit. Assumes nothing.
use mathlib.Core.Path.{◌≡◌, refl, sym, ap, ◌∙◌, subst}
use mathlib.Core.Logic.{◌⊎◌, inl, inr}
use mathlib.Core.Bool.{Bool, true, false, not}
use mathlib.Core.List.{List, [], ◌∷◌, ◌++◌, append_assoc}
use Prim.Native.Nat.{ℕ, zero, suc, ◌+◌, ◌-◌, ◌*◌, ◌/◌, ◌%◌, ◌≤◌, ◌<◌}
use native.Mathlib.Nat.{div-lt_self}
use native.Mathlib.Omega.{arith}
use borrow.Author.Tests.{eqb-true, eqb-false, leb-true, leb-false, lt-ltb, le-leb, ne_eqb}
use lib.Dec.{eqb, leb, ltb}
use lib.ListN.{length, length-append}
use Rattle.std.specs.Prelude.{Some, None}
use Rattle.refusals.specs.declared.TextRefusal.TheVariants.{LargeNumber}
use Rattle.path.specs.declared.reader.Phase.TheVariants.{Lettered, Digit, Number}
use Rattle.path.specs.declared.reader.Command.{Command}
use Rattle.path.specs.declared.reader.Act.{Act}
use Rattle.path.specs.declared.reader.Act.TheVariants.{Letter as letter, Space as space, First as first, More as more, Point as point, Half as half, Stop as stop, Stay as stay}
use Rattle.path.specs.declared.reader.Stand.{Stand}
use Rattle.path.specs.declared.drawn.Drawn.{Drawn}
use Rattle.path.specs.Number.{limit, limit_halves, digits, number_text}
use Rattle.path.specs.Text as text
use Rattle.path.specs.Text.{letter_of, numbers_of, numbers_text, segment_text, rest_text, text_of, Small, Smalls}
use Rattle.path.specs.Profile.{Large, lead_text, text_before, place_of}
use Rattle.path.specs.Reader.{is_move, act, grown, first_large, moved, Part, Reading, step, run_from, unread, run, drawn_all, ended, refused, read}
use Rattle.path.proofs.Numbers.{digits-tens, text-whole, text-half}
use Rattle.path.proofs.Words.{numbers-append}
use Rattle.path.proofs.Backs.{rest-append}
use Rattle.path.proofs.Readings.{part, read_held, ended-text, refused-told}
use Rattle.path.proofs.Writings.{run-append, mk, Word, a-digit, digits-read, space-read, number_read, rest_read, letter_wants, command_of, part_for, parts_onto}
use Rattle.path.proofs.Fronts.{text-ended}

-- ---- once a number was too large, its place stays
-- a number was too large, and the first such began at p
abbrev Over : Stand → ℕ → Type 0
Over s p = s.large ≡ Some p

moved-over : (a : Act) (at : ℕ) (s : Stand) (p : ℕ) → Over s p → Over (moved a at s) p
moved-over (letter b) at s p o = o
moved-over space at s p o = o
moved-over (first d) at s p o = o
moved-over (more d) at s p o = ap (first_large (ltb limit (grown s.value d)) s.begun) o
moved-over point at s p o = o
moved-over half at s p o = ap (first_large (leb limit s.value) s.begun) o
moved-over stop at s p o = o
moved-over stay at s p o = o

run-over : (bs : List ℕ) (at : ℕ) (r : Reading) (p : ℕ) → Over r.stand p → Over (run_from bs at r).stand p
run-over [] at r p o = o
run-over (b ∷ bs) at r p o = run-over bs (suc at) (step at r b) p (moved-over (act r.stand b) at r.stand p o)

-- ---- a number above the limit
module _ (at l v g : ℕ) (y : Bool) (b : Command) (hs : List ℕ) (ps : List Part) where
  -- the reader before its first digit
  abbrev start : Reading
  start = mk Digit (suc l) v g y (part b hs ∷ ps)

  -- one digit more makes it too large
  grows-over : (n d k : ℕ) → 0 < n → d < 10 → n ≤ limit → limit < 10 * n + d → Over (step k (mk Number l n at y (part b (2 * n ∷ hs) ∷ ps)) (48 + d)).stand at
  grows-over n d k z s h o =
      let m : 48 + d - 48 ≡ d = omega arith in
      let w : (n ≡ 0 → ⊥) = omega arith in
      rw (ne_eqb n 0 w, a-digit d s, m, le-leb n limit h, lt-ltb limit (10 * n + d) o) refl

  digits-over : (f n : ℕ) → n < f → limit < n → Over (run_from (digits n) at start).stand at
  digits-over zero n h k = absurd (omega arith)
  digits-over (suc f) n h k = go (leb (n / 10) limit) refl (λ (s : limit < n / 10) (w : n / 10 < n). digits-over f (n / 10) (omega arith) s)
    where
      tens : 10 ≤ n
      tens = omega arith

      less : n / 10 < n
      less = div-lt_self (omega arith) (omega arith)

      split : run_from (digits n) at start ≡ run_from ((48 + n % 10) ∷ []) (at + length (digits (n / 10))) (run_from (digits (n / 10)) at start)
      split = ap (λ (z : List ℕ). run_from z at start) (digits-tens n tens) ∙ run-append (digits (n / 10)) ((48 + n % 10) ∷ []) at start

      go : (t : Bool) → leb (n / 10) limit ≡ t → (limit < n / 10 → n / 10 < n → Over (run_from (digits (n / 10)) at start).stand at) → Over (run_from (digits n) at start).stand at
      go true e i =
          let s : n / 10 ≤ limit = leb-true (n / 10) limit e in
          let c : limit < 10 * (n / 10) + n % 10 = omega arith in
          rw (split, digits-read (suc (n / 10)) (n / 10) at l v g y b hs ps (omega arith) s)
          (grows-over (n / 10) (n % 10) (at + length (digits (n / 10))) (omega arith) (omega arith) s c)
      go false e i =
          let s : limit < n / 10 = leb-false (n / 10) limit e in
          rw split (run-over ((48 + n % 10) ∷ []) (at + length (digits (n / 10))) (run_from (digits (n / 10)) at start) at (i s less))

  -- `.5` at the limit makes it too large
  half_over : (k : ℕ) → Over (run_from (46 ∷ 53 ∷ []) k (mk Number l limit at y (part b (2 * limit ∷ hs) ∷ ps))).stand at
  half_over k = refl

  number-over : (h : ℕ) → limit_halves < h → Over (run_from (number_text h) at start).stand at
  number-over h k = go (h % 2) refl (omega arith)
    where
      go : (m : ℕ) → h % 2 ≡ m → m < 2 → Over (run_from (number_text h) at start).stand at
      go zero e s =
          let t : h ≡ 2 * (h / 2) = omega arith in
          subst (λ (z : List ℕ). Over (run_from z at start).stand at) (sym (ap number_text t ∙ text-whole (h / 2)))
          (digits-over (suc (h / 2)) (h / 2) (omega arith) (omega arith))
      go (suc zero) e s =
          let t : h ≡ 2 * (h / 2) + 1 = omega arith in
          subst (λ (z : List ℕ). Over (run_from z at start).stand at) (sym (ap number_text t ∙ text-half (h / 2)))
          (rw (run-append (digits (h / 2)) (46 ∷ 53 ∷ []) at start) (at_point (eqb (h / 2) limit) refl))
        where
          at_point : (t : Bool) → eqb (h / 2) limit ≡ t → Over (run_from (46 ∷ 53 ∷ []) (at + length (digits (h / 2))) (run_from (digits (h / 2)) at start)).stand at
          at_point true z =
              let w : h / 2 ≡ limit = eqb-true (h / 2) limit z in
              rw (w, digits-read (suc limit) limit at l v g y b hs ps (omega arith) (omega arith)) (half_over (at + length (digits limit)))
          at_point false z =
              let w : (h / 2 ≡ limit → ⊥) = eqb-false (h / 2) limit z in
              run-over (46 ∷ 53 ∷ []) (at + length (digits (h / 2))) (run_from (digits (h / 2)) at start) at (digits-over (suc (h / 2)) (h / 2) (omega arith) (omega arith))
      go (suc (suc m)) e s = absurd (omega arith)

-- ---- the reader at the end of a word, with l numbers to come, whatever it has read
record Somewhere (r : Reading) (l : ℕ) : Type 0 where
  y : Bool
  b : Command
  hs : List ℕ
  ps : List Part
  word : Word r l y (part b hs ∷ ps)

not_over : (r : Reading) (l : ℕ) → Somewhere r l → r.stand.large ≡ None
not_over r l w = ap (λ (z : Reading). z.stand.large) w.word.same

number_passed : (k at l : ℕ) (r : Reading) → k ≤ limit_halves → Somewhere r (suc l) → Somewhere (run_from (32 ∷ number_text k) at r) l
number_passed k at l r h w =
    record {
      y = w.y;
      b = w.b;
      hs = k ∷ w.hs;
      ps = w.ps;
      word = number_read k at l w.y w.b w.hs w.ps r h w.word;
    }

-- one more for each of the list
abbrev onward : ℕ → List ℕ → ℕ
onward l [] = l
onward l (k ∷ ks) = suc (onward l ks)

onward-is : (l : ℕ) (ks : List ℕ) → onward l ks ≡ length ks + l
onward-is l [] = omega arith
onward-is l (k ∷ ks) = omega (arith, onward-is l ks)

passed-read : (ks : List ℕ) → Small ks → (at l : ℕ) (r : Reading) → Somewhere r (onward l ks) → Somewhere (run_from (numbers_text ks) at r) l
passed-read [] text.none at l r w = w
passed-read (k ∷ ks) (text.more s ss) at l r w =
    rw (run-append (32 ∷ number_text k) (numbers_text ks) at r)
    (passed-read ks ss (at + length (32 ∷ number_text k)) l (run_from (32 ∷ number_text k) at r) (number_passed k at (onward l ks) r s w))

large-read : (h at l : ℕ) (r : Reading) → limit_halves < h → Somewhere r (suc l) → Over (run_from (32 ∷ number_text h) at r).stand (suc at)
large-read h at l r k w =
    let e : step at r 32 ≡ mk Digit (suc l) w.word.value w.word.begun w.y (part w.b w.hs ∷ w.ps) =
    ap (λ (z : Reading). step at z 32) w.word.same
    ∙ space-read w.word.phase at (suc l) w.word.value w.word.begun w.y (part w.b w.hs ∷ w.ps) w.word.end
    ∙ rw (ne_eqb (suc l) 0 (omega arith)) in
    subst (λ (z : Reading). Over (run_from (number_text h) (suc at) z).stand (suc at)) (sym e)
    (number-over (suc at) l w.word.value w.word.begun w.y w.b w.hs w.ps h k)

-- ---- segments with no number above the limit, and the next letter
first-letter : (d : Drawn) → Somewhere (step 0 unread (letter_of d)) (length (numbers_of d))
first-letter d =
    record {
      y = not (is_move (command_of d));
      b = command_of d;
      hs = [];
      ps = [];
      word = record { phase = Lettered; value = 0; begun = 0; end = refl; same = rw ((letter_wants d).0, (letter_wants d).1) };
    }

first_read : (d : Drawn) → Small (numbers_of d) → Somewhere (run_from (segment_text d) 0 unread) 0
first_read d s =
    let e : length (numbers_of d) ≡ onward 0 (numbers_of d) = omega (arith, onward-is 0 (numbers_of d)) in
    passed-read (numbers_of d) s 1 0 (step 0 unread (letter_of d)) (subst (Somewhere (step 0 unread (letter_of d))) e (first-letter d))

all_read : (d : Drawn) (ds : List Drawn) → Smalls (d ∷ ds) → Somewhere (run_from (text_of (d ∷ ds)) 0 unread) 0
unfolding text_of
all_read d ds (text.more s ss) =
    let w : Somewhere (run_from (segment_text d) 0 unread) 0 = first_read d s in
    rw (run-append (segment_text d) (rest_text ds) 0 unread)
    (later ds (part w.b w.hs) w.ps (run_from (rest_text ds) (0 + length (segment_text d)) (run_from (segment_text d) 0 unread)) w.y (rest_read ds ss (0 + length (segment_text d)) w.y (part w.b w.hs ∷ w.ps) (run_from (segment_text d) 0 unread) w.word))
  where
    later : (es : List Drawn) (p : Part) (ps : List Part) (r : Reading) (y : Bool) → Word r 0 y (parts_onto es (p ∷ ps)) → Somewhere r 0
    later [] p ps r y w = record { y = y; b = p.command; hs = p.numbers; ps = ps; word = w }
    later (e ∷ es) p ps r y w = later es (part_for e) (p ∷ ps) r y w

-- a space and a letter
next-letter : (d : Drawn) (at : ℕ) (r : Reading) → Somewhere r 0 → Somewhere (run_from (32 ∷ letter_of d ∷ []) at r) (length (numbers_of d))
next-letter d at r w =
    record {
      y = w.y;
      b = command_of d;
      hs = [];
      ps = part w.b w.hs ∷ w.ps;
      word =
          record {
            phase = Lettered;
            value = w.word.value;
            begun = w.word.begun;
            end = refl;
            same =
                ap (λ (z : Reading). step (suc at) (step at z 32) (letter_of d)) w.word.same
                ∙ ap (λ (z : Reading). step (suc at) z (letter_of d)) (space-read w.word.phase at 0 w.word.value w.word.begun w.y (part w.b w.hs ∷ w.ps) w.word.end)
                ∙ rw ((letter_wants d).0, (letter_wants d).1);
          };
    }

lead-read : (ds : List Drawn) (d : Drawn) → Smalls ds → Somewhere (run_from (lead_text ds ++ letter_of d ∷ []) 0 unread) (length (numbers_of d))
lead-read [] d s = first-letter d
lead-read (e ∷ es) d s =
    let q : lead_text (e ∷ es) ++ letter_of d ∷ [] ≡ text_of (e ∷ es) ++ 32 ∷ letter_of d ∷ [] = append_assoc (text_of (e ∷ es)) (32 ∷ []) (letter_of d ∷ []) in
    rw (q, run-append (text_of (e ∷ es)) (32 ∷ letter_of d ∷ []) 0 unread)
    (next-letter d (0 + length (text_of (e ∷ es))) (run_from (text_of (e ∷ es)) 0 unread) (all_read e es s))

-- ---- the text, split at the number
lead-split : (ds : List Drawn) (d : Drawn) (es : List Drawn) → text_of (ds ++ d ∷ es) ≡ (lead_text ds ++ letter_of d ∷ []) ++ (numbers_text (numbers_of d) ++ rest_text es)
unfolding text_of
lead-split [] d es = refl
lead-split (c ∷ cs) d es = rw (rest-append cs (d ∷ es)) (simp append_assoc)

numbers-split : (hs gs : List ℕ) (h : ℕ) (ks t : List ℕ) → ks ≡ hs ++ h ∷ gs → numbers_text ks ++ t ≡ numbers_text hs ++ ((32 ∷ number_text h) ++ (numbers_text gs ++ t))
numbers-split hs gs h ks t e = rw (e, numbers-append hs (h ∷ gs)) (simp append_assoc)

module _ (ds : List Drawn) (l : Large ds) where
  -- the segments before, and the letter
  abbrev lead : List ℕ
  lead = lead_text l.early ++ letter_of l.here ∷ []

  large-split : text_of ds ≡ lead ++ (numbers_text l.passed ++ ((32 ∷ number_text l.large) ++ (numbers_text l.rest ++ rest_text l.late)))
  large-split =
      ap text_of l.segments ∙ lead-split l.early l.here l.late
      ∙ ap (λ (z : List ℕ). lead ++ z) (numbers-split l.passed l.rest l.large (numbers_of l.here) (rest_text l.late) l.numbers)

  -- before the number stands `text_before`
  pub large-stands : text_of ds ≡ text_before l ++ (number_text l.large ++ (numbers_text l.rest ++ rest_text l.late))
  large-stands = large-split ∙ simp append_assoc

  abbrev up_to : Reading
  up_to = run_from (numbers_text l.passed) (0 + length lead) (run_from lead 0 unread)

  abbrev spot : ℕ
  spot = 0 + length lead + length (numbers_text l.passed)

  here_somewhere : Somewhere up_to (suc (length l.rest))
  here_somewhere =
      let e : length (numbers_of l.here) ≡ onward (suc (length l.rest)) l.passed = omega (arith, onward-is (suc (length l.rest)) l.passed, ap length l.numbers, length-append l.passed (l.large ∷ l.rest)) in
      passed-read l.passed l.passed_small (0 + length lead) (suc (length l.rest)) (run_from lead 0 unread) (subst (Somewhere (run_from lead 0 unread)) e (lead-read l.early l.here l.early_small))

  split-run : run (text_of ds) ≡ run_from (numbers_text l.rest ++ rest_text l.late) (spot + length (32 ∷ number_text l.large)) (run_from (32 ∷ number_text l.large) spot up_to)
  unfolding run
  split-run =
      ap (λ (z : List ℕ). run_from z 0 unread) large-split
      ∙ run-append lead (numbers_text l.passed ++ ((32 ∷ number_text l.large) ++ (numbers_text l.rest ++ rest_text l.late))) 0 unread
      ∙ run-append (numbers_text l.passed) ((32 ∷ number_text l.large) ++ (numbers_text l.rest ++ rest_text l.late)) (0 + length lead) (run_from lead 0 unread)
      ∙ run-append (32 ∷ number_text l.large) (numbers_text l.rest ++ rest_text l.late) spot up_to

  place_is : suc spot ≡ place_of l
  place_is = omega (arith, length-append (lead ++ numbers_text l.passed) (32 ∷ []), length-append lead (numbers_text l.passed))

  large-over : Over (run (text_of ds)).stand (place_of l)
  large-over =
      subst (λ (z : ℕ). Over (run (text_of ds)).stand z) place_is
      (rw split-run
      (run-over (numbers_text l.rest ++ rest_text l.late) (spot + length (32 ∷ number_text l.large)) (run_from (32 ∷ number_text l.large) spot up_to) (suc spot)
      (large-read l.large spot (length l.rest) up_to l.over here_somewhere)))

-- ---- the answer
-- a profile text with a number above the limit is refused 18, at the place of the first such
pub large_18 : (ds : List Drawn) (l : Large ds) → read (text_of ds) ≡ refused (LargeNumber (place_of l))
unfolding read
large_18 ds l = rw (text-ended ds, large-over ds l)

pub smalls_not : (ds : List Drawn) → Smalls ds → (run (text_of ds)).stand.large ≡ None
unfolding run text_of
smalls_not [] s = refl
smalls_not (d ∷ ds) s = not_over (run_from (text_of (d ∷ ds)) 0 unread) 0 (all_read d ds s)

-- ---- either no number is above the limit, or there is a first such
record Split (hs : List ℕ) : Type 0 where
  passed : List ℕ
  large : ℕ
  rest : List ℕ
  same : hs ≡ passed ++ large ∷ rest
  small : Small passed
  over : limit_halves < large

numbers-either : (hs : List ℕ) → Small hs ⊎ Split hs
numbers-either [] = inl text.none
numbers-either (h ∷ hs) = go (leb h limit_halves) refl (numbers-either hs)
  where
    go : (t : Bool) → leb h limit_halves ≡ t → Small hs ⊎ Split hs → Small (h ∷ hs) ⊎ Split (h ∷ hs)
    go true e (inl s) = inl (text.more (leb-true h limit_halves e) s)
    go true e (inr s) = inr (record { passed = h ∷ s.passed; large = s.large; rest = s.rest; same = ap (λ (z : List ℕ). h ∷ z) s.same; small = text.more (leb-true h limit_halves e) s.small; over = s.over })
    go false e i = inr (record { passed = []; large = h; rest = hs; same = refl; small = text.none; over = leb-false h limit_halves e })

pub either : (ds : List Drawn) → Smalls ds ⊎ Large ds
either [] = inl text.none
either (d ∷ ds) = go (numbers-either (numbers_of d)) (either ds)
  where
    go : Small (numbers_of d) ⊎ Split (numbers_of d) → Smalls ds ⊎ Large ds → Smalls (d ∷ ds) ⊎ Large (d ∷ ds)
    go (inl s) (inl r) = inl (text.more s r)
    go (inl s) (inr l) =
        inr
        (record {
          early = d ∷ l.early;
          here = l.here;
          late = l.late;
          passed = l.passed;
          large = l.large;
          rest = l.rest;
          segments = ap (λ (z : List Drawn). d ∷ z) l.segments;
          numbers = l.numbers;
          early_small = text.more s l.early_small;
          passed_small = l.passed_small;
          over = l.over;
        })
    go (inr s) i =
        inr
        (record {
          early = [];
          here = d;
          late = ds;
          passed = s.passed;
          large = s.large;
          rest = s.rest;
          segments = refl;
          numbers = s.same;
          early_small = text.none;
          passed_small = s.small;
          over = s.over;
        })

-- a text refused 18 is a profile text with a number above the limit, and the place is that of its first digit
pub refused_18 : (s : List ℕ) (p : ℕ) → read s ≡ refused (LargeNumber p) → (ds : List Drawn) × (text_of ds ≡ s) × (l : Large ds) × (p ≡ place_of l)
refused_18 s p e = go (either (drawn_all (run s).parts))
  where
    told : (ended (run s).stand.phase (run s).stand.left ≡ true) × ((run s).stand.large ≡ Some p)
    told = refused-told (length s) (run s).stand (drawn_all (run s).parts) (LargeNumber p) (unfold read in e)

    same : text_of (drawn_all (run s).parts) ≡ s
    same = ended-text (run s).stand.phase (run s).stand.left (run s).stand.value (run s).parts s (read_held s) told.0

    at : (q : ℕ) → refused (LargeNumber p) ≡ refused (LargeNumber q) → p ≡ q
    at q z = cc

    go : Smalls (drawn_all (run s).parts) ⊎ Large (drawn_all (run s).parts) → (ds : List Drawn) × (text_of ds ≡ s) × (l : Large ds) × (p ≡ place_of l)
    go (inl r) =
        let z : Some p ≡ None = sym told.1 ∙ ap (λ (z : List ℕ). (run z).stand.large) (sym same) ∙ smalls_not (drawn_all (run s).parts) r in
        absurd cc
    go (inr l) = (drawn_all (run s).parts, same, l, at (place_of l) (sym e ∙ ap read (sym same) ∙ large_18 (drawn_all (run s).parts) l))
