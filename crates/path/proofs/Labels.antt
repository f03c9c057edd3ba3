-- Where a text of the chart ends. The stand-in table: how long it is, where each text stands, that the part there reads it and is text, how it is compared and how it is made.
-- Assumes nothing.
use Prim.Native.Nat.{ℕ, zero, suc, ◌+◌, ◌-◌, ◌*◌, ◌≤◌, ◌<◌}
use native.Mathlib.Omega.{arith}
use native.Mathlib.Nat.{zero-add}
use native.Mathlib.Numerals.{add-one}
use mathlib.Core.Path.{◌≡◌, refl, sym, ap, ◌∙◌}
use mathlib.Core.Bool.{Bool, true, false, cond, ◌&&◌}
use mathlib.Core.List.{List, [], ◌∷◌, ◌++◌, append_assoc, append-nil}
use borrow.Author.Tests.{eqb-true, leb-true, lt-ltb, le-ltb}
use lib.Dec.{eqb, leb, ltb}
use lib.ListN.{length, get_or, take, drop, length-append}
use lib.Seq.{take-length, take-add, take-append_seam, drop-append_seam, length-sets}
use Rattle.laws.specs.Bytes.{ascii, all_of, same}
use Rattle.std.specs.List.{list_all, enumerate_from}
use Rattle.laws.specs.Lists.{tabulate}
use Rattle.laws.proofs.Lists.{one_more, same_true, same_self, same_not, right-at, take_sets}
use Rattle.chart.specs.Chart.{is_text, byte_c2}
use Rattle.chart.specs.Text.{Texted, empty, plain, characters_in, character_bytes, ending}
use Rattle.chart.proofs.Gives.{text-no-sign, counted-plain}
use Rattle.grid.specs.RenderNode.{line_length}
use Rattle.grid.proofs.LabelPlaces.{fixed_line}
use Rattle.std.specs.declared.ops.Range.{Range}
use Rattle.path.specs.Number.{digits}
use Rattle.path.specs.Writer.{put}
use Rattle.path.specs.Label.{debug_text, stand_in, stand_ins_from, stand_ins_to, stand_ins, stand_in_span}
use Rattle.path.specs.code.StandIns.{shown_in, places_of, digit_of}
use Rattle.path.proofs.Readings.{both}
use Rattle.path.proofs.Puts.{put-append}

-- ---- the end of a text
pub ending-next : (left : ℕ) (s : List ℕ) (at : ℕ) → 0 < left → ending left s at ≡ ending (left - 1) s (at + character_bytes (get_or s at 0))
unfolding ending
ending-next left s at h = one_more (λ (k : ℕ). ending k s at) left h

pub ending-none : (left : ℕ) (s : List ℕ) (at : ℕ) → left ≡ 0 → at ≡ ending left s at
unfolding ending
ending-none left s at e = rw e

pub bytes_most : (b : ℕ) → character_bytes b ≤ 2
bytes_most b = go (eqb b byte_c2)
  where
    go : (c : Bool) → cond c 2 1 ≤ 2
    go true = omega arith
    go false = omega arith

pub ending-most : (k : ℕ) (s : List ℕ) (at : ℕ) → ending k s at ≤ at + 2 * k
unfolding ending
ending-most zero s at = omega arith
ending-most (suc k) s at = omega (arith, ending-most k s (at + character_bytes (get_or s at 0)), bytes_most (get_or s at 0))

-- text bytes alone are as many characters
plain-characters : (t : List ℕ) → all_of is_text t ≡ true → Texted t × (characters_in t ≡ length t)
plain-characters [] e = (empty, refl)
plain-characters (b ∷ t) e =
    let a = both (is_text b) (all_of is_text t) e in
    let r = plain-characters t a.1 in
    (plain a.0 r.0, counted-plain b t (text-no-sign b a.0) ∙ ap suc r.1)

-- ---- the fixed texts: a node's Debug text, and a lead's
pub number-text : (q : ℕ) → q < 32 → stand_in q ≡ debug_text q
unfolding stand_in
number-text q h = rw (lt-ltb q 32 h)

pub invalid-text : (t : ℕ) → 0 < t → stand_in (t + 31) ≡ debug_text t ++ ascii "(invalid)"
unfolding stand_in
invalid-text t h = let z : t + 31 - 31 ≡ t = omega arith in rw (le-ltb (t + 31) 32 (omega arith), z)

-- ---- some texts, and those after them
from-split : (q r j : ℕ) → stand_ins_from (q + r) j ≡ stand_ins_from q j ++ stand_ins_from r (j + q)
unfolding stand_ins_from
from-split zero r j = let a : 0 + r ≡ r = omega arith in let b : j + 0 ≡ j = omega arith in rw (a, b)
from-split (suc q) r j =
    let a : suc q + r ≡ suc (q + r) = omega arith in
    let b : j + suc q ≡ suc j + q = omega arith in
    rw (a, b) (ap (λ (l : List ℕ). stand_in j ++ l) (from-split q r (suc j)) ∙ sym (append_assoc (stand_in j) (stand_ins_from q (suc j)) (stand_ins_from r (suc j + q))))

pub to-next : (j : ℕ) → stand_ins_to (j + 1) ≡ stand_ins_to j ++ stand_in j
unfolding stand_ins_from
to-next j = from-split j 1 0 ∙ rw (zero-add j, append-nil (stand_in j))

-- ---- where text j stands, and how long it is
abbrev pub spot : ℕ → ℕ
spot j = cond (ltb j 10) (2 * j) (cond (ltb j 32) (3 * j - 10) (cond (ltb j 41) (11 * j - 266) (cond (ltb j 131) (12 * j - 307) (13 * j - 438))))

abbrev pub wide : ℕ → ℕ
wide j = cond (ltb j 10) 2 (cond (ltb j 32) 3 (cond (ltb j 41) 11 (cond (ltb j 131) 12 13)))

-- byte i of text j, as the code has it
abbrev pub byte_of : ℕ → ℕ → ℕ
byte_of j i =
    cond (eqb i 0) 35
    (cond (ltb (places_of (shown_in j)) i) (get_or (ascii "(invalid)") (i - places_of (shown_in j) - 1) 0) (digit_of (shown_in j) (places_of (shown_in j) - i)))

-- at each of the 287, computed
byte_right : ℕ → ℕ → Bool
byte_right j i = eqb (byte_of j i) (get_or (stand_in j) i 0) && leb (i - places_of (shown_in j) - 1) 8

right : ℕ → Bool
right j =
    (eqb (length (stand_in j)) (wide j) && eqb (length (stand_in j)) (line_length (fixed_line j)))
    && (eqb (spot j + wide j) (spot (suc j)) && (all_of (byte_right j) (tabulate (λ k. k) 0 (wide j)) && all_of is_text (stand_in j)))

all_right : all_of right (tabulate (λ k. k) 0 287) ≡ true
unfolding right byte_right stand_in digits
all_right = refl

module _ (j : ℕ) (h : j < 287) where
  record Parts : Type 0 where
    long : length (stand_in j) ≡ wide j
    shown : length (stand_in j) ≡ line_length (fixed_line j)
    next : spot j + wide j ≡ spot (suc j)
    each : all_of (byte_right j) (tabulate (λ k. k) 0 (wide j)) ≡ true
    text : all_of is_text (stand_in j) ≡ true

  parts : Parts
  unfolding right
  parts =
      let l = length (stand_in j) in
      let bs = all_of (byte_right j) (tabulate (λ k. k) 0 (wide j)) in
      let t = all_of is_text (stand_in j) in
      let n = eqb (spot j + wide j) (spot (suc j)) in
      let a = both (eqb l (wide j) && eqb l (line_length (fixed_line j))) (n && (bs && t)) (right-at right 287 j h all_right) in
      let b = both (eqb l (wide j)) (eqb l (line_length (fixed_line j))) a.0 in
      let c = both n (bs && t) a.1 in
      let d = both bs t c.1 in
      record {
        long = eqb-true l (wide j) b.0;
        shown = eqb-true l (line_length (fixed_line j)) b.1;
        next = eqb-true (spot j + wide j) (spot (suc j)) c.0;
        each = d.0;
        text = d.1;
      }

  pub stand_in_wide : length (stand_in j) ≡ wide j
  stand_in_wide = parts.long

  -- it is text, and as many characters as the line has that it shows
  pub stand_in_texted : Texted (stand_in j)
  stand_in_texted = (plain-characters (stand_in j) parts.text).0

  pub stand_in_counted : characters_in (stand_in j) ≡ line_length (fixed_line j)
  stand_in_counted = (plain-characters (stand_in j) parts.text).1 ∙ parts.shown

  module _ (i : ℕ) (l : i < length (stand_in j)) where
    bytes : (byte_of j i ≡ get_or (stand_in j) i 0) × (i - places_of (shown_in j) - 1 ≤ 8)
    unfolding byte_right
    bytes =
        let a = both (eqb (byte_of j i) (get_or (stand_in j) i 0)) (leb (i - places_of (shown_in j) - 1) 8) (right-at (byte_right j) (wide j) i (omega (arith, l, parts.long)) parts.each) in
        (eqb-true (byte_of j i) (get_or (stand_in j) i 0) a.0, leb-true (i - places_of (shown_in j) - 1) 8 a.1)

    pub byte_is : byte_of j i ≡ get_or (stand_in j) i 0
    byte_is = bytes.0

    pub byte_low : i - places_of (shown_in j) - 1 ≤ 8
    byte_low = bytes.1

pub stand_in_spot : (j : ℕ) → j ≤ 287 → length (stand_ins_to j) ≡ spot j
unfolding stand_ins_from
stand_in_spot zero h = refl
stand_in_spot (suc j) h =
    let p = parts j (omega arith) in
    ap (λ (k : ℕ). length (stand_ins_to k)) (sym (add-one j))
    ∙ ap (λ (l : List ℕ). length l) (to-next j)
    ∙ length-append (stand_ins_to j) (stand_in j)
    ∙ rw (stand_in_spot j (omega arith), p.long) p.next

pub stand-ins-long : length stand_ins ≡ 3293
unfolding stand_ins
stand-ins-long = stand_in_spot 287 (omega arith)

-- its span, where that is n bytes from a to e
pub span-is : (j a n e : ℕ) → j < 287 → spot j ≡ a → wide j ≡ n → a + n ≡ e → record { start = a; end = e } ≡ stand_in_span j
span-is j a n e h i k l = rw (stand_in_spot j (omega arith), stand_in_wide j h, i, k, l)

module _ (j : ℕ) (h : j < 287) where
  abbrev rest : List ℕ
  rest = stand_ins_from (286 - j) (suc j)

  -- the texts before text j, it, and those after it
  table_is : stand_ins ≡ stand_ins_to j ++ (stand_in j ++ rest)
  unfolding stand_ins stand_ins_from
  table_is = let z : j + suc (286 - j) ≡ 287 = omega arith in ap stand_ins_to (sym z) ∙ from-split j (suc (286 - j)) 0 ∙ rw (zero-add j)

  -- the part of the table where text j stands reads it
  pub stand_in_reads : take (length (stand_in j)) (drop (length (stand_ins_to j)) stand_ins) ≡ stand_in j
  stand_in_reads = rw (table_is, drop-append_seam (stand_ins_to j) (stand_in j ++ rest)) (take-append_seam (stand_in j) rest)

  pub stand_in_within : length (stand_ins_to j) + length (stand_in j) ≤ 3293
  stand_in_within = omega (arith, stand-ins-long, ap (λ (l : List ℕ). length l) table_is, length-append (stand_ins_to j) (stand_in j ++ rest), length-append (stand_in j) rest)

-- a span that is text j's: where it begins, how long it is, and that it lies within the table
module _ (j : ℕ) (s : Range ℕ) (e : s ≡ stand_in_span j) where
  pub span-at : s.start ≡ length (stand_ins_to j)
  span-at = ap (λ (z : Range ℕ). z.start) e

  span-end : s.end ≡ length (stand_ins_to j) + length (stand_in j)
  span-end = ap (λ (z : Range ℕ). z.end) e

  pub span-rises : s.start ≤ s.end
  span-rises = omega (arith, span-at, span-end)

  pub span-long : s.end - s.start ≡ length (stand_in j)
  span-long = omega (arith, span-at, span-end)

  pub span-within : j < 287 → s.end ≤ 3293
  span-within h = omega (arith, span-end, stand_in_within j h)

-- ---- compared byte by byte
-- each byte with its index, and the byte there
pub all-enumerated : (ys xs t : List ℕ) (n : ℕ) → length xs ≡ length ys → ((i : ℕ) → get_or t (n + i) 0 ≡ get_or ys i 0) → list_all (λ (p : ℕ × ℕ). eqb p.1 (get_or t p.0 0)) (enumerate_from n xs) ≡ same xs ys
all-enumerated [] [] t n e f = refl
all-enumerated [] (x ∷ xs) t n e f = absurd (omega (arith, e))
all-enumerated (y ∷ ys) [] t n e f = absurd (omega (arith, e))
all-enumerated (y ∷ ys) (x ∷ xs) t n e f =
    let z : n + 0 ≡ n = omega arith in
    let a : get_or t n 0 ≡ y = ap (λ (k : ℕ). get_or t k 0) (sym z) ∙ f 0 in
    let r = all-enumerated ys xs t (n + 1) (omega (arith, e)) (λ i. let w : n + 1 + i ≡ n + suc i = omega arith in ap (λ (k : ℕ). get_or t k 0) w ∙ f (suc i)) in
    rw a (ap (λ (b : Bool). eqb x y && b) r)

-- ---- compared text by text
module _ (t : List ℕ) (long : length t ≡ 3293) where
  module _ (j : ℕ) (h : j < 287) where
    abbrev at : ℕ
    at = length (stand_ins_to j)

    abbrev len : ℕ
    len = length (stand_in j)

    pub text_wrong : same (take len (drop at t)) (stand_in j) ≡ false → same t stand_ins ≡ false
    text_wrong e =
        same_not t stand_ins
        (λ z.
        let y : same (take len (drop at t)) (stand_in j) ≡ true = rw (z, stand_in_reads j h) (same_self (stand_in j)) in
        let x : ◌≡◌ {A = ℕ} 0 1 = cc in absurd (omega arith))

    pub text-right : take at t ≡ stand_ins_to j → same (take len (drop at t)) (stand_in j) ≡ true → take (length (stand_ins_to (j + 1))) t ≡ stand_ins_to (j + 1)
    text-right e f =
        let g : take len (drop at t) ≡ stand_in j = same_true (take len (drop at t)) (stand_in j) f in
        rw (to-next j, length-append (stand_ins_to j) (stand_in j)) (take-add at len t ∙ rw (e, g))

  pub table-right : take (length (stand_ins_to 287)) t ≡ stand_ins_to 287 → true ≡ same t stand_ins
  unfolding stand_ins
  table-right e =
      let z : length (stand_ins_to 287) ≡ length t = stand-ins-long ∙ sym long in
      let y : t ≡ stand_ins_to 287 = sym (take-length t) ∙ ap (λ (n : ℕ). take n t) (sym z) ∙ e in
      sym (ap (λ (u : List ℕ). same u (stand_ins_to 287)) y ∙ same_self (stand_ins_to 287))

-- ---- made text by text
-- text j after those before it
pub text-put : (l : List ℕ) (j : ℕ) → put (put l 0 (stand_ins_to j)) (length (stand_ins_to j)) (stand_in j) ≡ put l 0 (stand_ins_to (j + 1))
text-put l j =
    ap (λ (k : ℕ). put (put l 0 (stand_ins_to j)) k (stand_in j)) (sym (zero-add (length (stand_ins_to j))))
    ∙ sym (put-append (stand_ins_to j) (stand_in j) l 0)
    ∙ ap (put l 0) (sym (to-next j))

-- all of them fill the table
pub table-put : (l : List ℕ) → length l ≡ 3293 → put l 0 stand_ins ≡ stand_ins
table-put l e =
    let n : length (put l 0 stand_ins) ≡ length stand_ins = length-sets l 0 stand_ins ∙ e ∙ sym stand-ins-long in
    sym (take-length (put l 0 stand_ins)) ∙ ap (λ (k : ℕ). take k (put l 0 stand_ins)) n ∙ take_sets l stand_ins (omega (arith, stand-ins-long))
