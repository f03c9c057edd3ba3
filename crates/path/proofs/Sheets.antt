-- A sound sheet's segments: by number, how many, in the profile; and its text, segment by segment. Assumes nothing.
use mathlib.Core.Path.{◌≡◌, refl, sym, ap, ◌∙◌, subst}
use mathlib.Core.Bool.{Bool, true, false, cond, ◌&&◌}
use mathlib.Core.List.{List, [], ◌∷◌, ◌++◌, append-nil, map}
use Prim.Native.Nat.{ℕ, zero, suc, ◌+◌, ◌-◌, ◌*◌, ◌/◌, ◌%◌, ◌≤◌, ◌<◌}
use native.Mathlib.Nat.{zero-add, mul-zero, mul-suc}
use native.Mathlib.Numerals.{add-one}
use native.Mathlib.Omega.{arith}
use borrow.Author.Tests.{leb-true, ltb-true, ltb-false}
use lib.Dec.{leb, ltb}
use lib.ListN.{length, get_or, take, drop, length-append, get_or-append, take-append-drop}
use lib.Seq.{take-suc, take-length, length-take-le, get_or-append-add, get_or-take}
use Rattle.std.specs.List.{sum, range_with_len}
use Rattle.std.proofs.lemmas.List.FromFn.{sum_by-map-range_with_len_more}
use Rattle.laws.specs.Bytes.{all_of}
use Rattle.laws.proofs.Lists.{test_at}
use Rattle.grid.specs.declared.BoxRecord.{BoxRecord}
use Rattle.grid.specs.declared.Curve.{Curve}
use Rattle.grid.specs.declared.SheetRecord.{SheetRecord}
use Rattle.grid.specs.Record.{no_box, no_curve, boxes_of, curves_of, near, box_near, curve_near, sound_of}
use Rattle.path.specs.declared.drawn.Drawn.{Drawn}
use Rattle.path.specs.declared.drawn.Drawn.TheVariants.{Move, Line, Cubic, Close}
use Rattle.path.specs.declared.stroke.Stroke.{Stroke}
use Rattle.path.specs.Number.{limit, limit_halves, number_text}
use Rattle.path.specs.Drawn.{InRange}
use Rattle.path.specs.Text as text
use Rattle.path.specs.Text.{numbers_of, numbers_text, segment_text, rest_text, text_of, Small, Smalls, Led}
use Rattle.path.specs.Segments.{box_drawn, curve_drawn, joined, drawn_of}
use Rattle.path.specs.code.Strokes.{doubled_of, InReach, IsStroke, box_stroke, curve_stroke, size_of, stroke_at, next_text}
use Rattle.path.proofs.Numbers.{number_bound}
use Rattle.path.proofs.Backs.{rest-append, text-next}
use Rattle.path.proofs.Readings.{both}

-- ---- what a sound sheet is
pub record Sound (s : SheetRecord) : Type 0 where
  pub few : s.count ≤ 48
  pub thin : s.drawn ≤ 88
  pub boxes : all_of (box_near s.x s.y) (boxes_of s) ≡ true
  pub curves : all_of (curve_near s.x s.y) (curves_of s) ≡ true

pub sound-is : (s : SheetRecord) → sound_of s ≡ true → Sound s
unfolding sound_of
sound-is s e =
    let a = both (leb s.count 48 && leb s.drawn 88 && all_of (box_near s.x s.y) (boxes_of s)) (all_of (curve_near s.x s.y) (curves_of s)) e in
    let b = both (leb s.count 48 && leb s.drawn 88) (all_of (box_near s.x s.y) (boxes_of s)) a.0 in
    let c = both (leb s.count 48) (leb s.drawn 88) b.0 in
    record { few = leb-true s.count 48 c.0; thin = leb-true s.drawn 88 c.1; boxes = b.1; curves = a.1 }

pub near-is : (n : ℕ) → near n ≡ true → n ≤ limit
near-is n e = leb-true n limit e

pub record BoxIn (x y : ℕ) (b : BoxRecord) : Type 0 where
  pub right : x + b.x + b.width ≤ limit
  pub bottom : y + b.y + b.height ≤ limit

pub box_in : (x y : ℕ) (b : BoxRecord) → box_near x y b ≡ true → BoxIn x y b
box_in x y b e =
    let z = both (near (x + b.x + b.width)) (near (y + b.y + b.height)) e in
    record { right = near-is (x + b.x + b.width) z.0; bottom = near-is (y + b.y + b.height) z.1 }

pub record CurveIn (x y : ℕ) (c : Curve) : Type 0 where
  pub left : x + c.x0 ≤ limit
  pub top : y + c.y0 ≤ limit
  pub right : x + c.x1 ≤ limit
  pub bottom : y + c.y1 ≤ limit

pub curve_in : (x y : ℕ) (c : Curve) → curve_near x y c ≡ true → CurveIn x y c
curve_in x y c e =
    let u = both (near (x + c.x0) && near (y + c.y0) && near (x + c.x1)) (near (y + c.y1)) e in
    let v = both (near (x + c.x0) && near (y + c.y0)) (near (x + c.x1)) u.0 in
    let w = both (near (x + c.x0)) (near (y + c.y0)) v.0 in
    record { left = near-is (x + c.x0) w.0; top = near-is (y + c.y0) w.1; right = near-is (x + c.x1) v.1; bottom = near-is (y + c.y1) u.1 }

-- ---- lists of m each, one after the other
module _ {A : Type 0} (f : A → List Drawn) (m : ℕ) (long : (a : A) → length (f a) ≡ m) where
  joined_length : (xs : List A) → length (joined f xs) ≡ m * length xs
  joined_length [] = sym (mul-zero m)
  joined_length (x ∷ xs) = omega (arith, length-append (f x) (joined f xs), long x, joined_length xs, mul-suc m (length xs))

  joined_at : (xs : List A) (z : A) (d : Drawn) (i j : ℕ) → j < m → i < length xs → get_or (joined f xs) (m * i + j) d ≡ get_or (f (get_or xs i z)) j d
  joined_at [] z d i j h l = absurd (omega arith)
  joined_at (x ∷ xs) z d zero j h l =
      let e : m * 0 + j ≡ j = omega (arith, mul-zero m) in
      ap (λ (k : ℕ). get_or (f x ++ joined f xs) k d) e ∙ get_or-append (f x) (joined f xs) d j (omega (arith, long x))
  joined_at (x ∷ xs) z d (suc i) j h l =
      let e : m * suc i + j ≡ length (f x) + (m * i + j) = omega (arith, mul-suc m i, long x) in
      ap (λ (k : ℕ). get_or (f x ++ joined f xs) k d) e ∙ get_or-append-add (f x) (joined f xs) (m * i + j) d ∙ joined_at xs z d i j h (omega arith)

pub take-most : {A : Type 0} (n : ℕ) (xs : List A) → length (take n xs) ≤ n
take-most zero xs = omega arith
take-most (suc n) [] = omega arith
take-most (suc n) (x ∷ xs) = omega (arith, take-most n xs)

-- ---- a sheet's segments by number
box_side : (x y : ℕ) (b : BoxRecord) (j : ℕ) → j < 5 → get_or (box_drawn x y b) j (Move 0 0) ≡ doubled_of (box_stroke x y b j)
box_side x y b zero h = refl
box_side x y b (suc zero) h = refl
box_side x y b (suc (suc zero)) h = refl
box_side x y b (suc (suc (suc zero))) h = refl
box_side x y b (suc (suc (suc (suc zero)))) h = refl
box_side x y b (suc (suc (suc (suc (suc j))))) h = absurd (omega arith)

curve_side : (x y : ℕ) (c : Curve) (j : ℕ) → j < 2 → get_or (curve_drawn x y c) j (Move 0 0) ≡ doubled_of (curve_stroke x y c j)
curve_side x y c zero h = refl
curve_side x y c (suc zero) h = refl
curve_side x y c (suc (suc j)) h = absurd (omega arith)

box-reach : (x y : ℕ) (b : BoxRecord) (j : ℕ) → BoxIn x y b → InReach (box_stroke x y b j)
box-reach x y b zero i = (omega (arith, i.right), omega (arith, i.bottom))
box-reach x y b (suc zero) i = (i.right, omega (arith, i.bottom))
box-reach x y b (suc (suc zero)) i = (i.right, i.bottom)
box-reach x y b (suc (suc (suc zero))) i = (omega (arith, i.right), i.bottom)
box-reach x y b (suc (suc (suc (suc j)))) i = tt

curve-reach : (x y : ℕ) (c : Curve) (j : ℕ) → CurveIn x y c → InReach (curve_stroke x y c j)
curve-reach x y c zero i = (i.left, i.top)
curve-reach x y c (suc j) i = (i.left, i.top, i.right, i.bottom)

module _ (s : SheetRecord) (b : length s.boxes ≡ 48) (c : length s.curves ≡ 88) (o : Sound s) where
  boxes-long : length (boxes_of s) ≡ s.count
  boxes-long = length-take-le s.count s.boxes (omega (arith, o.few))

  curves-long : length (curves_of s) ≡ s.drawn
  curves-long = length-take-le s.drawn s.curves (omega (arith, o.thin))

  -- the segments of all boxes
  first-long : length (joined (box_drawn s.x s.y) (boxes_of s)) ≡ 5 * s.count
  first-long = joined_length (box_drawn s.x s.y) 5 (λ a. refl) (boxes_of s) ∙ ap (λ (z : ℕ). 5 * z) boxes-long

  pub drawn-long : length (drawn_of s) ≡ size_of s
  unfolding drawn_of
  drawn-long =
      length-append (joined (box_drawn s.x s.y) (boxes_of s)) (joined (curve_drawn s.x s.y) (curves_of s))
      ∙ omega (arith, first-long, joined_length (curve_drawn s.x s.y) 2 (λ a. refl) (curves_of s), curves-long)

  -- box i, and curve i
  box-at : (i : ℕ) → i < s.count → get_or (boxes_of s) i no_box ≡ get_or s.boxes i no_box
  box-at i h = get_or-take s.count s.boxes i no_box h

  curve-at : (i : ℕ) → i < s.drawn → get_or (curves_of s) i no_curve ≡ get_or s.curves i no_curve
  curve-at i h = get_or-take s.drawn s.curves i no_curve h

  pub box-near : (i : ℕ) → i < s.count → box_near s.x s.y (get_or s.boxes i no_box) ≡ true
  box-near i h = subst (λ z. box_near s.x s.y z ≡ true) (box-at i h) (test_at (box_near s.x s.y) no_box (boxes_of s) i (omega (arith, boxes-long)) o.boxes)

  pub curve-near : (i : ℕ) → i < s.drawn → curve_near s.x s.y (get_or s.curves i no_curve) ≡ true
  curve-near i h = subst (λ z. curve_near s.x s.y z ≡ true) (curve-at i h) (test_at (curve_near s.x s.y) no_curve (curves_of s) i (omega (arith, curves-long)) o.curves)

  module _ (k : ℕ) (h : k < size_of s) where
    pub stroke_reach : InReach (stroke_at s k)
    stroke_reach = go (ltb k (5 * s.count)) refl
      where
        go : (t : Bool) → ltb k (5 * s.count) ≡ t
            → InReach (cond t (box_stroke s.x s.y (get_or s.boxes (k / 5) no_box) (k % 5)) (curve_stroke s.x s.y (get_or s.curves ((k - 5 * s.count) / 2) no_curve) ((k - 5 * s.count) % 2)))
        go true e =
            let l : k < 5 * s.count = ltb-true k (5 * s.count) e in
            box-reach s.x s.y (get_or s.boxes (k / 5) no_box) (k % 5) (box_in s.x s.y (get_or s.boxes (k / 5) no_box) (box-near (k / 5) (omega arith)))
        go false e =
            let l : 5 * s.count ≤ k = ltb-false k (5 * s.count) e in
            curve-reach s.x s.y (get_or s.curves ((k - 5 * s.count) / 2) no_curve) ((k - 5 * s.count) % 2)
            (curve_in s.x s.y (get_or s.curves ((k - 5 * s.count) / 2) no_curve) (curve-near ((k - 5 * s.count) / 2) (omega arith)))

    -- segment k of the code is segment k of the definition
    pub by_number : get_or (drawn_of s) k (Move 0 0) ≡ doubled_of (stroke_at s k)
    unfolding drawn_of
    by_number = go (ltb k (5 * s.count)) refl
      where
        go : (t : Bool) → ltb k (5 * s.count) ≡ t
            → get_or (joined (box_drawn s.x s.y) (boxes_of s) ++ joined (curve_drawn s.x s.y) (curves_of s)) k (Move 0 0)
            ≡ doubled_of (cond t (box_stroke s.x s.y (get_or s.boxes (k / 5) no_box) (k % 5)) (curve_stroke s.x s.y (get_or s.curves ((k - 5 * s.count) / 2) no_curve) ((k - 5 * s.count) % 2)))
        go true e =
            let l : k < 5 * s.count = ltb-true k (5 * s.count) e in
            let q : k ≡ 5 * (k / 5) + k % 5 = omega arith in
            let i : k / 5 < s.count = omega arith in
            let j : k % 5 < 5 = omega arith in
            get_or-append (joined (box_drawn s.x s.y) (boxes_of s)) (joined (curve_drawn s.x s.y) (curves_of s)) (Move 0 0) k (omega (arith, first-long))
            ∙ ap (λ (z : ℕ). get_or (joined (box_drawn s.x s.y) (boxes_of s)) z (Move 0 0)) q
            ∙ joined_at (box_drawn s.x s.y) 5 (λ a. refl) (boxes_of s) no_box (Move 0 0) (k / 5) (k % 5) j (omega (arith, boxes-long))
            ∙ ap (λ (z : BoxRecord). get_or (box_drawn s.x s.y z) (k % 5) (Move 0 0)) (box-at (k / 5) i)
            ∙ box_side s.x s.y (get_or s.boxes (k / 5) no_box) (k % 5) j
        go false e =
            let l : 5 * s.count ≤ k = ltb-false k (5 * s.count) e in
            let r : k - 5 * s.count ≡ 2 * ((k - 5 * s.count) / 2) + (k - 5 * s.count) % 2 = omega arith in
            let q : k ≡ length (joined (box_drawn s.x s.y) (boxes_of s)) + (2 * ((k - 5 * s.count) / 2) + (k - 5 * s.count) % 2) = omega (arith, first-long) in
            let i : (k - 5 * s.count) / 2 < s.drawn = omega arith in
            let j : (k - 5 * s.count) % 2 < 2 = omega arith in
            ap (λ (z : ℕ). get_or (joined (box_drawn s.x s.y) (boxes_of s) ++ joined (curve_drawn s.x s.y) (curves_of s)) z (Move 0 0)) q
            ∙ get_or-append-add (joined (box_drawn s.x s.y) (boxes_of s)) (joined (curve_drawn s.x s.y) (curves_of s)) (2 * ((k - 5 * s.count) / 2) + (k - 5 * s.count) % 2) (Move 0 0)
            ∙ joined_at (curve_drawn s.x s.y) 2 (λ a. refl) (curves_of s) no_curve (Move 0 0) ((k - 5 * s.count) / 2) ((k - 5 * s.count) % 2) j (omega (arith, curves-long))
            ∙ ap (λ (z : Curve). get_or (curve_drawn s.x s.y z) ((k - 5 * s.count) % 2) (Move 0 0)) (curve-at ((k - 5 * s.count) / 2) i)
            ∙ curve_side s.x s.y (get_or s.curves ((k - 5 * s.count) / 2) no_curve) ((k - 5 * s.count) % 2) j

    pub stroke_is : (t : Stroke) → t ≡ stroke_at s k → IsStroke (drawn_of s) k t
    stroke_is t e = rw e (record { same = sym by_number; reach = stroke_reach })

-- ---- a sound sheet is in the profile: a move first, no number above the limit
led-of : (x y : ℕ) (bs : List BoxRecord) (cs : List Curve) → Led (joined (box_drawn x y) bs ++ joined (curve_drawn x y) cs)
led-of x y [] [] = text.none
led-of x y [] (c ∷ cs) = text.move
led-of x y (b ∷ bs) cs = text.move

pub drawn-led : (s : SheetRecord) → Led (drawn_of s)
unfolding drawn_of
drawn-led s = led-of s.x s.y (boxes_of s) (curves_of s)

two : (x y : ℕ) → x ≤ limit → y ≤ limit → Small (2 * x ∷ 2 * y ∷ [])
two x y h k =
    let p : 2 * x ≤ limit_halves = omega arith in
    let q : 2 * y ≤ limit_halves = omega arith in
    text.more p (text.more q text.none)

box-small : (x y : ℕ) (b : BoxRecord) (ds : List Drawn) → BoxIn x y b → Smalls ds → Smalls (box_drawn x y b ++ ds)
box-small x y b ds i r =
    let l : x + b.x ≤ limit = omega (arith, i.right) in
    let t : y + b.y ≤ limit = omega (arith, i.bottom) in
    text.more (two (x + b.x) (y + b.y) l t)
    (text.more (two (x + b.x + b.width) (y + b.y) i.right t)
    (text.more (two (x + b.x + b.width) (y + b.y + b.height) i.right i.bottom)
    (text.more (two (x + b.x) (y + b.y + b.height) l i.bottom)
    (text.more text.none r))))

curve-small : (x y : ℕ) (c : Curve) (ds : List Drawn) → CurveIn x y c → Smalls ds → Smalls (curve_drawn x y c ++ ds)
curve-small x y c ds i r =
    let h : y + c.y0 + (y + c.y1) ≤ limit_halves = omega (arith, i.top, i.bottom) in
    let p : 2 * (x + c.x0) ≤ limit_halves = omega (arith, i.left) in
    let q : 2 * (x + c.x1) ≤ limit_halves = omega (arith, i.right) in
    let u : 2 * (y + c.y1) ≤ limit_halves = omega (arith, i.bottom) in
    text.more (two (x + c.x0) (y + c.y0) i.left i.top)
    (text.more (text.more p (text.more h (text.more q (text.more h (text.more q (text.more u text.none)))))) r)

curves-small : (x y : ℕ) (cs : List Curve) → all_of (curve_near x y) cs ≡ true → Smalls (joined (curve_drawn x y) cs)
curves-small x y [] e = text.none
curves-small x y (c ∷ cs) e =
    let z = both (curve_near x y c) (all_of (curve_near x y) cs) e in
    curve-small x y c (joined (curve_drawn x y) cs) (curve_in x y c z.0) (curves-small x y cs z.1)

boxes-small : (x y : ℕ) (bs : List BoxRecord) (ds : List Drawn) → all_of (box_near x y) bs ≡ true → Smalls ds → Smalls (joined (box_drawn x y) bs ++ ds)
boxes-small x y [] ds e r = r
boxes-small x y (b ∷ bs) ds e r =
    let z = both (box_near x y b) (all_of (box_near x y) bs) e in
    box-small x y b (joined (box_drawn x y) bs ++ ds) (box_in x y b z.0) (boxes-small x y bs ds z.1 r)

pub drawn-smalls : (s : SheetRecord) → sound_of s ≡ true → Smalls (drawn_of s)
unfolding drawn_of
drawn-smalls s e =
    let o : Sound s = sound-is s e in
    boxes-small s.x s.y (boxes_of s) (joined (curve_drawn s.x s.y) (curves_of s)) o.boxes (curves-small s.x s.y (curves_of s) o.curves)

-- ---- the text of the first k segments
some-taken : (ds : List Drawn) (k : ℕ) → suc k < length ds → take (suc k) ds ≡ [] → ⊥
some-taken [] k h e = omega arith
some-taken (d ∷ ds) k h e = let z : ◌≡◌ {A = ℕ} 0 1 = cc in omega arith

text_suc : (ds : List Drawn) (k : ℕ) → k < length ds → text_of (take (suc k) ds) ≡ text_of (take k ds) ++ next_text k (get_or ds k (Move 0 0))
unfolding text_of
text_suc ds zero h = ap text_of (take-suc ds 0 (Move 0 0) h) ∙ append-nil (segment_text (get_or ds 0 (Move 0 0)))
text_suc ds (suc k) h = ap text_of (take-suc ds (suc k) (Move 0 0) h) ∙ text-next (take (suc k) ds) (get_or ds (suc k) (Move 0 0)) (some-taken ds k h)

pub text-to : (ds : List Drawn) (k : ℕ) → k < length ds → text_of (take (k + 1) ds) ≡ text_of (take k ds) ++ next_text k (get_or ds k (Move 0 0))
text-to ds k h = ap (λ (z : ℕ). text_of (take z ds)) (add-one k) ∙ text_suc ds k h

pub length_to : (ds : List Drawn) (k : ℕ) → k < length ds → length (text_of (take (k + 1) ds)) ≡ length (text_of (take k ds)) + length (next_text k (get_or ds k (Move 0 0)))
length_to ds k h = ap length (text-to ds k h) ∙ length-append (text_of (take k ds)) (next_text k (get_or ds k (Move 0 0)))

-- how long segment k's text is, with the space before it, if one stands before it
abbrev pub next_length : List Drawn → ℕ → ℕ
next_length ds k = length (next_text k (get_or ds k (Move 0 0)))

lengths_to : (ds : List Drawn) (k : ℕ) → k ≤ length ds → sum (map (next_length ds) (range_with_len 0 k)) ≡ length (text_of (take k ds))
unfolding text_of
lengths_to ds zero h = refl
lengths_to ds (suc k) h =
    ap (λ (z : ℕ). sum (map (next_length ds) (range_with_len 0 z))) (sym (add-one k))
    ∙ sum_by-map-range_with_len_more (λ (n : ℕ). n) (next_length ds) 0 k k (zero-add k)
    ∙ ap (λ (n : ℕ). n + next_length ds k) (lengths_to ds k (omega (arith, h)))
    ∙ sym (length_to ds k (omega (arith, h)))
    ∙ ap (λ (z : ℕ). length (text_of (take z ds))) (add-one k)

pub lengths-summed : (ds : List Drawn) (n : ℕ) → n ≡ length ds → sum (map (next_length ds) (range_with_len 0 n)) ≡ length (text_of ds)
lengths-summed ds n e = lengths_to ds n (omega (arith, e)) ∙ ap (λ (z : ℕ). length (text_of (take z ds))) e ∙ ap (λ (l : List Drawn). length (text_of l)) (take-length ds)

-- what comes first is no longer than the whole
grows : (xs ys : List Drawn) → length (text_of xs) ≤ length (text_of (xs ++ ys))
unfolding text_of
grows [] ys = omega arith
grows (x ∷ xs) ys =
    omega (arith, length-append (segment_text x) (rest_text xs), length-append (segment_text x) (rest_text (xs ++ ys)), ap length (rest-append xs ys), length-append (rest_text xs) (rest_text ys))

pub fits-to : (ds : List Drawn) (k : ℕ) → k < length ds → length (text_of (take k ds)) + length (next_text k (get_or ds k (Move 0 0))) ≤ length (text_of ds)
fits-to ds k h =
    omega (arith, length_to ds k h, grows (take (k + 1) ds) (drop (k + 1) ds), ap (λ (z : List Drawn). length (text_of z)) (take-append-drop (k + 1) ds))

-- ---- segment k with the space before it
-- ---- texts of numbers in range are short enough for their sums
numbers_bound : (hs : List ℕ) → Small hs → length (numbers_text hs) ≤ 16777220 * length hs
numbers_bound hs text.none = omega arith
numbers_bound hs (text.more {h = h} {hs = gs} l r) = omega (arith, length-append (number_text h) (numbers_text gs), number_bound h, numbers_bound gs r)

few-numbers : (d : Drawn) → length (numbers_of d) ≤ 6
few-numbers (Move x y) = omega arith
few-numbers (Line x y) = omega arith
few-numbers (Cubic a b c d x y) = omega arith
few-numbers Close = omega arith

segment_bound : (d : Drawn) → Small (numbers_of d) → length (segment_text d) ≤ 100663321
segment_bound d h = omega (arith, numbers_bound (numbers_of d) h, few-numbers d)

pub range_bound : (d : Drawn) → InRange d → length (segment_text d) ≤ 100663321
range_bound (Move x y) h = segment_bound (Move x y) (text.more h.0 (text.more h.1 text.none))
range_bound (Line x y) h = segment_bound (Line x y) (text.more h.0 (text.more h.1 text.none))
range_bound (Cubic a b c d x y) h = segment_bound (Cubic a b c d x y) (text.more h.0 (text.more h.1 (text.more h.2 (text.more h.3 (text.more h.4 (text.more h.5 text.none))))))
range_bound Close h = omega arith

rest_bound : (ds : List Drawn) → Smalls ds → length (rest_text ds) ≤ 100663322 * length ds
rest_bound ds text.none = omega arith
rest_bound xs (text.more {d = d} {ds = ds} h r) = omega (arith, length-append (segment_text d) (rest_text ds), segment_bound d h, rest_bound ds r)

pub text_bound : (ds : List Drawn) → Smalls ds → length (text_of ds) ≤ 100663322 * length ds
unfolding text_of
text_bound ds text.none = omega arith
text_bound xs (text.more {d = d} {ds = ds} h r) = omega (arith, length-append (segment_text d) (rest_text ds), segment_bound d h, rest_bound ds r)

-- a sound sheet has few segments, whatever its arrays
pub drawn-few : (s : SheetRecord) → sound_of s ≡ true → length (drawn_of s) ≤ 416
unfolding drawn_of
drawn-few s e =
    let o : Sound s = sound-is s e in
    omega (
      arith,
      length-append (joined (box_drawn s.x s.y) (boxes_of s)) (joined (curve_drawn s.x s.y) (curves_of s)),
      joined_length (box_drawn s.x s.y) 5 (λ a. refl) (boxes_of s),
      joined_length (curve_drawn s.x s.y) 2 (λ a. refl) (curves_of s),
      take-most s.count s.boxes,
      take-most s.drawn s.curves,
      o.few,
      o.thin,
    )
