-- A round in place: each way reads only pairs that the round has not changed yet, so that every sum is read as it was when the round began.
-- Assumes nothing.
use Prim.Native.Nat.{ℕ, zero, suc, ◌+◌, ◌-◌, ◌≤◌, ◌<◌}
use native.Mathlib.Omega.{arith}
use mathlib.Core.Logic.{inl, inr}
use mathlib.Core.Path.{◌≡◌, refl, ap, sym, ◌∙◌}
use mathlib.Core.Bool.{Bool, true, false, cond}
use mathlib.Core.List.{List}
use lib.Dec.{ltb}
use lib.ListN.{length, get_or, set, length-set}
use lib.Seq.{get_or-set_same, get_or-set_other, set-get_or}
use borrow.Author.Tests.{lt-ltb, le-ltb, ltb-true, ltb-false}
use Rattle.laws.proofs.Tests.{less?, same?}
use Rattle.order.specs.code.Sums.{pair_at, at, raised, leg_of, sum_up, ways_of, takes, way_of, part_at, round_at, Over, Row, Rows, OverFits, RowFits, RoundFits}
use Rattle.order.proofs.Triangle.{pair_same, pair-below}

-- ---- sums
pub up_same : (f g : ℕ → ℕ) (a m : ℕ) → ((i : ℕ) → i < m → f (suc a + i) ≡ g (suc a + i)) → sum_up f a m ≡ sum_up g a m
unfolding sum_up
up_same f g a zero h = refl
up_same f g a (suc m) h = cc (up_same f g a m (λ i l. h i (omega arith)), h m (omega arith))

up_first : (f : ℕ → ℕ) (a m : ℕ) → sum_up f a (suc m) ≡ f (suc a) + sum_up f (suc a) m
unfolding sum_up
up_first f a zero = let e : f (suc a + 0) ≡ f (suc a) = let z : suc a + 0 ≡ suc a = omega arith in ap f z in omega arith
up_first f a (suc m) =
    let e : f (suc a + suc m) ≡ f (suc (suc a) + m) = let z : suc a + suc m ≡ suc (suc a) + m = omega arith in ap f z in
    omega (arith, up_first f a m, e)

up_none : (f : ℕ → ℕ) (a : ℕ) → sum_up f a 0 ≡ 0
unfolding sum_up
up_none f a = refl

none : (b : Bool) → ◌≡◌ {A = ℕ} (cond b 0 0) 0
none true = refl
none false = refl

-- ---- the ways over nodes after k
module _ (make : Bool) (l : List ℕ) (a c : ℕ) where
  part_none : (k : ℕ) → c ≤ suc k → part_at make l a c k ≡ at l a c
  part_none k h =
      let e : c - suc k ≡ 0 = omega arith in
      let z : ways_of l a c k ≡ 0 = ap (sum_up (leg_of l a c) k) e ∙ up_none (leg_of l a c) k in
      rw (z, none (takes make (at l a c))) (omega arith)

  ways_next : (k : ℕ) → suc k < c → ways_of l a c k ≡ leg_of l a c (suc k) + ways_of l a c (suc k)
  ways_next k h =
      let e : c - suc k ≡ suc (c - suc (suc k)) = omega arith in
      ap (sum_up (leg_of l a c) k) e ∙ up_first (leg_of l a c) k (c - suc (suc k))

  part-next : (k : ℕ) → suc k < c → part_at make l a c k ≡ part_at make l a c (suc k) + way_of make l a c (suc k)
  part-next k h = go (takes make (at l a c)) (ways_next k h)
    where
      go : (b : Bool) → ways_of l a c k ≡ leg_of l a c (suc k) + ways_of l a c (suc k) →
          at l a c + cond b (ways_of l a c k) 0 ≡ at l a c + cond b (ways_of l a c (suc k)) 0 + cond b (leg_of l a c (suc k)) 0
      go true e = omega arith
      go false e = omega arith

  part_fall : (k : ℕ) → part_at make l a c (suc k) ≤ part_at make l a c k
  part_fall k =
      elim (less? (suc k) c) [
        | inl h ↦ omega (arith, part-next k h)
        | inr h ↦ omega (arith, part_none k h, part_none (suc k) (omega arith))
      ]

  part-from : (m : ℕ) → part_at make l a c (a + m) ≤ round_at make l a c
  part-from zero = let e : a + 0 ≡ a = omega arith in rw e (omega arith)
  part-from (suc m) =
      let e : a + suc m ≡ suc (a + m) = omega arith in
      rw e (omega (arith, part_fall (a + m), part-from m))

  part-most : (k : ℕ) → a ≤ k → part_at make l a c k ≤ round_at make l a c
  part-most k h = let e : a + (k - a) ≡ k = omega arith in rw e at (part-from (k - a))

-- ---- nothing is added yet
pub row-start : (make : Bool) (n a k : ℕ) (t : List ℕ) → n ≤ suc k → Row make n a k t t
row-start make n a k t h = record { long = refl; did = λ c i j. sym (part_none make t a c k (omega arith)); same = λ x y i j o. refl }

-- ---- one way more: what is known when the code has reached c. p and q are the places of the pairs (a, c) and (b, c), x is (a, b)'s number.
pub record Going (make : Bool) (c a b p q x : ℕ) (t r : List ℕ) : Type 0 where
  pub rising : a < b
  pub next : b < c
  pub below : c < 48
  pub long : length r ≡ 1128
  pub over : Over make c a b t r
  pub here : p ≡ pair_at a c
  pub there : q ≡ pair_at b c
  pub first : x ≡ at t a b
  pub some : 0 < at t a b

module _ {make : Bool} {c a b p q x : ℕ} {t r : List ℕ} (w : Going make c a b p q x t r) where
  last-same : at r a c ≡ at t a c
  last-same = w.over.same a c (omega (arith, w.rising, w.next)) w.below (λ e. omega (arith, e.2))

  next-same : at r b c ≡ at t b c
  next-same = w.over.same b c w.next w.below (λ e. omega (arith, e.0, w.rising))

  adds : 0 < get_or r q 0 → takes make (get_or r p 0) ≡ true → way_of make t a c b ≡ x + get_or r q 0
  adds y s =
      let part : takes make (at t a c) ≡ true = rw (← last-same, ← w.here) s in
      let stands : 0 < at t b c = rw (w.there, next-same) at y in
      rw (part, lt-ltb 0 (at t a b) w.some, lt-ltb 0 (at t b c) stands, w.first, w.there, next-same)

  pub over-sum : 0 < get_or r q 0 → takes make (get_or r p 0) ≡ true → get_or r p 0 + (x + get_or r q 0) ≡ at t a c + way_of make t a c b
  over-sum y s = let z : get_or r p 0 ≡ at t a c = rw w.here last-same in omega (arith, adds y s)

  pub over_stores : 0 < get_or r q 0 → takes make (get_or r p 0) ≡ true → set r p (get_or r p 0 + (x + get_or r q 0)) ≡ raised r a c (way_of make t a c b)
  over_stores y s = rw (adds y s, w.here)

  keep : way_of make t a c b ≡ 0 → r ≡ raised r a c (way_of make t a c b)
  keep e = let d : at r a c ≡ at r a c + way_of make t a c b = omega arith in sym (set-get_or r (pair_at a c) 0) ∙ ap (set r (pair_at a c)) d

  pub over_out : takes make (get_or r p 0) ≡ false → r ≡ raised r a c (way_of make t a c b)
  over_out s = let part : takes make (at t a c) ≡ false = rw (← last-same, ← w.here) s in keep (rw part)

  pub over-missing : get_or r q 0 ≤ 0 → r ≡ raised r a c (way_of make t a c b)
  over-missing y =
      let missing : at t b c ≤ 0 = rw (w.there, next-same) at y in
      keep (rw (le-ltb 0 (at t b c) missing, none (ltb 0 (at t a b)), none (takes make (at t a c))))

  pub over-step : Over make (suc c) a b t (raised r a c (way_of make t a c b))
  over-step =
      let i : a < c = omega (arith, w.rising, w.next) in
      record {
        long = length-set r (pair_at a c) _ ∙ w.over.long;
        more = λ y l m. elim (same? y c) [
          | inl e ↦
              rw e
              (get_or-set_same r (pair_at a c) (at r a c + way_of make t a c b) 0 (omega (arith, pair-below a c i w.below, w.long)) ∙ ap (λ (v : ℕ). v + way_of make t a c b) last-same)
          | inr o ↦
              get_or-set_other r (pair_at a c) (pair_at a y) (at r a c + way_of make t a c b) 0
              (λ e. o (pair_same a y a c (omega (arith, w.rising)) (omega (arith, w.below)) i w.below e).1)
              ∙ w.over.more y l (less y c o m)
        ];
        same = λ x y l u o.
            get_or-set_other r (pair_at a c) (pair_at x y) (at r a c + way_of make t a c b) 0
            (λ e. let q = pair_same x y a c l u i w.below e in o (q.0, omega (arith, q.1, w.next), omega (arith, q.1)))
            ∙ w.over.same x y l u (λ e. o (e.0, e.1, omega (arith, e.2)));
      }
    where
      less : (y c : ℕ) → (y ≡ c → ⊥) → y < suc c → y < c
      less y c o m = omega arith

-- ---- a row: the nodes between fall
stays : (make : Bool) (v w r : ℕ) → r ≡ v + cond (takes make v) w 0 → takes make r ≡ (takes make v)
stays true v w r e = refl
stays false v w r e = go (takes false v) refl e
  where
    go : (s : Bool) → takes false v ≡ s → r ≡ v + cond s w 0 → takes false r ≡ s
    go true k h = lt-ltb _ r (omega (arith, ltb-true _ v k))
    go false k h = le-ltb _ r (omega (arith, ltb-false _ v k))

module _ (make : Bool) (n a : ℕ) (few : n ≤ 48) (t r : List ℕ) (b : ℕ) (i : a < b) (w : Row make n a b t r) where
  -- the way over b is as it was when the round began
  row_way : (c : ℕ) → b < c → c < n → way_of make r a c b ≡ way_of make t a c b
  row_way c j k =
      let p : at r a b ≡ at t a b = w.did b i (omega arith) ∙ part_none make t a b b (omega arith) in
      let q : at r b c ≡ at t b c = w.same b c j (omega arith) (λ e. omega arith) in
      let s = stays make (at t a c) (ways_of t a c b) (at r a c) (w.did c (omega arith) k) in
      rw (s, p, q)

  row_more : (c k : ℕ) → suc k ≡ b → b < c → c < n → at r a c + way_of make r a c b ≡ part_at make t a c k
  row_more c k e j m =
      let p : part_at make t a c k ≡ part_at make t a c b + way_of make t a c b =
      part-next make t a c k (omega arith) ∙ ap (λ (z : ℕ). part_at make t a c z + way_of make t a c z) e in
      omega (arith, p, w.did c (omega arith) m, row_way c j m)

  pub row_step : (s : List ℕ) → Over make n a b r s → (k : ℕ) → suc k ≡ b → Row make n a k t s
  row_step s o k e =
      record {
        long = o.long ∙ w.long;
        did = λ c j m. elim (less? b c) [
          | inl l ↦ o.more c l m ∙ row_more c k e l m
          | inr l ↦ o.same a c j (omega arith) (λ z. omega (arith, z.1)) ∙ w.did c j m ∙ part_none make t a c b (omega arith) ∙ sym (part_none make t a c k (omega arith))
        ];
        same = λ x y j u z. o.same x y j u (λ q. z q.0) ∙ w.same x y j u z;
      }

  pub row_fits : RowFits make n a t → b < n → OverFits make n a b r
  row_fits f m =
      record {
        long = w.long ∙ f.long;
        few = f.few;
        rising = i;
        inside = m;
        fits = λ c j l.
            let e : suc (b - 1) ≡ b = omega arith in
            omega (arith, row_more c (b - 1) e j l, part-most make t a c (b - 1) (omega arith), f.fits c (omega arith) l);
      }

-- ---- a round: the rows rise
-- the rows from a on are as they were when the round began
abbrev pub Begun : ℕ → ℕ → List ℕ → List ℕ → Type 0
Begun n a t r = (x y : ℕ) → x < y → y < n → a ≤ x → at r x y ≡ at t x y

-- what a round makes of the pair of a and c depends on pairs whose smaller node is not below a
agree : (make : Bool) (n a c : ℕ) (t r : List ℕ) → a < c → c < n → Begun n a t r → round_at make r a c ≡ round_at make t a c
agree make n a c t r i j h =
    let w : ways_of r a c a ≡ ways_of t a c a =
    up_same (leg_of r a c) (leg_of t a c) a (c - suc a) (λ k l. rw (h a (suc a + k) (omega arith) (omega arith) (omega arith), h (suc a + k) c (omega arith) j (omega arith))) in
    rw (h a c i j (omega arith), w)

pub rows_fit : (make : Bool) (n a : ℕ) (t r : List ℕ) → length r ≡ length t → Begun n a t r → RoundFits make n t → a < n → RowFits make n a r
rows_fit make n a t r e h f l = record { long = e ∙ f.long; few = f.few; inside = l; fits = λ c i j. rw (agree make n a c t r i j h) (f.fits a c i j) }

module _ (make : Bool) (n a : ℕ) (few : n ≤ 48) (t r : List ℕ) (w : Rows make n a t r) where
  pub rows_step : (s : List ℕ) → Row make n a a r s → Rows make n (suc a) t s
  rows_step s v =
      record {
        long = v.long ∙ w.long;
        did = λ x y i j k. elim (same? x a) [
          | inl e ↦
              let l : a < y = omega arith in
              rw e (v.did y l j ∙ agree make n a y t r l j w.same)
          | inr o ↦ v.same x y i (omega arith) o ∙ w.did x y i j (earlier x a o k)
        ];
        same = λ x y i j k. v.same x y i (omega arith) (λ e. omega arith) ∙ w.same x y i j (omega arith);
      }
    where
      earlier : (x a : ℕ) → (x ≡ a → ⊥) → x < suc a → x < a
      earlier x a o i = omega arith
