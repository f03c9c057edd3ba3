-- What a round adds to a pair: one term for each node between the two, whatever the order of the table.
-- Assumes nothing.
use Prim.Native.Nat.{ℕ, zero, suc, ◌+◌, ◌<◌}
use native.Mathlib.Omega.{arith}
use native.Mathlib.Nat.{not-suc-le-zero, le_of_suc-le-suc, eq-or-lt_of_le}
use mathlib.Core.Logic.{inl, inr}
use mathlib.Core.Path.{◌≡◌, refl, ap, sym, ◌∙◌}
use mathlib.Core.Bool.{Bool, true, false, cond, ◌||◌, ◌&&◌}
use mathlib.Core.List.{List, [], ◌∷◌, ◌++◌, map}
use lib.Dec.{eqb, leb}
use borrow.Author.Tests.{eq-eqb, ne_eqb, eqb-true}
use Rattle.laws.specs.Lists.{All}
use Rattle.order.specs.Weights.{Pair, Table, of, stands, placed, region, both, additions}
use Rattle.order.proofs.Tables.{of-smaller, of-larger, value_of, sum_of}

-- each pair stands in the table once
abbrev pub Distinct : Table → Type 0
Distinct [] = Unit {0}
Distinct (e ∷ es) = (stands e.smaller e.larger es ≡ false) × Distinct es

-- the sum of f at the numbers below n
abbrev pub sum_to : ℕ → (ℕ → ℕ) → ℕ
sum_to zero f = 0
sum_to (suc n) f = sum_to n f + f n

pub sum_zero : (n : ℕ) (f : ℕ → ℕ) → ((b : ℕ) → b < n → f b ≡ 0) → sum_to n f ≡ 0
sum_zero zero f h = refl
sum_zero (suc n) f h = omega (arith, sum_zero n f (λ b l. h b (omega arith)), h n (omega arith))

pub sum_same : (n : ℕ) (f g : ℕ → ℕ) → ((b : ℕ) → b < n → f b ≡ g b) → sum_to n f ≡ sum_to n g
sum_same zero f g h = refl
sum_same (suc n) f g h = omega (arith, sum_same n f g (λ b l. h b (omega arith)), h n (omega arith))

-- f is g but at m, where g is 0
pub sum_but : (n m : ℕ) (f g : ℕ → ℕ) → m < n → ((b : ℕ) → (b ≡ m → ⊥) → f b ≡ g b) → g m ≡ 0 → sum_to n f ≡ sum_to n g + f m
sum_but zero m f g l h z = absurd (not-suc-le-zero l)
sum_but (suc n) m f g l h z =
    elim (eq-or-lt_of_le (le_of_suc-le-suc l)) [
      | inl e ↦
          let s : sum_to n f ≡ sum_to n g = sum_same n f g (λ b k. h b (λ q. omega arith)) in
          let u : f m ≡ f n = ap f e in
          let v : g m ≡ g n = ap g e in
          omega arith
      | inr k ↦ omega (arith, sum_but n m f g k h z, h n (λ q. omega arith))
    ]

module _ (w : Pair → ℕ) (adds : (e f : Pair) → w (both e f) ≡ w e + w f) where
  -- v and w of each of the list whose larger is c
  abbrev inner : ℕ → ℕ → List Pair → ℕ
  inner v c [] = 0
  inner v c (f ∷ fs) = cond (eqb f.larger c) (v + w f + inner v c fs) (inner v c fs)

  both_yes : (a c : ℕ) (e : Pair) (fs : List Pair) → eqb e.smaller a ≡ true → sum_of w a c (map (both e) fs) ≡ inner (w e) c fs
  both_yes a c e [] h = refl
  both_yes a c e (f ∷ fs) h = rw (h, adds e f, both_yes a c e fs h)

  both-no : (a c : ℕ) (e : Pair) (fs : List Pair) → eqb e.smaller a ≡ false → sum_of w a c (map (both e) fs) ≡ 0
  both-no a c e [] h = refl
  both-no a c e (f ∷ fs) h = rw (h, both-no a c e fs h)

  swap : (s t : Bool) (x y z u : ℕ) → u ≡ cond s (x + z) z → cond t (y + u) u ≡ cond s (x + cond t (y + z) z) (cond t (y + z) z)
  swap true true x y z u e = omega arith
  swap true false x y z u e = e
  swap false true x y z u e = omega arith
  swap false false x y z u e = e

  inner-pick : (v c : ℕ) (b : Bool) (xs ys : List Pair) (n : ℕ) → inner v c xs ≡ n → inner v c ys ≡ n → inner v c (cond b xs ys) ≡ n
  inner-pick v c true xs ys n p q = p
  inner-pick v c false xs ys n p q = q

  inner-placed : (v c : ℕ) (e : Pair) (fs : List Pair) → inner v c (placed e fs) ≡ inner v c (e ∷ fs)
  inner-placed v c e [] = refl
  inner-placed v c e (f ∷ fs) =
      inner-pick v c (leb e.larger f.larger) (e ∷ f ∷ fs) (f ∷ placed e fs) (inner v c (e ∷ f ∷ fs)) refl
      (swap (eqb e.larger c) (eqb f.larger c) (v + w e) (v + w f) (inner v c fs) (inner v c (placed e fs)) (inner-placed v c e fs))

  -- v and w of each of the table that is the pair of b and c
  abbrev through : ℕ → ℕ → ℕ → Table → ℕ
  through v b c [] = 0
  through v b c (f ∷ fs) = cond (of b c f) (v + w f + through v b c fs) (through v b c fs)

  region_cons : (v b c : ℕ) (f : Pair) (fs : Table) (s : Bool) → eqb f.smaller b ≡ s → inner v c (region b fs) ≡ through v b c fs →
      inner v c (cond s (placed f (region b fs)) (region b fs)) ≡ cond (s && eqb f.larger c) (v + w f + through v b c fs) (through v b c fs)
  region_cons v b c f fs true e h = inner-placed v c f (region b fs) ∙ rw h
  region_cons v b c f fs false e h = h

  region-inner : (v b c : ℕ) (t : Table) → inner v c (region b t) ≡ through v b c t
  region-inner v b c [] = refl
  region-inner v b c (f ∷ fs) = region_cons v b c f fs (eqb f.smaller b) refl (region-inner v b c fs)

  through_cons : (v b c : ℕ) (f : Pair) (fs : Table) (s : Bool) → of b c f ≡ s → stands f.smaller f.larger fs ≡ false →
      through v b c fs ≡ cond (stands b c fs) (v + value_of w b c fs) 0 →
      cond s (v + w f + through v b c fs) (through v b c fs) ≡ cond (s || stands b c fs) (v + cond s (w f) (value_of w b c fs)) 0
  through_cons v b c f fs true e d h =
      let k : stands b c fs ≡ false = rw (← of-smaller b c f e, ← of-larger b c f e) d in
      let z : through v b c fs ≡ 0 = h ∙ rw k in
      omega arith
  through_cons v b c f fs false e d h = h

  pub through-is : (v b c : ℕ) (t : Table) → Distinct t → through v b c t ≡ cond (stands b c t) (v + value_of w b c t) 0
  through-is v b c [] d = refl
  through-is v b c (f ∷ fs) d = through_cons v b c f fs (of b c f) refl d.0 (through-is v b c fs d.1)

  -- the pairs of es whose smaller is a, each with the pair of t that goes on to c
  abbrev paths : ℕ → ℕ → Table → List Pair → ℕ
  paths a c t [] = 0
  paths a c t (e ∷ es) = cond (eqb e.smaller a) (cond (stands e.larger c t) (w e + value_of w e.larger c t) 0) 0 + paths a c t es

  sum-append : (a c : ℕ) (xs ys : List Pair) → sum_of w a c (xs ++ ys) ≡ sum_of w a c xs + sum_of w a c ys
  sum-append a c [] ys = omega arith
  sum-append a c (x ∷ xs) ys = go (of a c x) (sum-append a c xs ys)
    where
      go : (s : Bool) → sum_of w a c (xs ++ ys) ≡ sum_of w a c xs + sum_of w a c ys →
          cond s (w x + sum_of w a c (xs ++ ys)) (sum_of w a c (xs ++ ys)) ≡ cond s (w x + sum_of w a c xs) (sum_of w a c xs) + sum_of w a c ys
      go true e = omega arith
      go false e = e

  one-path : (a c : ℕ) (t : Table) (e : Pair) → Distinct t → (s : Bool) → eqb e.smaller a ≡ s →
      sum_of w a c (map (both e) (region e.larger t)) ≡ cond s (cond (stands e.larger c t) (w e + value_of w e.larger c t) 0) 0
  one-path a c t e d true h = both_yes a c e (region e.larger t) h ∙ region-inner (w e) e.larger c t ∙ through-is (w e) e.larger c t d
  one-path a c t e d false h = both-no a c e (region e.larger t) h

  sum-additions : (a c : ℕ) (t es : Table) → Distinct t → sum_of w a c (additions t es) ≡ paths a c t es
  sum-additions a c t [] d = refl
  sum-additions a c t (e ∷ es) d =
      sum-append a c (map (both e) (region e.larger t)) (additions t es)
      ∙ cc (one-path a c t e d (eqb e.smaller a) refl, sum-additions a c t es d)

  -- the way from a over b to c: es has the pair of a and b, t that of b and c
  abbrev pub leg : Table → Table → ℕ → ℕ → ℕ → ℕ
  leg es t a c b = cond (stands a b es) (cond (stands b c t) (value_of w a b es + value_of w b c t) 0) 0

  pub paths-sum : (n a c : ℕ) (t es : Table) → Distinct es → All (λ e. e.larger < n) es → paths a c t es ≡ sum_to n (leg es t a c)
  paths-sum n a c t [] d l = sym (sum_zero n (leg [] t a c) (λ b k. refl))
  paths-sum n a c t (e ∷ es) d l = go (eqb e.smaller a) refl (paths-sum n a c t es d.1 l.1)
    where
      m : ℕ
      m = e.larger

      go : (s : Bool) → eqb e.smaller a ≡ s → paths a c t es ≡ sum_to n (leg es t a c) →
          cond s (cond (stands e.larger c t) (w e + value_of w e.larger c t) 0) 0 + paths a c t es ≡ sum_to n (leg (e ∷ es) t a c)
      go true h rest =
          let q : e.smaller ≡ a = eqb-true e.smaller a h in
          let there : leg (e ∷ es) t a c e.larger ≡ cond (stands e.larger c t) (w e + value_of w e.larger c t) 0 = rw (h, eq-eqb e.larger e.larger refl) in
          let miss : stands a e.larger es ≡ false = rw (← q) d.0 in
          let zero-there : leg es t a c e.larger ≡ 0 = rw miss in
          let s = sum_but n e.larger (leg (e ∷ es) t a c) (leg es t a c) l.0 (λ b k. rw (ne_eqb e.larger b (λ z. k (sym z)), h)) zero-there in
          omega (arith, s, there, rest)
      go false h rest = let s = sum_same n (leg (e ∷ es) t a c) (leg es t a c) (λ b k. rw h) in omega (arith, s, rest)

  pub round-sum : (n a c : ℕ) (t : Table) → Distinct t → All (λ e. e.larger < n) t → sum_of w a c (additions t t) ≡ sum_to n (leg t t a c)
  round-sum n a c t d l = sum-additions a c t t d ∙ paths-sum n a c t t d l
