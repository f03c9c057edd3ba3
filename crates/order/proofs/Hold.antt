-- The code's table holds the sums of a pair table after a round if it did before.
-- Assumes nothing.
use Prim.Native.Nat.{ℕ, zero, suc, ◌+◌, ◌-◌, ◌*◌, ◌≤◌, ◌<◌}
use native.Mathlib.Omega.{arith}
use mathlib.Core.Logic.{inl, inr}
use mathlib.Core.Path.{◌≡◌, refl, ap, sym, ◌∙◌}
use mathlib.Core.Bool.{Bool, true, false, cond}
use mathlib.Core.List.{List, [], ◌∷◌}
use lib.Dec.{ltb}
use borrow.Author.Tests.{lt-ltb, le-ltb}
use Rattle.laws.specs.Lists.{All}
use Rattle.laws.proofs.Tests.{less?}
use Rattle.order.specs.Weights.{Table, of, stands, before_of, after_of, round}
use Rattle.order.specs.code.Sums.{at, sums_of, leg_of, sum_up, ways_of, takes, round_at, Hold}
use Rattle.order.proofs.Tables.{value_of, value-missing}
use Rattle.order.proofs.Legs.{sum_to, sum_zero, leg}
use Rattle.order.proofs.Rounds.{Fine, Flagged, fine-round, stands-sum, not_rising, Sum, Reads, gain, round-made, second}
use Rattle.order.proofs.InPlace.{up_same}

-- ---- both sums of a pair as one
abbrev pub packed : Sum
packed e = sums_of e.before e.after

pub packed-reads : Reads packed sums_of
packed-reads = record { grows = λ x y e. omega arith; fresh = λ a b x y flag. refl; reads = λ e. refl; adds = λ e f. omega arith }

pub packs : (a b : ℕ) (t : Table) → value_of packed a b t ≡ sums_of (before_of a b t) (after_of a b t)
packs a b [] = refl
packs a b (e ∷ es) = go (of a b e) (packs a b es)
  where
    go : (s : Bool) → value_of packed a b es ≡ sums_of (before_of a b es) (after_of a b es) →
        cond s (packed e) (value_of packed a b es) ≡ sums_of (cond s e.before (before_of a b es)) (cond s e.after (after_of a b es))
    go true h = refl
    go false h = h

-- ---- a sum over all nodes that is 0 but between a and c
sum_range : (f : ℕ → ℕ) (a m : ℕ) → ((b : ℕ) → b ≤ a → f b ≡ 0) → sum_to (suc a + m) f ≡ sum_up f a m
unfolding sum_up
sum_range f a zero z = let e : suc a + 0 ≡ suc a = omega arith in ap (λ (k : ℕ). sum_to k f) e ∙ sum_zero (suc a) f (λ b l. z b (omega arith))
sum_range f a (suc m) z =
    let e : suc a + suc m ≡ suc (suc a + m) = omega arith in
    ap (λ (k : ℕ). sum_to k f) e ∙ ap (λ (k : ℕ). k + f (suc a + m)) (sum_range f a m z)

sum_past : (f : ℕ → ℕ) (c k : ℕ) → ((b : ℕ) → c ≤ b → f b ≡ 0) → sum_to (c + k) f ≡ sum_to c f
sum_past f c zero z = let e : c + 0 ≡ c = omega arith in ap (λ (j : ℕ). sum_to j f) e
sum_past f c (suc k) z =
    let e : c + suc k ≡ suc (c + k) = omega arith in
    ap (λ (j : ℕ). sum_to j f) e ∙ omega (arith, sum_past f c k z, z (c + k) (omega arith))

sum-between : (f : ℕ → ℕ) (n a c : ℕ) → a < c → c ≤ n → ((b : ℕ) → b ≤ a → f b ≡ 0) → ((b : ℕ) → c ≤ b → f b ≡ 0) → sum_to n f ≡ sum_up f a (c - suc a)
sum-between f n a c l k p q =
    let e : n ≡ c + (n - c) = omega arith in
    let d : c ≡ suc a + (c - suc a) = omega arith in
    ap (λ (j : ℕ). sum_to j f) e ∙ sum_past f c (n - c) q ∙ ap (λ (j : ℕ). sum_to j f) d ∙ sum_range f a (c - suc a) p

cond_zero : (s : Bool) → ◌≡◌ {A = ℕ} (cond s 0 0) 0
cond_zero true = refl
cond_zero false = refl

-- what a round adds to a pair: the ways over the nodes between
pub gain-up : (n : ℕ) (t : Table) (f : Fine n t) (w : Sum) (w' : ℕ → ℕ → ℕ) (r : Reads w w') (a c : ℕ) → a < c → c < n → gain w w' r n t f a c ≡ sum_up (leg w r.adds t t a c) a (c - suc a)
gain-up n t f w w' r a c l k =
    sum-between (leg w r.adds t t a c) n a c l (omega arith)
    (λ b i. rw (not_rising n a b t f.each i)) (λ b i. rw (not_rising n b c t f.each i) (cond_zero (stands a b t)))

some_same : (x y : ℕ) → ltb 0 (x + 65536 * y) ≡ ltb 0 (x + y)
some_same x y =
    elim (less? 0 (x + y)) [
      | inl h ↦ lt-ltb 0 (x + 65536 * y) (omega arith) ∙ sym (lt-ltb 0 (x + y) h)
      | inr h ↦ le-ltb 0 (x + 65536 * y) (omega arith) ∙ sym (le-ltb 0 (x + y) h)
    ]

module _ (n : ℕ) (t : Table) (f : Fine n t) (s : List ℕ) (h : Hold n t s) where
  value : (a b : ℕ) → a < b → b < n → at s a b ≡ value_of packed a b t
  value a b i j = h a b i j ∙ sym (packs a b t)

  on : (a b : ℕ) → a < b → b < n → ltb 0 (at s a b) ≡ stands a b t
  on a b i j = ap (ltb 0) (h a b i j) ∙ some_same (before_of a b t) (after_of a b t) ∙ sym (stands-sum n a b t f.each)

  -- where no pairs are made, those that stand take part
  takes-standing : (a b : ℕ) → a < b → b < n → takes false (at s a b) ≡ stands a b t
  takes-standing a b i j = on a b i j

  module _ (a c : ℕ) (l : a < c) (k : c < n) where
    leg-is : (b : ℕ) → a < b → b < c → leg_of s a c b ≡ leg packed packed-reads.adds t t a c b
    leg-is b i j = rw (on a b i (omega arith), on b c j k, value a b i (omega arith), value b c j k)

    ways_are : ways_of s a c a ≡ gain packed sums_of packed-reads n t f a c
    ways_are =
        up_same (leg_of s a c) (leg packed packed-reads.adds t t a c) a (c - suc a) (λ i h. leg-is (suc a + i) (omega arith) (omega arith))
        ∙ sym (gain-up n t f packed sums_of packed-reads a c l k)

    -- round 1
    pub made-is : All Flagged t → round_at true s a c ≡ sums_of (before_of a c (round t)) (after_of a c (round t))
    made-is g = rw (value a c l k, ways_are) (sym (round-made packed sums_of packed-reads n t f g a c)) ∙ packs a c (round t)

    abbrev gains : ℕ
    gains = gain packed sums_of packed-reads n t f a c

    stood : (b : Bool) → stands a c t ≡ b → value_of packed a c t + cond b gains 0 ≡ cond b (value_of packed a c t + gains) 0
    stood true e = refl
    stood false e = let z : value_of packed a c t ≡ 0 = value-missing packed a c t e in omega arith

    pub stood-is : round_at false s a c ≡ cond (stands a c t) (value_of packed a c t + gains) 0
    stood-is = rw (takes-standing a c l k, value a c l k, ways_are) (stood (stands a c t) refl)

-- round 2, on a table after round 1
pub stood-again : (n : ℕ) (t : Table) (f : Fine n t) → All Flagged t → (s : List ℕ) → Hold n (round t) s → (a c : ℕ) → a < c → c < n →
    round_at false s a c ≡ sums_of (before_of a c (round (round t))) (after_of a c (round (round t)))
stood-again n t f g s h a c l k =
    stood-is n (round t) (fine-round n t f) s h a c l k ∙ sym (second n t f g packed sums_of packed-reads a c) ∙ packs a c (round (round t))
