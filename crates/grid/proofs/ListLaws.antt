-- Laws on lists of numbers.
-- Assumes nothing.
use Prim.Native.Nat.{ℕ, zero, suc, ◌+◌, min, max, ◌≤◌, ◌<◌}
use native.Mathlib.Omega.{arith}
use native.Mathlib.Nat.{le_of_suc-le-suc, not-suc-le-zero, eq-or-lt_of_le}
use mathlib.Core.Path.{◌≡◌, refl, ◌∙◌, subst}
use mathlib.Core.Logic.{◌⊎◌, inl, inr}
use mathlib.Core.Bool.{Bool, true, false, ◌||◌}
use mathlib.Core.List.{List, [], ◌∷◌, map}
use lib.ListN.{length, get_or, set, get_or-eq_default}
use lib.Seq.{get_or-set_same, get_or-set_other, set_out}
use Rattle.std.specs.List.{fold, reduce, sum}
use Rattle.std.proofs.lemmas.List.{get_or_default}
use Rattle.std.specs.Option.{unwrap_or}
use Rattle.laws.proofs.Tests.{less?, same?}
use Rattle.grid.specs.Lists.{largest, smallest, total}
use Rattle.grid.specs.Columns.{at}
use Rattle.grid.specs.code.Arrays.{Inside}

-- two numbers are the same or not, and one is smaller or not
pub or_right : (b c : Bool) → c ≡ true → (b || c) ≡ true
or_right true c e = refl
or_right false c e = e

-- a test that some row below n passes: row r does
pub some_below : (some test : ℕ → Bool) → ((k : ℕ) → some (suc k) ≡ some k || test k) → (r n : ℕ) → r < n → test r ≡ true → some n ≡ true
some_below some test step r zero l h = absurd (not-suc-le-zero l)
some_below some test step r (suc n) l h =
    step n
    ∙ elim (eq-or-lt_of_le (le_of_suc-le-suc l)) [
      | inl e ↦ or_right (some n) (test n) (subst (λ (k : ℕ). test k ≡ true) e h)
      | inr s ↦ rw (some_below some test step r n s h)
    ]

-- a number of a list, each of which is below m
pub item-below : {m : ℕ} {xs : List ℕ} → Inside m xs → (k : ℕ) → k < length xs → (x : ℕ) → x ≡ get_or xs k x → x < m
item-below {xs = xs} h k l x e = omega (arith, h.below k l, e ∙ get_or_default xs k x 0 l)

-- a number of the list is at most the largest
pub at-largest : (xs : List ℕ) (k : ℕ) → k < length xs → at xs k ≤ largest xs
at-largest [] k h = absurd (not-suc-le-zero h)
at-largest (x ∷ xs) zero h = omega arith
at-largest (x ∷ xs) (suc k) h = omega (arith, at-largest xs k (le_of_suc-le-suc h))

-- if each is below b, so is the largest
pub largest-below : (xs : List ℕ) (b : ℕ) → 0 < b → ((k : ℕ) → k < length xs → at xs k < b) → largest xs < b
largest-below [] b z h = z
largest-below (x ∷ xs) b z h =
    let one : x < b = h 0 (omega arith) in
    omega (arith, largest-below xs b z (λ k l. h (suc k) (omega arith)))

-- a chain folds from the first on
largest-from : (a : ℕ) (xs : List ℕ) → fold max a xs ≡ max a (largest xs)
largest-from a [] = omega arith
largest-from a (x ∷ xs) = largest-from (max a x) xs ∙ omega arith

pub largest-reduced : (xs : List ℕ) → unwrap_or (reduce max xs) 0 ≡ largest xs
largest-reduced [] = refl
largest-reduced (x ∷ xs) = largest-from x xs

pub smallest_le : (m : ℕ) (xs : List ℕ) → smallest m xs ≤ m
smallest_le m [] = omega arith
smallest_le m (x ∷ xs) = omega (arith, smallest_le m xs)

-- and so a sum
total-from : (a : ℕ) (xs : List ℕ) → fold (λ s x. s + x) a xs ≡ a + total xs
total-from a [] = omega arith
total-from a (x ∷ xs) = total-from (a + x) xs ∙ omega arith

pub total-summed : (xs : List ℕ) → sum xs ≡ total xs
total-summed xs = total-from 0 xs ∙ omega arith

smallest-min : (m x : ℕ) (xs : List ℕ) → smallest (min m x) xs ≡ min x (smallest m xs)
smallest-min m x [] = omega arith
smallest-min m x (a ∷ xs) = omega (arith, smallest-min m x xs)

-- a chain folds from m on
pub smallest-folded : (m : ℕ) (xs : List ℕ) → fold min m xs ≡ smallest m xs
smallest-folded m [] = refl
smallest-folded m (x ∷ xs) = smallest-folded (min m x) xs ∙ smallest-min m x xs

pub at_map : {A : Type 0} (f : A → ℕ) (xs : List A) (k : ℕ) (d : A) → k < length xs → at (map f xs) k ≡ f (get_or xs k d)
at_map f [] k d h = absurd (not-suc-le-zero h)
at_map f (x ∷ xs) zero d h = refl
at_map f (x ∷ xs) (suc k) d h = at_map f xs k d (le_of_suc-le-suc h)

-- the first n are below b, and the list has no more: so is what is read past its end
pub everywhere : (xs : List ℕ) (n b : ℕ) → 0 < b → length xs ≤ n → ((k : ℕ) → k < n → at xs k < b) → (q : ℕ) → at xs q < b
everywhere xs n b z l h q = go (less? q n)
  where
    go : (q < n) ⊎ (n ≤ q) → at xs q < b
    go (inl k) = h q k
    go (inr k) = let e : at xs q ≡ 0 = get_or-eq_default xs 0 (omega arith) in omega arith

-- a store of v, below b
pub store_below : (xs : List ℕ) (p v b k : ℕ) → v < b → at xs k < b → at (set xs p v) k < b
store_below xs p v b k h l = go (same? k p) (less? p (length xs))
  where
    go : (k ≡ p) ⊎ (k ≡ p → ⊥) → (p < length xs) ⊎ (length xs ≤ p) → at (set xs p v) k < b
    go (inl e) (inl m) = rw (e, get_or-set_same xs p v 0 m) h
    go (inl e) (inr m) = rw (set_out xs p v m) l
    go (inr o) d = rw (get_or-set_other xs p k v 0 o) l
