-- How often a number stands in a list.
-- Assumes nothing.
use Prim.Native.Nat.{ℕ, zero, suc, ◌+◌, ◌≤◌, ◌<◌}
use native.Mathlib.Omega.{arith}
use native.Mathlib.Nat.{le_of_suc-le-suc, not-suc-le-zero}
use mathlib.Core.Path.{◌≡◌, refl, ap, ◌∙◌}
use mathlib.Core.Bool.{Bool, true, false, cond, ◌||◌}
use mathlib.Core.List.{List, [], ◌∷◌, ◌++◌}
use lib.Dec.{eqb}
use lib.ListN.{length, get_or}
use borrow.Author.Tests.{eq-eqb, eqb-true}
use Rattle.laws.specs.Lists.{tally, has, place_of}

unfoldable pub times : ℕ → List ℕ → ℕ
times p [] = 0
times p (q ∷ qs) = tally (eqb q p) (times p qs)

tally-add : (b : Bool) (m n : ℕ) → tally b (m + n) ≡ tally b m + n
tally-add true m n = omega arith
tally-add false m n = refl

tally-least : (b : Bool) (k : ℕ) → k ≤ tally b k
tally-least true k = omega arith
tally-least false k = omega arith

pub times-append : (p : ℕ) (xs ys : List ℕ) → times p (xs ++ ys) ≡ times p xs + times p ys
unfolding times
times-append p [] ys = omega arith
times-append p (x ∷ xs) ys = ap (tally (eqb x p)) (times-append p xs ys) ∙ tally-add (eqb x p) (times p xs) (times p ys)

or_none : (b c : Bool) (k : ℕ) → (c ≡ false → k ≡ 0) → (b || c) ≡ false → tally b k ≡ 0
or_none true c k f e = absurd (let z : ◌≡◌ {A = ℕ} 0 1 = cc in omega arith)
or_none false c k f e = f e

pub times_none : (p : ℕ) (xs : List ℕ) → has p xs ≡ false → times p xs ≡ 0
unfolding times
times_none p [] h = refl
times_none p (x ∷ xs) h = or_none (eqb x p) (has p xs) (times p xs) (times_none p xs) h

-- each element of the list stands in it
pub times-at : (xs : List ℕ) (i : ℕ) → i < length xs → 1 ≤ times (get_or xs i 0) xs
unfolding times
times-at [] i h = absurd (not-suc-le-zero h)
times-at (x ∷ xs) zero h = rw (eq-eqb x x refl) (omega arith)
times-at (x ∷ xs) (suc i) h = let least = tally-least (eqb x (get_or xs i 0)) (times (get_or xs i 0) xs) in omega (arith, times-at xs i (le_of_suc-le-suc h))

-- a number that stands in the list has its place there
pub record Place (p : ℕ) (xs : List ℕ) : Type 0 where
  pub inside : place_of p xs < length xs
  pub found : get_or xs (place_of p xs) 0 ≡ p

place_cons : (p x : ℕ) (xs : List ℕ) (b : Bool) → eqb x p ≡ b → (1 ≤ times p xs → Place p xs) → 1 ≤ tally b (times p xs) → Place p (x ∷ xs)
place_cons p x xs true e f h = record { inside = rw e (omega arith); found = rw e (eqb-true x p e) }
place_cons p x xs false e f h = let r = f h in record { inside = rw e (omega (arith, r.inside)); found = rw e r.found }

pub place_at : (p : ℕ) (xs : List ℕ) → 1 ≤ times p xs → Place p xs
unfolding times
place_at p [] h = absurd (not-suc-le-zero h)
place_at p (x ∷ xs) h = place_cons p x xs (eqb x p) refl (place_at p xs) h

-- the place of an element that stands in the list once
once_cons : (b : Bool) (k i j : ℕ) → 1 ≤ k → (k ≤ 1 → j ≡ i) → tally b k ≤ 1 → cond b 0 (suc j) ≡ suc i
once_cons true k i j l f o = absurd (omega arith)
once_cons false k i j l f o = ap suc (f o)

pub place-once : (xs : List ℕ) (i : ℕ) → i < length xs → times (get_or xs i 0) xs ≤ 1 → place_of (get_or xs i 0) xs ≡ i
unfolding times
place-once [] i h o = absurd (not-suc-le-zero h)
place-once (x ∷ xs) zero h o = rw (eq-eqb x x refl)
place-once (x ∷ xs) (suc i) h o =
    once_cons (eqb x (get_or xs i 0)) (times (get_or xs i 0) xs) i (place_of (get_or xs i 0) xs)
    (times-at xs i (le_of_suc-le-suc h)) (place-once xs i (le_of_suc-le-suc h)) o
