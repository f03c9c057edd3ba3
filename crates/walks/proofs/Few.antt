-- Different numbers below n are at most n, and n of them are all.
-- Assumes nothing.
use Prim.Native.Nat.{ℕ, zero, suc, ◌≤◌, ◌<◌}
use native.Mathlib.Omega.{arith}
use native.Mathlib.Nat.{not-suc-le-zero}
use mathlib.Core.Path.{◌≡◌, refl, ap, sym, ◌∙◌, subst}
use mathlib.Core.Logic.{◌⊎◌, inl, inr}
use mathlib.Core.Bool.{Bool, true, false, cond, ◌||◌, false≢true, true≢false}
use mathlib.Core.List.{List, [], ◌∷◌, ◌++◌}
use lib.Dec.{eqb}
use lib.ListN.{length, get_or, take}
use borrow.Author.Tests.{eqb-true, eqb-false, eq-eqb, ne_eqb}
use Rattle.laws.specs.Lists.{All, has, place_of, one}
use Rattle.laws.proofs.Tests.{pick, pick-by, or_assoc}
use Rattle.walks.specs.Walks.{Distinct}

-- ---- in the list
pub has-tail : (p x : ℕ) (xs : List ℕ) → has p (x ∷ xs) ≡ false → (x ≡ p → ⊥) × (has p xs ≡ false)
has-tail p x xs e = go (eqb x p) refl e
  where
    go : (b : Bool) → eqb x p ≡ b → (b || has p xs) ≡ false → (x ≡ p → ⊥) × (has p xs ≡ false)
    go true i e = absurd (true≢false e)
    go false i e = (eqb-false x p i, e)

pub has_not : (p x : ℕ) (xs : List ℕ) → (x ≡ p → ⊥) → has p xs ≡ false → has p (x ∷ xs) ≡ false
has_not p x xs n e = rw (ne_eqb x p n) e

pub has_more : (p x : ℕ) (xs : List ℕ) → has p xs ≡ true → has p (x ∷ xs) ≡ true
has_more p x xs e = go (eqb x p)
  where
    go : (b : Bool) → (b || has p xs) ≡ true
    go true = refl
    go false = e

pub has_first : (x : ℕ) (xs : List ℕ) → has x (x ∷ xs) ≡ true
has_first x xs = rw (eq-eqb x x refl)

pub has-cases : (p x : ℕ) (xs : List ℕ) → has p (x ∷ xs) ≡ true → (x ≡ p) ⊎ (has p xs ≡ true)
has-cases p x xs e = go (eqb x p) refl e
  where
    go : (b : Bool) → eqb x p ≡ b → (b || has p xs) ≡ true → (x ≡ p) ⊎ (has p xs ≡ true)
    go true i e = inl (eqb-true x p i)
    go false i e = inr e

pub has? : (p : ℕ) (xs : List ℕ) → (has p xs ≡ true) ⊎ (has p xs ≡ false)
has? p xs = go (has p xs) refl
  where
    go : (b : Bool) → has p xs ≡ b → (has p xs ≡ true) ⊎ (has p xs ≡ false)
    go true e = inl e
    go false e = inr e

pub has-append : (p : ℕ) (xs ys : List ℕ) → has p (xs ++ ys) ≡ (has p xs || has p ys)
has-append p [] ys = refl
has-append p (x ∷ xs) ys = rw (has-append p xs ys) (or_assoc (eqb x p) (has p xs) (has p ys))

-- ---- one more after the others
pub distinct-one : (xs : List ℕ) (p : ℕ) → Distinct xs → has p xs ≡ false → Distinct (xs ++ one p)
distinct-one [] p d e = (refl, tt)
distinct-one (x ∷ xs) p d e =
    let t = has-tail p x xs e in
    (has-append x xs (one p) ∙ rw d.0 (has_not x p [] (λ i. t.0 (sym i)) refl), distinct-one xs p d.1 t.1)

-- ---- one less
abbrev remove : ℕ → List ℕ → List ℕ
remove p [] = []
remove p (x ∷ xs) = cond (eqb x p) xs (x ∷ remove p xs)

remove-long : (p : ℕ) (xs : List ℕ) → has p xs ≡ true → suc (length (remove p xs)) ≡ length xs
remove-long p [] e = absurd (false≢true e)
remove-long p (x ∷ xs) e = go (eqb x p) e (remove-long p xs)
  where
    go : (b : Bool) → (b || has p xs) ≡ true → (has p xs ≡ true → suc (length (remove p xs)) ≡ length xs) → suc (length (cond b xs (x ∷ remove p xs))) ≡ suc (length xs)
    go true e f = refl
    go false e f = ap suc (f e)

remove_not : (q p : ℕ) (xs : List ℕ) → has q xs ≡ false → has q (remove p xs) ≡ false
remove_not q p [] e = refl
remove_not q p (x ∷ xs) e =
    let t = has-tail q x xs e in
    pick (λ (l : List ℕ). has q l ≡ false) (eqb x p) xs (x ∷ remove p xs) t.1 (has_not q x (remove p xs) t.0 (remove_not q p xs t.1))

remove-distinct : (p : ℕ) (xs : List ℕ) → Distinct xs → Distinct (remove p xs)
remove-distinct p [] d = tt
remove-distinct p (x ∷ xs) d = pick Distinct (eqb x p) xs (x ∷ remove p xs) d.1 (remove_not x p xs d.0, remove-distinct p xs d.1)

remove-gone : (p : ℕ) (xs : List ℕ) → Distinct xs → has p (remove p xs) ≡ false
remove-gone p [] d = refl
remove-gone p (x ∷ xs) d =
    pick-by (λ (l : List ℕ). has p l ≡ false) (eqb x p) xs (x ∷ remove p xs)
    (λ i. subst (λ (q : ℕ). has q xs ≡ false) (eqb-true x p i) d.0)
    (λ i. has_not p x (remove p xs) (eqb-false x p i) (remove-gone p xs d.1))

remove-all : (P : ℕ → Type 0) (p : ℕ) (xs : List ℕ) → All P xs → All P (remove p xs)
remove-all P p [] a = tt
remove-all P p (x ∷ xs) a = pick (All P) (eqb x p) xs (x ∷ remove p xs) a.1 (a.0, remove-all P p xs a.1)

all-below : (n : ℕ) (xs : List ℕ) → All (λ x. x < suc n) xs → has n xs ≡ false → All (λ x. x < n) xs
all-below n [] a e = tt
all-below n (x ∷ xs) a e = let t = has-tail n x xs e in (let d = t.0 in let h = a.0 in omega arith, all-below n xs a.1 t.1)

-- ---- different numbers below n are n at most
pub few : (n : ℕ) (xs : List ℕ) → Distinct xs → All (λ x. x < n) xs → length xs ≤ n
few zero [] d a = omega arith
few zero (x ∷ xs) d a = absurd (not-suc-le-zero a.0)
few (suc n) xs d a = go (has? n xs) (few n)
  where
    go : (has n xs ≡ true) ⊎ (has n xs ≡ false) → ((ys : List ℕ) → Distinct ys → All (λ x. x < n) ys → length ys ≤ n) → length xs ≤ suc n
    go (inl e) f =
        omega (arith, remove-long n xs e, f (remove n xs) (remove-distinct n xs d) (all-below n (remove n xs) (remove-all (λ x. x < suc n) n xs a) (remove-gone n xs d)))
    go (inr e) f = omega (arith, f xs d (all-below n xs a e))

-- n of them are all
pub every : (n : ℕ) (xs : List ℕ) → Distinct xs → All (λ x. x < n) xs → n ≤ length xs → (p : ℕ) → p < n → has p xs ≡ true
every n xs d a l p h = go (has? p xs)
  where
    go : (has p xs ≡ true) ⊎ (has p xs ≡ false) → has p xs ≡ true
    go (inl e) = e
    go (inr e) = absurd (omega (arith, few n (p ∷ xs) (e, d) (h, a)))

-- ---- a list that has all numbers below n has n at least
remove-other : (q p : ℕ) (xs : List ℕ) → (p ≡ q → ⊥) → has q xs ≡ true → has q (remove p xs) ≡ true
remove-other q p [] n e = e
remove-other q p (x ∷ xs) n e = go (has-cases q x xs e) (remove-other q p xs n)
  where
    go : (x ≡ q) ⊎ (has q xs ≡ true) → (has q xs ≡ true → has q (remove p xs) ≡ true) → has q (cond (eqb x p) xs (x ∷ remove p xs)) ≡ true
    go (inl i) f = rw (ne_eqb x p (λ j. n (sym j ∙ i)), eq-eqb x q i)
    go (inr i) f = pick (λ (l : List ℕ). has q l ≡ true) (eqb x p) xs (x ∷ remove p xs) i (has_more q x (remove p xs) (f i))

pub many : (n : ℕ) (xs : List ℕ) → ((q : ℕ) → q < n → has q xs ≡ true) → n ≤ length xs
many zero xs f = omega arith
many (suc n) xs f =
    let h = many n (remove n xs) (λ q l. remove-other q n xs (λ e. omega arith) (f q (omega arith))) in
    omega (arith, remove-long n xs (f n (omega arith)))

-- ---- the place of p
pub place_in : (p : ℕ) (xs : List ℕ) → has p xs ≡ true → (place_of p xs < length xs) × (get_or xs (place_of p xs) 0 ≡ p)
place_in p [] e = absurd (false≢true e)
place_in p (x ∷ xs) e = go (eqb x p) refl e (place_in p xs)
  where
    go : (b : Bool) → eqb x p ≡ b → (b || has p xs) ≡ true → (has p xs ≡ true → (place_of p xs < length xs) × (get_or xs (place_of p xs) 0 ≡ p)) → (cond b 0 (suc (place_of p xs)) < suc (length xs)) × (get_or (x ∷ xs) (cond b 0 (suc (place_of p xs))) 0 ≡ p)
    go true i e f = (omega arith, eqb-true x p i)
    go false i e f = let h = f e in (let l = h.0 in omega arith, h.1)

-- what is among the first k has its place there
pub place-early : (p k : ℕ) (xs : List ℕ) → has p (take k xs) ≡ true → place_of p xs < k
place-early p zero xs e = absurd (false≢true e)
place-early p (suc k) [] e = absurd (false≢true e)
place-early p (suc k) (x ∷ xs) e = go (eqb x p) e (place-early p k xs)
  where
    go : (b : Bool) → (b || has p (take k xs)) ≡ true → (has p (take k xs) ≡ true → place_of p xs < k) → cond b 0 (suc (place_of p xs)) < suc k
    go true e f = omega arith
    go false e f = let l = f e in omega arith
