-- The text of a number: a digit, or the text of the tens and a digit. Assumes nothing.
use mathlib.Core.Path.{◌≡◌, refl, ap, ◌∙◌}
use mathlib.Core.Bool.{Bool, true, false}
use mathlib.Core.List.{[], ◌∷◌, ◌++◌, append-nil}
use Prim.Native.Nat.{ℕ, zero, suc, ◌+◌, ◌*◌, ◌/◌, ◌%◌, ◌^◌, ◌≤◌, ◌<◌}
use native.Mathlib.Nat.{div-lt_self}
use native.Mathlib.Omega.{arith}
use borrow.Author.Tests.{lt-ltb, le-ltb, ltb-true, ltb-false}
use lib.Dec.{ltb}
use lib.ListN.{length, length-append}
use Rattle.path.specs.Number.{digits_with, digits, number_text, half_text}

-- ---- how many digits are allowed for does not matter
fuel : (f g n : ℕ) → n < f → n < g → digits_with f n ≡ digits_with g n
fuel zero g n h k = absurd (omega arith)
fuel (suc f) zero n h k = absurd (omega arith)
fuel (suc f) (suc g) n h k = go (ltb n 10) refl (λ (s : n / 10 < n). fuel f g (n / 10) (omega arith) (omega arith))
  where
    go : (t : Bool) → ltb n 10 ≡ t → (n / 10 < n → digits_with f (n / 10) ≡ digits_with g (n / 10)) → digits_with (suc f) n ≡ digits_with (suc g) n
    go true e i = rw e
    go false e i =
        let l : 10 ≤ n = ltb-false n 10 e in
        rw (e, i (div-lt_self (omega arith) (omega arith)))

pub digits-one : (n : ℕ) → n < 10 → digits n ≡ (48 + n) ∷ []
unfolding digits
digits-one n h = rw (lt-ltb n 10 h)

pub digits-tens : (n : ℕ) → 10 ≤ n → digits n ≡ digits (n / 10) ++ (48 + n % 10) ∷ []
unfolding digits
digits-tens n h =
    let s : n / 10 < n = div-lt_self (omega arith) (omega arith) in
    rw (le-ltb n 10 h, fuel n (suc (n / 10)) (n / 10) s (omega arith))

pub digits_more : (v d : ℕ) → 0 < v → d < 10 → digits (10 * v + d) ≡ digits v ++ (48 + d) ∷ []
digits_more v d h k =
    let l : 10 ≤ 10 * v + d = omega arith in
    let q : (10 * v + d) / 10 ≡ v = omega arith in
    let m : (10 * v + d) % 10 ≡ d = omega arith in
    rw (digits-tens (10 * v + d) l, q, m)

-- ---- how many digits
pub length-one : (n : ℕ) → n < 10 → length (digits n) ≡ 1
length-one n h = rw (digits-one n h)

pub length-tens : (n : ℕ) → 10 ≤ n → length (digits n) ≡ length (digits (n / 10)) + 1
length-tens n h = rw (digits-tens n h, length-append)

pub length_some : (n : ℕ) → 0 < length (digits n)
length_some n = go (ltb n 10) refl
  where
    go : (b : Bool) → ltb n 10 ≡ b → 0 < length (digits n)
    go true e = omega (arith, length-one n (ltb-true n 10 e))
    go false e = omega (arith, length-tens n (ltb-false n 10 e))

-- n has k + 1 digits from 10 ^ k on, up to the next power
pub length_from : (k n : ℕ) → 10 ^ k ≤ n → n < 10 ^ suc k → length (digits n) ≡ suc k
length_from zero n h l = length-one n l
length_from (suc k) n h l = omega (arith, length-tens n (omega arith), length_from k (n / 10) (omega arith) (omega arith))

with_bound : (f n : ℕ) → n < f → length (digits n) ≤ suc n
with_bound zero n h = absurd (omega arith)
with_bound (suc f) n h = go (ltb n 10) refl (λ (s : n / 10 < n). with_bound f (n / 10) (omega arith))
  where
    go : (t : Bool) → ltb n 10 ≡ t → (n / 10 < n → length (digits (n / 10)) ≤ suc (n / 10)) → length (digits n) ≤ suc n
    go true e i = omega (arith, length-one n (ltb-true n 10 e))
    go false e i =
        let l : 10 ≤ n = ltb-false n 10 e in
        let s : n / 10 < n = div-lt_self (omega arith) (omega arith) in
        omega (arith, length-tens n l, i s)

pub length_bound : (n : ℕ) → length (digits n) ≤ suc n
length_bound n = with_bound (suc n) n (omega arith)

-- ---- a number is 2 n or 2 n + 1 halves
pub text-whole : (n : ℕ) → number_text (2 * n) ≡ digits n
unfolding number_text
text-whole n =
    let q : 2 * n / 2 ≡ n = omega arith in
    let m : 2 * n % 2 ≡ 0 = omega arith in
    rw (q, m, append-nil)

pub text-half : (n : ℕ) → number_text (2 * n + 1) ≡ digits n ++ 46 ∷ 53 ∷ []
unfolding number_text
text-half n =
    let q : (2 * n + 1) / 2 ≡ n = omega arith in
    let m : (2 * n + 1) % 2 ≡ 1 = omega arith in
    rw (q, m)

pub text-even : (h : ℕ) → h % 2 ≡ 0 → number_text h ≡ digits (h / 2)
unfolding number_text
text-even h e = rw (e, append-nil)

pub text_odd : (h : ℕ) → (h % 2 ≡ 0 → ⊥) → number_text h ≡ digits (h / 2) ++ 46 ∷ 53 ∷ []
unfolding number_text
text_odd h n = let e : h % 2 ≡ 1 = omega arith in rw e

pub length-even : (h : ℕ) → h % 2 ≡ 0 → length (number_text h) ≡ length (digits (h / 2))
length-even h e = ap length (text-even h e)

pub length_odd : (h : ℕ) → (h % 2 ≡ 0 → ⊥) → length (number_text h) ≡ length (digits (h / 2)) + 2
length_odd h n = ap length (text_odd h n) ∙ length-append (digits (h / 2)) (46 ∷ 53 ∷ [])

pub length_digits : (h : ℕ) → length (digits (h / 2)) ≤ length (number_text h)
unfolding number_text
length_digits h = omega (arith, length-append (digits (h / 2)) (half_text (h % 2)))

pub number_bound : (h : ℕ) → length (number_text h) ≤ h + 3
unfolding number_text
number_bound h = go (h % 2) (omega (arith, length-append (digits (h / 2)) (half_text (h % 2))))
  where
    go : (m : ℕ) → length (number_text h) ≡ length (digits (h / 2)) + length (half_text m) → length (number_text h) ≤ h + 3
    go zero e = omega (arith, length_bound (h / 2))
    go (suc m) e = omega (arith, length_bound (h / 2))
