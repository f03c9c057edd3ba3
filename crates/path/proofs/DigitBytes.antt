-- SVG's digits as a test on bytes. Assumes nothing.
use mathlib.Core.Path.{◌≡◌, refl}
use mathlib.Core.Bool.{Bool, true, false, ◌&&◌, and-eq-true_iff}
use Prim.Native.Nat.{ℕ, ◌-◌, ◌≤◌, ◌<◌}
use native.Mathlib.Omega.{arith}
use borrow.Author.Tests.{le-leb, lt-ltb, leb-true, ltb-true}
use lib.Dec.{leb, ltb}
use Rattle.path.specs.Svg.{Digit, NotDigit}

abbrev pub is_digit : ℕ → Bool
is_digit b = leb 48 b && ltb b 58

pub digit-is : {b d : ℕ} → Digit b d → is_digit b ≡ true
digit-is {b} g = rw (le-leb 48 b (omega (arith, g.is)), lt-ltb b 58 (omega (arith, g.is, g.small)))

pub is_digit_lem : {b : ℕ} → is_digit b ≡ true → Digit b (b - 48)
is_digit_lem {b} e =
    let both = (and-eq-true_iff (leb 48 b) (ltb b 58)).0 e in
    let l : 48 ≤ b = leb-true 48 b both.0 in
    let m : b < 58 = ltb-true b 58 both.1 in
    record { is = omega arith; small = omega arith }

pub not_digit : (b : ℕ) → NotDigit b → is_digit b ≡ false
not_digit b n = go (is_digit b) refl
  where
    go : (t : Bool) → is_digit b ≡ t → t ≡ false
    go true e = absurd (n.no (b - 48) (is_digit_lem e))
    go false e = refl
