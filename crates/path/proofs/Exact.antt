-- Sums and products of floats whose values are known fractions, and what they say of `halves`: up to 2 ^ 24 halves nothing is rounded. Assumes nothing.
use mathlib.Core.Path.{◌≡◌, refl, sym, ap, ◌∙◌, subst}
use mathlib.Core.Logic.{inl, inr}
use mathlib.Core.Bool.{true, false, true≢false}
use Prim.Native.Nat.{ℕ, ◌+◌, ◌-◌, ◌*◌, ◌/◌, ◌^◌, ◌≤◌, ◌<◌}
use native.Mathlib.Nat.{mul-pos, mul-one, one-mul, le_of_eq, mul_assoc, mul_comm, mul_left_comm, mul-mul-mul_comm, add-mul, eq-or-lt_of_le, lt_of_lt_of_le, lt_of_le_of_lt, mul-div_cancel}
use native.Mathlib.Omega.{arith}
use lib.Dec.{lit<, lit≤}
use lib.IntN.{pos, negsuc}
use lib.Pow.{pow-add, pow_pos, pow_mono, pow-lt, shl_lt}
use lib.Ieee.{Float, nan, inf, fin, Format, binary32, up, down, round, add, mul, of_int, of_bits}
use lib.Ieee.Fits.{down_pos}
use lib.Ieee.Exact.{HasValue, round_exact}
use lib.Ieee.Scale.{round_same}
use Rattle.path.specs.Halves.{halves, halves_of}

-- ---- an operation at any fractions that the operands equal
sum_cross : (X Y p q a c b d : ℕ) → X * c ≡ a * p → Y * d ≡ b * q → (X * q + Y * p) * (c * d) ≡ (a * d + b * c) * (p * q)
sum_cross X Y p q a c b d h k =
    let l : X * q * (c * d) ≡ a * d * (p * q) = simp (mul_assoc, mul_comm, mul_left_comm) (simp (mul_assoc, mul_comm, mul_left_comm) at (ap (λ (z : ℕ). z * (q * d)) h)) in
    let r : Y * p * (c * d) ≡ b * c * (p * q) = simp (mul_assoc, mul_comm, mul_left_comm) (simp (mul_assoc, mul_comm, mul_left_comm) at (ap (λ (z : ℕ). z * (p * c)) k)) in
    add-mul (X * q) (Y * p) (c * d) ∙ (λ i. l i + r i) ∙ sym (add-mul (a * d) (b * c) (p * q))

pub add_at : (f : Format) (x y : Float) (a c b d : ℕ) → 0 < c → 0 < d → HasValue x false a c → HasValue y false b d → add f x y ≡ round f false (a * d + b * c) (c * d)
unfolding add
add_at f nan y a c b d C D h k = elim h [ ]
add_at f (inf _) y a c b d C D h k = elim h [ ]
add_at f (fin true m e) y a c b d C D h k = absurd (true≢false h.0)
add_at f (fin false m e) nan a c b d C D h k = elim k [ ]
add_at f (fin false m e) (inf _) a c b d C D h k = elim k [ ]
add_at f (fin false m e) (fin true n g) a c b d C D h k = absurd (true≢false k.0)
add_at f (fin false m e) (fin false n g) a c b d C D h k =
    round_same f false (m * up e * down g + n * up g * down e) (down e * down g) (a * d + b * c) (c * d) (mul-pos (down_pos e) (down_pos g)) (mul-pos C D)
    (sum_cross (m * up e) (n * up g) (down e) (down g) a c b d h.1 k.1)

pub mul_at : (f : Format) (x y : Float) (a c b d : ℕ) → 0 < c → 0 < d → HasValue x false a c → HasValue y false b d → mul f x y ≡ round f false (a * b) (c * d)
unfolding mul
mul_at f nan y a c b d C D h k = elim h [ ]
mul_at f (inf _) y a c b d C D h k = elim h [ ]
mul_at f (fin true m e) y a c b d C D h k = absurd (true≢false h.0)
mul_at f (fin false m e) nan a c b d C D h k = elim k [ ]
mul_at f (fin false m e) (inf _) a c b d C D h k = elim k [ ]
mul_at f (fin false m e) (fin true n g) a c b d C D h k = absurd (true≢false k.0)
mul_at f (fin false m e) (fin false n g) a c b d C D h k =
    round_same f false (m * up e * (n * up g)) (down e * down g) (a * b) (c * d) (mul-pos (down_pos e) (down_pos g)) (mul-pos C D)
    (mul-mul-mul_comm (m * up e) (n * up g) c d ∙ (λ i. h.1 i * k.1 i) ∙ mul-mul-mul_comm a (down e) b (down g))

-- ---- no rounding: a number q / 2 ^ j with q up to 2 ^ 24 is a single-precision number
dyadic-small : (q j : ℕ) → q < 2 ^ 24 → j ≤ 149 → HasValue (round binary32 false q (2 ^ j)) false q (2 ^ j)
dyadic-small q j s l =
    round_exact binary32 false q (2 ^ j) q (149 - j) (pow_pos j) s (lt_of_lt_of_le (shl_lt 24 (149 - j) s) (pow_mono (room j)))
    (ap (λ (x : ℕ). q * x) (ap (λ (x : ℕ). 2 ^ x) (sym (back j l)) ∙ pow-add 2 (149 - j) j) ∙ sym (mul_assoc q (2 ^ (149 - j)) (2 ^ j)))
  where
    room : (j : ℕ) → 24 + (149 - j) ≤ 277
    room j = omega arith

    back : (j : ℕ) → j ≤ 149 → 149 - j + j ≡ 149
    back j l = omega arith

dyadic-top : (j : ℕ) → j ≤ 149 → HasValue (round binary32 false (2 ^ 24) (2 ^ j)) false (2 ^ 24) (2 ^ j)
dyadic-top j l =
    round_exact binary32 false (2 ^ 24) (2 ^ j) 1 (173 - j) (pow_pos j) (lit< tt)
    (lt_of_le_of_lt (le_of_eq (one-mul (2 ^ (173 - j)))) (pow-lt (room j)))
    (ap (λ (x : ℕ). 2 ^ x) (sym (back j l)) ∙ pow-add 2 (173 - j) j ∙ ap (λ (x : ℕ). x * 2 ^ j) (sym (one-mul (2 ^ (173 - j)))))
  where
    room : (j : ℕ) → 173 - j < 277
    room j = omega arith

    back : (j : ℕ) → j ≤ 149 → 173 - j + j ≡ 173
    back j l = omega arith

pub dyadic : (q j : ℕ) → q ≤ 2 ^ 24 → j ≤ 149 → HasValue (round binary32 false q (2 ^ j)) false q (2 ^ j)
dyadic q j h l =
    elim (eq-or-lt_of_le h) [
      | inl e ↦ subst (λ (x : ℕ). HasValue (round binary32 false x (2 ^ j)) false x (2 ^ j)) (sym e) (dyadic-top j l)
      | inr s ↦ dyadic-small q j s l
    ]

-- ---- `halves`
-- whole numbers are halves
pub of-whole : (n : ℕ) → round binary32 false n 1 ≡ halves (2 * n)
unfolding halves
of-whole n = round_same binary32 false n 1 (2 * n) 2 (lit< tt) (lit< tt) (omega arith)

pub of_int_lem : (n : ℕ) → of_int binary32 (pos n) ≡ halves (2 * n)
unfolding of_int
of_int_lem n = of-whole n

-- up to 2 ^ 24 halves nothing is rounded
pub exact : (h : ℕ) → h ≤ 2 ^ 24 → HasValue (halves h) false h 2
unfolding halves
exact h l = dyadic h 1 l (lit≤ tt)

-- ---- the way back
value-back : (x : Float) (h : ℕ) → HasValue x false h 2 → halves_of x ≡ h
unfolding halves_of
value-back nan h v = elim v [ ]
value-back (inf _) h v = elim v [ ]
value-back (fin s m e) h v = ap (λ (z : ℕ). z / down e) v.1 ∙ mul-div_cancel h (down_pos e)

pub back : (h : ℕ) → h ≤ 2 ^ 24 → halves_of (halves h) ≡ h
back h l = value-back (halves h) h (exact h l)

-- ---- what the code does, as MIR has it: a literal is its bit pattern
one_each : (a b : ℕ) → a * 1 + b * 1 ≡ a + b
one_each a b = omega arith

-- (a + b) * 0.5 of two whole numbers is (a + b) / 2, where the sum is at most 2 ^ 24
pub halfway_at : (a b : ℕ) → a + b ≤ 2 ^ 24 → mul binary32 (add binary32 (of_int binary32 (pos a)) (of_int binary32 (pos b))) (of_bits binary32 0x3f00_0000) ≡ halves (a + b)
unfolding halves of_int of_bits
halfway_at a b l =
    let s : add binary32 (round binary32 false a 1) (round binary32 false b 1) ≡ round binary32 false (a + b) 1 =
    add_at binary32 (round binary32 false a 1) (round binary32 false b 1) a 1 b 1 (lit< tt) (lit< tt) (dyadic a 0 (omega arith) (lit≤ tt)) (dyadic b 0 (omega arith) (lit≤ tt))
    ∙ ap (λ (x : ℕ). round binary32 false x 1) (one_each a b) in
    rw s (mul_at binary32 (round binary32 false (a + b) 1) (fin false 1 (negsuc 0)) (a + b) 1 1 2 (lit< tt) (lit< tt) (dyadic (a + b) 0 l (lit≤ tt)) (refl, refl)
    ∙ ap (λ (x : ℕ). round binary32 false x 2) (mul-one (a + b)))
