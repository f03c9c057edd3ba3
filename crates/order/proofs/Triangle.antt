-- The place of a pair in the table: below 1,128, and another for each pair.
-- Assumes nothing.
use Prim.Native.Nat.{ℕ, zero, suc, ◌+◌, ◌-◌, ◌*◌, ◌/◌, ◌≤◌, ◌<◌}
use native.Mathlib.Omega.{arith}
use native.Mathlib.Nat.{mul-suc, suc-mul}
use mathlib.Core.Logic.{inl, inr}
use mathlib.Core.Path.{◌≡◌, ap, ◌∙◌}
use Rattle.laws.proofs.Tests.{less?, same?}
use Rattle.order.specs.code.Sums.{row_at, pair_at}

-- the next row
row_next : (a : ℕ) → a < 47 → row_at (suc a) ≡ row_at a + (46 - a)
row_next a h =
    let e : suc a * (93 - suc a) ≡ a * (92 - a) + (92 - a) = let z : 93 - suc a ≡ 92 - a = omega arith in ap (λ (v : ℕ). suc a * v) z ∙ suc-mul a (92 - a) in
    let f : a * (93 - a) ≡ a * (92 - a) + a = let z : 93 - a ≡ suc (92 - a) = omega arith in ap (λ (v : ℕ). a * v) z ∙ mul-suc a (92 - a) in
    halves (a * (92 - a)) a (suc a * (93 - suc a)) (a * (93 - a)) e f h
  where
    halves : (m a x y : ℕ) → x ≡ m + (92 - a) → y ≡ m + a → a < 47 → x / 2 ≡ y / 2 + (46 - a)
    halves m a x y e f h = omega arith

row-rises : (a k : ℕ) → a + k < 48 → row_at a ≤ row_at (a + k)
row-rises a zero h = let e : a + 0 ≡ a = omega arith in rw e (omega arith)
row-rises a (suc k) h =
    let e : a + suc k ≡ suc (a + k) = omega arith in
    rw e (omega (arith, row_next (a + k) (omega arith), row-rises a k (omega arith)))

pub row_le : (a b : ℕ) → a < b → b < 48 → row_at a ≤ row_at b
row_le a b h k = let e : a + (b - a) ≡ b = omega arith in rw e at (row-rises a (b - a) (omega arith))

-- a later row lies above a whole earlier one
row-above : (a b : ℕ) → a < b → b < 48 → row_at a + 47 ≤ row_at b + b
row-above a b h k =
    let e : suc a + (b - suc a) ≡ b = omega arith in
    let u : row_at (suc a) ≤ row_at b = rw e at (row-rises (suc a) (b - suc a) (omega arith)) in
    omega (arith, row_next a (omega arith))

-- another place for each pair
pub pair_same : (a b c d : ℕ) → a < b → b < 48 → c < d → d < 48 → pair_at a b ≡ pair_at c d → (a ≡ c) × (b ≡ d)
pair_same a b c d h i k j e =
    elim (same? a c) [
      | inl q ↦ let t : row_at a ≡ row_at c = ap row_at q in (q, omega arith)
      | inr o ↦ elim (less? a c) [
        | inl l ↦ absurd (omega (arith, row-above a c l (omega arith)))
        | inr l ↦ absurd (omega (arith, row-above c a (strict a c o l) (omega arith)))
      ]
    ]
  where
    strict : (a c : ℕ) → (a ≡ c → ⊥) → c ≤ a → c < a
    strict a c o l = omega arith

pub pair-below : (a b : ℕ) → a < b → b < 48 → pair_at a b < 1128
pair-below a b h k = let m : row_at a ≤ row_at 47 = row_le a 47 (omega arith) (omega arith) in omega arith
