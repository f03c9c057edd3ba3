-- The walk's signed rows against the definition's, which start at n.
-- Assumes nothing.
use Prim.Native.Nat.{ℕ, zero, suc, ◌+◌, ◌-◌, ◌≤◌, ◌<◌, min}
use native.Mathlib.Omega.{arith}
use mathlib.Core.Path.{◌≡◌, refl, ap, ◌∙◌}
use mathlib.Core.Logic.{◌⊎◌, inl, inr}
use mathlib.Core.Bool.{Bool, true, false, cond, false≢true}
use lib.Dec.{ltb}
use lib.IntN.{ℤ, pos, negsuc, nat_abs, suc_ℤ, pred_ℤ, ◌-ℤ◌, +ℤ_one, -ℤ_one}
use lib.Signed.{lt_z, le_z}
use mir.Syntax.{w8}
use mir.Val.{SFits, to_z, of_z}
use mir.Facts.{to_z-of_z}
use borrow.Author.Tests.{lt-ltb, le-ltb, le-leb, leb-true}
use Rattle.laws.proofs.Tests.{less?}
use Rattle.std.specs.Int.{int_min}
use Rattle.grid.specs.code.Walk.{raised, row_by, signed_by}

-- a row that an i8 holds
pub fits : (z : ℤ) → nat_abs z < 128 → SFits w8 z
fits (pos k) h = record { sfits = omega arith }
fits (negsuc k) h = record { sfits = omega arith }

raised_pred : (n : ℕ) (z : ℤ) → raised n (pred_ℤ z) ≡ raised n z - 1
raised_pred n (pos zero) = omega arith
raised_pred n (pos (suc k)) = omega arith
raised_pred n (negsuc k) = omega arith

raised_suc : (n : ℕ) (z : ℤ) → nat_abs z ≤ n → raised n (suc_ℤ z) ≡ raised n z + 1
raised_suc n (pos k) h = omega arith
raised_suc n (negsuc zero) h = omega arith
raised_suc n (negsuc (suc k)) h = omega arith

near_pred : (z : ℤ) → nat_abs (pred_ℤ z) ≤ suc (nat_abs z)
near_pred (pos zero) = omega arith
near_pred (pos (suc k)) = omega arith
near_pred (negsuc k) = omega arith

near_suc : (z : ℤ) → nat_abs (suc_ℤ z) ≤ suc (nat_abs z)
near_suc (pos k) = omega arith
near_suc (negsuc zero) = omega arith
near_suc (negsuc (suc k)) = omega arith

-- a row above or below is the definition's
pub raised_by : (b : Bool) (n : ℕ) (z : ℤ) → nat_abs z ≤ n → raised n (signed_by b z) ≡ row_by b (raised n z)
raised_by true n z h = ap (raised n) (-ℤ_one z) ∙ raised_pred n z
raised_by false n z h = ap (raised n) (+ℤ_one z) ∙ raised_suc n z h

pub near_by : (b : Bool) (z : ℤ) (j : ℕ) → nat_abs z ≤ j → nat_abs (signed_by b z) ≤ suc j
near_by true z j h = rw (-ℤ_one z) (omega (arith, near_pred z))
near_by false z j h = rw (+ℤ_one z) (omega (arith, near_suc z))

-- a row that the definition has within 1 .. 2n - 1 is near
pub near-raised : (n : ℕ) (z : ℤ) → 1 ≤ raised n z → raised n z < n + n → nat_abs z < n
near-raised n (pos k) a b = omega arith
near-raised n (negsuc k) a b = omega arith

-- the lesser
pub smaller : (n : ℕ) (z m : ℤ) → nat_abs z ≤ n → nat_abs m ≤ n → raised n (int_min z m) ≡ min (raised n z) (raised n m)
smaller n (pos c) (pos a) h k = go (less? a c)
  where
    go : (a < c) ⊎ (c ≤ a) → raised n (cond (ltb a c) (pos a) (pos c)) ≡ min (n + c) (n + a)
    go (inl l) = rw (lt-ltb a c l) (omega arith)
    go (inr l) = rw (le-ltb a c l) (omega arith)
smaller n (pos c) (negsuc a) h k = omega arith
smaller n (negsuc c) (pos a) h k = omega arith
smaller n (negsuc c) (negsuc a) h k = go (less? c a)
  where
    go : (c < a) ⊎ (a ≤ c) → raised n (cond (ltb c a) (negsuc a) (negsuc c)) ≡ min (n - suc c) (n - suc a)
    go (inl l) = rw (lt-ltb c a l) (omega arith)
    go (inr l) = rw (le-ltb c a l) (omega arith)

either : (t : Bool) (z m : ℤ) (n : ℕ) → nat_abs z ≤ n → nat_abs m ≤ n → nat_abs (cond t m z) ≤ n
either true z m n h k = k
either false z m n h k = h

pub smaller-near : (n : ℕ) (z m : ℤ) → nat_abs z ≤ n → nat_abs m ≤ n → nat_abs (int_min z m) ≤ n
smaller-near n z m h k = either (lt_z m z) z m n h k

-- the order, and the difference
pub raised_le : (n : ℕ) (z m : ℤ) → nat_abs z ≤ n → nat_abs m ≤ n → raised n m ≤ raised n z → le_z m z ≡ true
raised_le n (pos c) (pos a) h k l = le-leb a c (omega arith)
raised_le n (pos c) (negsuc a) h k l = refl
raised_le n (negsuc c) (pos a) h k l = absurd (omega arith)
raised_le n (negsuc c) (negsuc a) h k l = le-leb c a (omega arith)

pub difference : (n : ℕ) (z m : ℤ) → nat_abs z ≤ n → nat_abs m ≤ n → le_z m z ≡ true → z -ℤ m ≡ pos (raised n z - raised n m)
difference n (pos c) (pos zero) h k l = ap pos (omega arith)
difference n (pos c) (pos (suc a)) h k l = rw (le-ltb c (suc a) (leb-true (suc a) c l)) (ap pos (omega arith))
difference n (pos c) (negsuc a) h k l = ap pos (omega arith)
difference n (negsuc c) (pos a) h k l = absurd (false≢true l)
difference n (negsuc c) (negsuc a) h k l =
    let i : c ≤ a = leb-true c a l in
    rw (le-ltb (suc a) (suc c) (omega arith)) (ap pos (omega arith))

-- a number read back from its bits
pub back : (z : ℤ) → nat_abs z < 128 → to_z w8 (of_z w8 z) ≡ z
back z h = to_z-of_z (fits z h)
