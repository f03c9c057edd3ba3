-- The lowest number that passes a test.
-- Assumes nothing.
use Prim.Native.Nat.{ℕ, zero, suc, ◌+◌, ◌≤◌, ◌<◌}
use native.Mathlib.Omega.{arith}
use mathlib.Core.Path.{◌≡◌, sym, subst}
use mathlib.Core.Logic.{◌⊎◌, inl, inr}
use mathlib.Core.Bool.{Bool, true, false}
use Rattle.laws.proofs.Tests.{same?, pick-by}
use Rattle.signal.specs.Signal.{lowest}

module _ (test : ℕ → Bool) where
  -- r is the first of k numbers from p on that passes, p + k where none does
  pub record Lowest (k p r : ℕ) : Type 0 where
    pub above : p ≤ r
    pub within : r ≤ p + k
    pub passes : r < p + k → test r ≡ true
    pub none : (q : ℕ) → p ≤ q → q < r → test q ≡ false

  pub is_lowest : (k p : ℕ) → Lowest k p (lowest k test p)
  is_lowest zero p =
      record { above = omega arith; within = omega arith; passes = λ h. absurd (let l : p < p + 0 = h in omega arith); none = λ q h l. absurd (omega arith) }
  is_lowest (suc k) p =
      pick-by (Lowest (suc k) p) (test p) p (lowest k test (suc p))
      (λ e. record { above = omega arith; within = omega arith; passes = λ h. e; none = λ q h l. absurd (omega arith) })
      (λ e.
      let o = is_lowest k (suc p) in
      record {
        above = omega (arith, o.above);
        within = omega (arith, o.within);
        passes = λ h. o.passes (omega (arith, h));
        none = λ q h l. low e o q h l (same? q p);
      })
    where
      low : test p ≡ false → Lowest k (suc p) (lowest k test (suc p)) → (q : ℕ) → p ≤ q → q < lowest k test (suc p) → (q ≡ p) ⊎ (q ≡ p → ⊥) → test q ≡ false
      low e o q h l (inl i) = subst (λ (z : ℕ). test z ≡ false) (sym i) e
      low e o q h l (inr i) = o.none q (omega arith) l
