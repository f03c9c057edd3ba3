-- One turn more of a counting loop.
-- Assumes nothing.
use Prim.Native.Nat.{ℕ, zero, suc, ◌+◌, ◌≤◌, ◌<◌}
use native.Mathlib.Omega.{arith}
use native.Mathlib.Numerals.{add-one}
use mathlib.Core.Path.{◌≡◌, ap}
use Rattle.laws.specs.Each.{each}

pub next : {S : Type 0} (s : S) (step : ℕ → S → S) (k : ℕ) → each s step (k + 1) ≡ step k (each s step k)
unfolding each
next s step k = ap (each s step) (add-one k)

-- what holds before step k, for each k
pub each_holds : {S : Type 0} (P : ℕ → S → Type 0) (step : ℕ → S → S) (n : ℕ) → ((k : ℕ) (s : S) → k < n → P k s → P (suc k) (step k s)) → (s : S) → P 0 s → (k : ℕ) → k ≤ n → P k (each s step k)
unfolding each
each_holds P step n f s h zero l = h
each_holds P step n f s h (suc k) l = f k (each s step k) (omega arith) (each_holds P step n f s h k (omega arith))

-- what each of the first n steps keeps
pub each_keeps : {S : Type 0} (P : S → Type 0) (step : ℕ → S → S) (n : ℕ) → ((k : ℕ) (s : S) → k < n → P s → P (step k s)) → (s : S) → P s → (k : ℕ) → k ≤ n → P (each s step k)
each_keeps P = each_holds (λ k. P)

-- what holds at first, and each step carries from p to p + 1, holds after k steps
pub keeps : {S : Type 0} (P : ℕ → S → Type 0) (s : S) (step : ℕ → S → S) → P 0 s → (k : ℕ) → ((p : ℕ) (u : S) → p < k → P p u → P (suc p) (step p u)) → P k (each s step k)
keeps P s step h k f = each_holds P step k f s h k (omega arith)
