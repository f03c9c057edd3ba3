-- A counting loop.
-- Assumes nothing.
use Rattle.std.specs.Prelude.{ℕ, zero, suc}

-- the state s after step 0, step 1, .. step k - 1
unfoldable pub each : {S : Type 0} → S → (ℕ → S → S) → ℕ → S
each s step zero = s
each s step (suc k) = step k (each s step k)
