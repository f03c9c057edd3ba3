-- What the modules share: greatest and least of a list, sums, what may be missing.
-- Assumes nothing.
use Rattle.std.specs.Prelude.{ℕ, ◌+◌, min, max, Bool, true, false, List, [], ◌∷◌}
use Rattle.std.proofs.Math.Option.{Option, none, some}

-- the largest of the list, 0 for none
abbrev pub largest : List ℕ → ℕ
largest [] = 0
largest (x ∷ xs) = max x (largest xs)

-- the smallest of the list and m
abbrev pub smallest : ℕ → List ℕ → ℕ
smallest m [] = m
smallest m (x ∷ xs) = min x (smallest m xs)

abbrev pub total : List ℕ → ℕ
total [] = 0
total (x ∷ xs) = x + total xs

-- what stands there, or d
abbrev pub or_else : {A : Type 0} → A → Option A → A
or_else d none = d
or_else d (some a) = a

-- nothing stands there
abbrev pub nothing : {A : Type 0} → Option A → Bool
nothing none = true
nothing (some a) = false
