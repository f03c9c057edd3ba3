-- Lists of numbers without repeats, cycles of a relation, and the walk that goes on until a node repeats.
-- Assumes nothing.
use Rattle.std.specs.Prelude.{ℕ, zero, suc, ◌≡◌, false, cond, List, [], ◌∷◌, eqb}
use Rattle.laws.specs.Lists.{has}

-- no number twice
abbrev pub Distinct : List ℕ → Type 0
Distinct [] = Unit {0}
Distinct (x ∷ xs) = (has x xs ≡ false) × Distinct xs

-- each is related to the next, and the last to z
abbrev pub Around : (ℕ → ℕ → Type 0) → List ℕ → ℕ → Type 0
Around E [] z = ⊥
Around E (x ∷ []) z = E x z
Around E (x ∷ y ∷ xs) z = E x y × Around E (y ∷ xs) z

-- each is related to the next, and the last to the first; there is one at least
abbrev pub Closed : (ℕ → ℕ → Type 0) → List ℕ → Type 0
Closed E [] = ⊥
Closed E (x ∷ xs) = Around E (x ∷ xs) x

pub record Cycle (E : ℕ → ℕ → Type 0) (cs : List ℕ) : Type 0 where
  pub distinct : Distinct cs
  pub closed : Closed E cs

-- the list up to the first q, and with it
abbrev pub up_to : ℕ → List ℕ → List ℕ
up_to q [] = []
up_to q (x ∷ xs) = x ∷ cond (eqb x q) [] (up_to q xs)

-- the path, last reached first, goes on to `next` of it until that is on the path already: then it is cut there.
-- d steps at most
unfoldable pub walk : (List ℕ → ℕ) → ℕ → List ℕ → List ℕ
walk next zero path = up_to (next path) path
walk next (suc d) path = let q = next path in cond (has q path) (up_to q path) (walk next d (q ∷ path))
