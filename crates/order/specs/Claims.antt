-- What is claimed of the definitions: of a graph in which each source and each sink leads to a node, the first columns are 0, 2, 4, ..
-- in some order, one for each node.
-- Assumes nothing.
use Rattle.std.specs.Prelude.{ℕ, ◌*◌, ◌<◌, ◌≡◌, List, [], ◌∷◌, length, get_or}
use Rattle.laws.specs.Lists.{All}
use Rattle.graph.specs.Shape.{Incidents}

-- each number of the list is below n
abbrev pub Under : ℕ → List ℕ → Type 0
Under n = All (λ (q : ℕ). q < n)

-- each source and each sink of the nodes leads to one of n nodes
abbrev pub Aimed : ℕ → List Incidents → Type 0
Aimed n [] = Unit {0}
Aimed n (e ∷ es) = Under n e.sources × Under n e.sinks × Aimed n es

-- n columns, that of node p at p: each is one of 0, 2, .. 2 (n - 1), no two nodes have the same, and each of them is had
pub record EachOnce (n : ℕ) (cs : List ℕ) : Type 0 where
  pub size : length cs ≡ n
  pub even : (p : ℕ) → p < n → (i : ℕ) × (i < n) × (get_or cs p 0 ≡ 2 * i)
  pub one : (p q : ℕ) → p < n → q < n → get_or cs p 0 ≡ get_or cs q 0 → p ≡ q
  pub some : (i : ℕ) → i < n → (p : ℕ) × (p < n) × (get_or cs p 0 ≡ 2 * i)
