-- The codes as they are pushed, list by list, node by node. Not document 01's words: `Against` has those, and the laws in
-- proofs/Pushed.antt say that the two agree.
-- Assumes nothing.
use Rattle.std.specs.Prelude.{ℕ, suc, ◌+◌, ◌/◌, ◌≡◌, List, [], ◌∷◌, ◌++◌, map, leb, length, take}
use Rattle.laws.specs.Lists.{padded}
use Rattle.tables.specs.declared.Table.{Table}
use Rattle.graph.specs.Shape.{Incidents}
use Rattle.order.specs.declared.codes.Pair.{Pair}
use Rattle.order.specs.Against.{Against, reversed_if, neighbours, of_node}
use Rattle.order.specs.code.Sums.{code_of}

-- the table of these targets
abbrev pub held : List ℕ → Table ℕ 88
held ts = record { items = padded 88 0 ts; count = length ts }

-- u is t with xs pushed
pub record Pushed (t u : Table Pair 352) (xs : List Pair) : Type 0 where
  pub list : take u.count u.items ≡ take t.count t.items ++ xs
  pub count : u.count ≡ t.count + length xs

-- p against each of qs, which are those from number i on, reversed from number turn on
abbrev pub with_from : ℕ → ℕ → ℕ → List ℕ → List Against
with_from p turn i [] = []
with_from p turn i (q ∷ qs) = reversed_if (leb turn i) p q ∷ with_from p turn (suc i) qs

-- a whole list of node p
abbrev pub list_codes : ℕ → ℕ → List ℕ → List Pair
list_codes later p ts = map code_of (neighbours ts) ++ map code_of (with_from p (length ts / 2 + later) 0 ts)

-- all of node p
abbrev pub node_codes : ℕ → Incidents → List Pair
node_codes p e = map code_of (of_node p e)
