-- What modules 4 and 5 of document 01 go through: the neighbours in each list, and each node with its sources and its sinks.
-- Assumes nothing.
use Rattle.std.specs.Prelude.{ℕ, suc, ◌/◌, Bool, cond, List, [], ◌∷◌, ◌++◌, leb, ltb, length}
use Rattle.graph.specs.Shape.{Incidents, Shape}

-- one node against another: the first is to stand before the second
pub record Against : Type 0 where
  pub first : ℕ
  pub second : ℕ

abbrev pub against : ℕ → ℕ → Against
against p q = record { first = p; second = q }

-- q against the first of the list, that against the next, and so on
abbrev pub neighbours_from : ℕ → List ℕ → List Against
neighbours_from q [] = []
neighbours_from q (r ∷ rs) = against q r ∷ neighbours_from r rs

-- "neighbours in its source list, earlier against later"
abbrev pub neighbours : List ℕ → List Against
neighbours [] = []
neighbours (q ∷ qs) = neighbours_from q qs

-- p against q, reversed if b
abbrev pub reversed_if : Bool → ℕ → ℕ → Against
reversed_if b p q = cond b (against q p) (against p q)

-- "node against source i, reversed if i > len/2": qs are the sources from number i on, of len in all
abbrev pub with_sources : ℕ → ℕ → ℕ → List ℕ → List Against
with_sources p len i [] = []
with_sources p len i (q ∷ qs) = reversed_if (ltb (len / 2) i) p q ∷ with_sources p len (suc i) qs

-- "the same for sinks, reversed if i ≥ len/2"
abbrev pub with_sinks : ℕ → ℕ → ℕ → List ℕ → List Against
with_sinks p len i [] = []
with_sinks p len i (q ∷ qs) = reversed_if (leb (len / 2) i) p q ∷ with_sinks p len (suc i) qs

-- "For each node": node p
abbrev pub of_node : ℕ → Incidents → List Against
of_node p n =
    neighbours n.sources ++ with_sources p (length n.sources) 0 n.sources
    ++ neighbours n.sinks ++ with_sinks p (length n.sinks) 0 n.sinks

-- the nodes rise: ns are those from number p on
abbrev pub of_nodes : ℕ → List Incidents → List Against
of_nodes p [] = []
of_nodes p (n ∷ ns) = of_node p n ++ of_nodes (suc p) ns

unfoldable pub all : Shape → List Against
all g = of_nodes 0 g
