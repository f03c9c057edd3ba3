-- Where the sources and the sinks of each node lead, node by node in one array: those of node p stand from bounds[2 p] up to bounds[2 p + 1], and from there up to bounds[2 p + 2].
-- Assumes nothing.
use Rattle.std.specs.Prelude.{ℕ, ◌+◌, ◌-◌, ◌*◌, ◌≤◌, ◌<◌, ◌≡◌, List, length, take, drop}
use Rattle.std.proofs.lemmas.List.Edits.{sets}
use Rattle.laws.specs.Lists.{tabulate}
use Rattle.tables.specs.declared.Table.{Table}
use Rattle.graph.specs.Shape.{Incidents, Shape}
use Rattle.grid.specs.Columns.{at}

-- from a up to b
abbrev pub part : List ℕ → ℕ → ℕ → List ℕ
part xs a b = take (b - a) (drop a xs)

abbrev pub leads_at : List ℕ → List ℕ → ℕ → Incidents
leads_at to bounds p =
    record {
      sources = part to (at bounds (2 * p)) (at bounds (2 * p + 1));
      sinks = part to (at bounds (2 * p + 1)) (at bounds (2 * p + 2));
    }

-- a table with these too, where it has room for them
abbrev pub with_all : {m : ℕ} → Table ℕ m → List ℕ → Table ℕ m
with_all t xs = record { items = sets t.items t.count xs; count = t.count + length xs }

-- n nodes that lead there
unfoldable pub shape_in : ℕ → List ℕ → List ℕ → Shape
shape_in n to bounds = tabulate (leads_at to bounds) 0 n

-- the bounds rise and end within the array, and each end leads to a node
pub record Led (n : ℕ) (to bounds : List ℕ) : Type 0 where
  pub long : length to ≡ 176
  pub nodes : n ≤ 48
  pub first : at bounds 0 ≡ 0
  pub rising : (i : ℕ) → i < 2 * n → at bounds i ≤ at bounds (i + 1)
  pub few : at bounds (2 * n) ≤ 176
  pub node : (k : ℕ) → k < at bounds (2 * n) → at to k < n
