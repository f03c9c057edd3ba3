-- The shape that the code's tables of ends hold.
-- Assumes nothing.
use Rattle.std.specs.Prelude.{ℕ, ◌≤◌, ◌<◌, List, map, get_or, take}
use Rattle.laws.specs.Lists.{tabulate, owned_by}
use Rattle.graph.specs.declared.Item.{Item}
use Rattle.graph.specs.declared.Lead.{Lead}
use Rattle.graph.specs.Items.{Items, Ends}
use Rattle.graph.specs.Shape.{Incidents, Shape}

-- where a record leads
abbrev pub lead_of : Item → Lead
lead_of x = record { owner = x.owner; to = x.to }

-- where the records of a table lead
abbrev pub ends_in : Items → Ends
ends_in t = record { items = map lead_of t.items; count = t.count }

abbrev pub no_lead : Lead
no_lead = record { owner = 0; to = 0 }

-- the targets of the leads that p owns, in order
abbrev pub targets_of : ℕ → List Lead → List ℕ
targets_of = owned_by (λ (l : Lead). l.owner) (λ (l : Lead). l.to)

abbrev pub ends_of : Ends → ℕ → List ℕ
ends_of e p = targets_of p (take e.count e.items)

abbrev pub incidents_in : Ends → Ends → ℕ → Incidents
incidents_in sources sinks p = record { sources = ends_of sources p; sinks = ends_of sinks p }

-- n nodes with these sources and sinks
unfoldable pub shape_from : ℕ → Ends → Ends → Shape
shape_from n sources sinks = tabulate (incidents_in sources sinks) 0 n

-- the count is within the array, and each end is one node's and leads to a node
pub record Linked (n : ℕ) (e : Ends) : Type 0 where
  pub few : e.count ≤ 88
  pub nodes : n ≤ 48
  pub owner : (k : ℕ) → k < e.count → (get_or e.items k no_lead).owner < n
  pub node : (k : ℕ) → k < e.count → (get_or e.items k no_lead).to < n
