-- What modules 4 to 7 read of the cut graph, and the signal order of the completed one: where each source and each sink leads. Marks, texts and lines have no part in them.
-- Assumes nothing.
use Rattle.std.specs.Prelude.{ℕ, List, [], map, get_or}
use Rattle.graph.specs.Graph.{Edge, Node, Graph}

-- the node at the other end of each source, and of each sink, in order
pub record Incidents : Type 0 where
  pub sources : List ℕ
  pub sinks : List ℕ

-- the nodes by number
abbrev pub Shape : Type 0
Shape = List Incidents

abbrev pub no_incidents : Incidents
no_incidents = record { sources = []; sinks = [] }

-- node p
abbrev pub incidents_at : Shape → ℕ → Incidents
incidents_at g p = get_or g p no_incidents

abbrev pub targets : List Edge → List ℕ
targets es = map (λ (e : Edge). e.to) es

abbrev pub incidents_of : Node → Incidents
incidents_of n = record { sources = targets n.sources; sinks = targets n.sinks }

-- the shape of a graph
unfoldable pub shape_of : Graph → Shape
shape_of g = map incidents_of g
