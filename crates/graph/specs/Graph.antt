-- A graph is the list of its nodes, by number; a node has its sources, its lines and its sinks, each in order.
-- A text is a part of the chart (where it starts, its length); a cut's box shows the Debug text of a node number, and the
-- box of a lead to a part taken out the Debug text of its target and `(invalid)`.
-- Assumes nothing.
use Rattle.std.specs.Prelude.{ℕ, Bool, true, false, ◌&&◌, ◌||◌, List, [], ◌∷◌, map, eqb, get_or, set, length}
use Rattle.std.proofs.Math.Option.{Option, none, some}
use Rattle.chart.specs.Chart.{Part, End, Board}
use Rattle.chart.specs.Chart.{Node as GivenNode}

-- 'A pointer's Debug text is `#` and the decimal number': a line of the chart, the Debug text of a node, or
-- 'the target's Debug text and `(invalid)`'
pub data Line : Type 0 where
  given : Part → Line
  number : ℕ → Line
  invalid : ℕ → Line

-- an end of an edge: the node at the other end, the number of the sink there that a source belongs to, if it is known, and a text
-- (a sink has no mark)
pub record Edge : Type 0 where
  pub to : ℕ
  pub mark : Option ℕ
  pub text : Part

pub record Node : Type 0 where
  pub sources : List Edge
  pub lines : List Line
  pub sinks : List Edge

abbrev pub Graph : Type 0
Graph = List Node

abbrev pub no_text : Part
no_text = record { at = 0; len = 0 }

abbrev pub no_edge : Edge
no_edge = record { to = 0; mark = none; text = no_text }

abbrev pub bare : Node
bare = record { sources = []; lines = []; sinks = [] }

-- 'Given sources start unmarked.'
abbrev pub unmarked : End → Edge
unmarked e = record { to = e.to; mark = none; text = e.text }

abbrev pub given_node : GivenNode → Node
given_node p = record { sources = map unmarked p.sources; lines = map given p.lines; sinks = map unmarked p.sinks }

-- the graph as the chart gives it
abbrev pub given_graph : Board → Graph
given_graph ps = map given_node ps

-- node p of g
abbrev pub node_at : Graph → ℕ → Node
node_at g p = get_or g p bare

-- how many sinks node c has
abbrev pub degree : Graph → ℕ → ℕ
degree g c = length (node_at g c).sinks

-- the list is empty
abbrev pub none? : List Edge → Bool
none? [] = true
none? (e ∷ es) = false

-- the mark is exactly i
abbrev pub is_mark : Option ℕ → ℕ → Bool
is_mark none i = false
is_mark (some j) i = eqb j i

-- an edge of the list has target p
abbrev pub leads_to : List Edge → ℕ → Bool
leads_to [] p = false
leads_to (e ∷ es) p = eqb e.to p || leads_to es p

-- an edge of the list has target p and mark i
abbrev pub has_marked : List Edge → ℕ → ℕ → Bool
has_marked [] p i = false
has_marked (e ∷ es) p i = (eqb e.to p && is_mark e.mark i) || has_marked es p i

-- the graph with node p's sources, or its sinks, replaced
abbrev pub with_sources : Graph → ℕ → List Edge → Graph
with_sources g p es = let n = node_at g p in set g p (record { sources = es; lines = n.lines; sinks = n.sinks })

abbrev pub with_sinks : Graph → ℕ → List Edge → Graph
with_sinks g p es = let n = node_at g p in set g p (record { sources = n.sources; lines = n.lines; sinks = es })
