-- The graph that the code's tables hold, and what holds of them from step to step.
-- Assumes nothing.
use Rattle.std.specs.List.{list_any}
use Rattle.std.specs.Prelude.{Bool, ℕ, zero, suc, ◌+◌, ◌*◌, ◌≤◌, ◌<◌, ◌≡◌, true, cond, ◌&&◌, List, [], ◌∷◌, ◌++◌, map, eqb, ltb, length, get_or, set, take, replicate}
use Rattle.std.proofs.Math.Option.{Option, none, some}
use Rattle.laws.specs.Lists.{All, one, tabulate, owned_by, tally}
use Rattle.chart.specs.declared.Item.{Item as GivenItem}
use Rattle.chart.specs.declared.Line.{Line as LineItem}
use Rattle.chart.specs.code.Filled.{lines_of as texts_of, owned_lines}
use Rattle.graph.specs.declared.Item.{Item}
use Rattle.graph.specs.Items.{Items}
use Rattle.graph.specs.declared.Name.{Name}
use Rattle.graph.specs.declared.Name.TheVariants.{Nothing, Number, Invalid}
use Rattle.graph.specs.declared.Tables.{Tables}
use Rattle.graph.specs.Completion.{gain_sink, complete_sinks, complete_sources, complete}
use Rattle.graph.specs.Cutting.{cut_graph}
use Rattle.graph.specs.Joining.{joined}
use Rattle.graph.specs.Laws.{ends}
use Rattle.graph.specs.Outcome.{no_item}
use Rattle.graph.specs.Graph.{Edge, Node, Graph, Line, given, number, invalid, node_at, leads_to, has_marked}

-- ---- the graph of the tables

-- a mark is held as its number plus 1, and none as 0
abbrev pub mark_of : ℕ → Option ℕ
mark_of zero = none
mark_of (suc i) = some i

abbrev pub edge_of : Item → Edge
edge_of r = record { to = r.to; mark = mark_of r.mark; text = record { at = r.at; len = r.len } }

-- the edges of the records that p owns, in table order
abbrev pub owned : ℕ → List Item → List Edge
owned = owned_by (λ r. r.owner) edge_of

abbrev pub items_of : Items → List Item
items_of t = take t.count t.items

-- node p, where ls are the lines of each node, xs the records of the sources and ys those of the sinks
abbrev pub node_of : List (List Line) → List Item → List Item → ℕ → Node
node_of ls xs ys p = record { sources = owned p xs; lines = get_or ls p []; sinks = owned p ys }

-- the line that a name holds: the Debug text of a node or of a target that is no node, or none
abbrev pub name_line : Name → List Line
name_line Nothing = []
name_line (Number q) = one (number q)
name_line (Invalid t) = one (invalid t)

-- the lines of node p: the given lines that it owns, and the line of its name
abbrev pub lines_at : List LineItem → List Name → ℕ → List Line
lines_at ts names p = map given (owned_lines p ts) ++ name_line (get_or names p Nothing)

abbrev pub lines_of : Tables → List (List Line)
lines_of t = tabulate (lines_at (texts_of t.lines) t.names) 0 t.n

-- n nodes
unfoldable pub graph_from : ℕ → List (List Line) → List Item → List Item → Graph
graph_from n ls xs ys = tabulate (node_of ls xs ys) 0 n

-- the graph that the tables hold
abbrev pub graph_of : Tables → Graph
graph_of t = graph_from t.n (lines_of t) (items_of t.sources) (items_of t.sinks)

-- ---- what holds of the tables

-- each record is owned by one of the first n nodes
abbrev pub Below : ℕ → List Item → Type 0
Below n = All (λ x. x.owner < n)

-- each record leads to one of the first n nodes
abbrev pub Aimed : ℕ → List Item → Type 0
Aimed n = All (λ x. x.to < n)

-- each line is owned by one of the first n nodes
abbrev pub Texted : ℕ → List LineItem → Type 0
Texted n = All (λ x. x.owner < n)

-- the counts are within the arrays, and each owner is a node
pub record Owned (t : Tables) : Type 0 where
  pub nodes : t.n ≤ 48
  pub source_room : t.sources.count ≤ 88
  pub sink_room : t.sinks.count ≤ 88
  pub source_owners : Below t.n (items_of t.sources)
  pub sink_owners : Below t.n (items_of t.sinks)
  pub line_owners : Texted t.n (texts_of t.lines)

-- the counts are within the arrays, each owner and each target is a node
pub record Linked (t : Tables) : Type 0 where
  pub nodes : t.n ≤ 48
  pub source_room : t.sources.count ≤ 88
  pub sink_room : t.sinks.count ≤ 88
  pub source_owners : Below t.n (items_of t.sources)
  pub sink_owners : Below t.n (items_of t.sinks)
  pub source_aims : Aimed t.n (items_of t.sources)
  pub sink_aims : Aimed t.n (items_of t.sinks)
  pub line_owners : Texted t.n (texts_of t.lines)

-- ---- the records

-- a record of the chart, unmarked
abbrev pub unmarked_item : GivenItem → Item
unmarked_item x = record { owner = x.owner; to = x.to; mark = 0; at = x.at; len = x.len }

-- t with one node more, of this name
abbrev pub with_box : Tables → Name → Tables
with_box t name = record { n = t.n + 1; cuts = t.cuts; names = set t.names t.n name; lines = t.lines; sources = t.sources; sinks = t.sinks }

-- ---- what completion's functions answer

-- the record of a source of q from sink i of p
abbrev pub source_of : ℕ → ℕ → ℕ → Item
source_of p i q = record { owner = q; to = p; mark = i + 1; at = 0; len = 0 }

-- whether a record has the owner, the target and the mark of x
abbrev pub held : Item → List Item → Bool
held x = list_any (λ (e : Item). eqb e.owner x.owner && (eqb e.to x.to && eqb e.mark x.mark))

-- the records of the sources, where the source x is gained
abbrev pub gained : List Item → Item → List Item
gained xs x = cond (held x xs) xs (xs ++ one x)

-- the same, where its node need not be one of the n nodes
abbrev pub gained_in : ℕ → List Item → Item → List Item
gained_in n xs x = cond (ltb x.owner n) (gained xs x) xs

-- the record of a sink of q to p
abbrev pub sink_of : ℕ → ℕ → Item
sink_of p q = record { owner = q; to = p; mark = 0; at = 0; len = 0 }

-- how many of the first k records c owns
abbrev pub before : ℕ → ℕ → List Item → ℕ
before c k ys = length (owned c (take k ys))

-- record k is number s of those that c owns
pub record Sunk (ys : List Item) (c s k : ℕ) : Type 0 where
  pub inside : k < length ys
  pub owner : (get_or ys k no_item).owner ≡ c
  pub number : length (owned c (take k ys)) ≡ s

-- the record with another mark, held as m
abbrev pub mark_item : ℕ → Item → Item
mark_item m x = record { owner = x.owner; to = x.to; mark = m; at = x.at; len = x.len }

-- how many records have no mark
abbrev pub bares : List Item → ℕ
bares [] = 0
bares (x ∷ xs) = tally (eqb x.mark 0) (bares xs)

-- each marked source has a sink at the other end
abbrev pub Sinked : List Item → List Item → Type 0
Sinked ys [] = Unit {0}
Sinked ys (x ∷ xs) = ((x.mark ≡ 0 → ⊥) → leads_to (owned x.to ys) x.owner ≡ true) × Sinked ys xs

-- each sink after the first g has its marked source at the other end
abbrev pub Paired : ℕ → List Item → List Item → Type 0
Paired g xs ys =
    (k : ℕ) → g ≤ k → k < length ys → has_marked (owned (get_or ys k no_item).to xs) (get_or ys k no_item).owner (length (owned (get_or ys k no_item).owner (take k ys))) ≡ true

-- what holds of the tables all through edge completion, where g sinks were given
pub record Fit (g : ℕ) (t : Tables) : Type 0 where
  pub linked : Owned t
  pub sinked : Sinked (items_of t.sinks) (items_of t.sources)
  pub paired : Paired g (items_of t.sources) (items_of t.sinks)
  pub room : t.sinks.count + bares (items_of t.sources) ≤ 64
  pub given : g ≤ length (items_of t.sinks)

-- the records that k nodes own, the first of them number p
abbrev pub dues : List Item → ℕ → ℕ → ℕ
dues zs p zero = 0
dues zs p (suc k) = length (owned p zs) + dues zs (suc p) k

-- r is t with other sources and sinks
pub record SameBut (t r : Tables) : Type 0 where
  pub nodes : r.n ≡ t.n
  pub cuts : r.cuts ≡ t.cuts
  pub names : r.names ≡ t.names
  pub lines : r.lines ≡ t.lines

-- r is t where the sinks of p have their sources
pub record SinksDone (g : ℕ) (t : Tables) (p : ℕ) (r : Tables) : Type 0 where
  pub graph : graph_of r ≡ complete_sinks (graph_of t) p 0 (node_at (graph_of t) p).sinks
  pub fit : Fit g r
  pub same : SameBut t r
  pub sinks : r.sinks ≡ t.sinks
  pub count : r.sources.count ≤ t.sources.count + length (owned p (take g (items_of t.sinks)))

-- r is t where the sources of p have their sinks
pub record SourcesDone (g : ℕ) (t : Tables) (p : ℕ) (r : Tables) : Type 0 where
  pub graph : graph_of r ≡ complete_sources (graph_of t) p 0 (node_at (graph_of t) p).sources
  pub fit : Fit g r
  pub same : SameBut t r
  pub count : r.sources.count ≡ t.sources.count
  pub given : take g (items_of r.sinks) ≡ take g (items_of t.sinks)

-- no record has a mark
abbrev pub Bare : List Item → Type 0
Bare = All (λ x. x.mark ≡ 0)

-- the tables as a chart gives them
pub record Charted (t : Tables) : Type 0 where
  pub nodes : t.n ≤ 32
  pub room : t.sources.count + t.sinks.count ≤ 64
  pub source_owners : Below t.n (items_of t.sources)
  pub sink_owners : Below t.n (items_of t.sinks)
  pub line_owners : Texted t.n (texts_of t.lines)
  pub bare : Bare (items_of t.sources)
  pub names : t.names ≡ replicate 48 Nothing

-- tables to be cut: there is room for the records that the cuts to 48 nodes may add
pub record Roomy (t : Tables) : Type 0 where
  pub linked : Linked t
  pub source_room : 2 * length (items_of t.sources) + 48 ≤ 176 + t.n
  pub sink_room : 2 * length (items_of t.sinks) + 48 ≤ 176 + t.n
  pub blank : (k : ℕ) → t.n ≤ k → k < 48 → get_or t.names k Nothing ≡ Nothing

-- tables to be joined or cut: the nodes past the last have no line
pub record Standing (t : Tables) : Type 0 where
  pub owned : Owned t
  pub blank : (k : ℕ) → t.n ≤ k → k < 48 → get_or t.names k Nothing ≡ Nothing

-- r is t completed
pub record Completed (t r : Tables) : Type 0 where
  pub graph : graph_of r ≡ complete (graph_of t)
  pub same : SameBut t r
  pub source_count : r.sources.count ≤ 64
  pub sink_count : r.sinks.count ≤ 64
  pub standing : Standing r

-- r is t where source k has its sink; the record is then held with the mark m
pub record SinkGained (t : Tables) (k : ℕ) (r : Tables) : Type 0 where
  pub graph :
      let x : Item = get_or (items_of t.sources) k no_item in
      graph_of r ≡ cond (ltb x.to (length (graph_of t))) (gain_sink (graph_of t) x.owner (before x.owner k (items_of t.sources)) (edge_of x)) (graph_of t)
  pub linked : Owned r
  pub same : SameBut t r
  pub source_count : r.sources.count ≡ t.sources.count
  pub sink_count : r.sinks.count ≤ t.sinks.count + 1
  pub m : ℕ
  pub marks : items_of r.sources ≡ set (items_of t.sources) k (mark_item m (get_or (items_of t.sources) k no_item))
  pub fits : (g : ℕ) → Fit g t → Fit g r × (take g (items_of r.sinks) ≡ take g (items_of t.sinks))

-- ---- what joining's functions answer

-- the record with another target
abbrev pub point_item : ℕ → Item → Item
point_item to x = record { owner = x.owner; to = to; mark = x.mark; at = x.at; len = x.len }

-- the records that lead to none of the first n nodes
abbrev pub far : ℕ → List Item → List Item
far n [] = []
far n (x ∷ xs) = cond (ltb x.to n) (far n xs) (x ∷ far n xs)

-- the graph has no more nodes, sources and sinks than the tables hold
pub record Fits (g : Graph) : Type 0 where
  pub nodes : length g ≤ 48
  pub sources : ends (λ (x : Node). x.sources) g ≤ 88
  pub sinks : ends (λ (x : Node). x.sinks) g ≤ 88

-- r is t with end i of p, record k on that side, joined
pub record EndJoined (side : Tables → Items) (step : Graph → ℕ → ℕ → Edge → Graph) (t : Tables) (p i k : ℕ) (r : Tables) : Type 0 where
  pub graph : graph_of r ≡ step (graph_of t) p i (edge_of (get_or (items_of (side t)) k no_item))
  pub standing : Standing r
  pub cuts : r.cuts ≡ t.cuts
  pub lines : r.lines ≡ t.lines
  pub more : t.n ≤ r.n
  pub count : (side r).count ≡ (side t).count
  pub to : ℕ
  pub items : items_of (side r) ≡ set (items_of (side t)) k (point_item to (get_or (items_of (side t)) k no_item))

-- r is t with all ends of p on one side joined
pub record EndsJoined (all : Graph → ℕ → ℕ → List Edge → Graph) (list : Node → List Edge) (t : Tables) (p : ℕ) (r : Tables) : Type 0 where
  pub graph : graph_of r ≡ all (graph_of t) p 0 (list (node_at (graph_of t) p))
  pub standing : Standing r
  pub cuts : r.cuts ≡ t.cuts
  pub lines : r.lines ≡ t.lines
  pub more : t.n ≤ r.n

-- r is t joined
pub record Joined (t r : Tables) : Type 0 where
  pub graph : graph_of r ≡ joined t.n (graph_of t)
  pub standing : Standing r
  pub cuts : r.cuts ≡ t.cuts
  pub lines : r.lines ≡ t.lines

-- ---- what cutting's functions answer

-- a source of q with target c becomes (to, mark 0)
abbrev pub turn_item : ℕ → ℕ → ℕ → Item → Item
turn_item q c to x = cond (eqb x.owner q && eqb x.to c) (record { owner = x.owner; to = to; mark = 1; at = x.at; len = x.len }) x

-- r is t with sink s of c, record k, cut
pub record CutTo (t : Tables) (c s k : ℕ) (r : Tables) : Type 0 where
  pub sound : Roomy r
  pub named : length r.names ≡ 48
  pub more : r.n ≡ t.n + 2
  pub cuts : r.cuts ≡ t.cuts + 1
  pub lines : r.lines ≡ t.lines
  pub graph : graph_of r ≡ cut_graph (graph_of t) c s (edge_of (get_or (items_of t.sinks) k no_item))
