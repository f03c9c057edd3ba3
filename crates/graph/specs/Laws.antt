-- What holds of each graph that is drawn, and of the walks of every accepted board.
-- Assumes nothing.
use Rattle.std.specs.Prelude.{ℕ, ◌+◌, ◌*◌, ◌≤◌, ◌<◌, ◌≡◌, ◌⊎◌, List, [], ◌∷◌, ◌++◌, map, length, get_or, replicate}
use Rattle.std.proofs.Math.Option.{none, some}
use Rattle.laws.specs.Lists.{All, one}
use Rattle.chart.specs.declared.Setting.{Setting}
use Rattle.chart.specs.declared.Setting.TheVariants.{Strict}
use Rattle.chart.specs.Chart.{Part, Board, ready as accepted, chart}
use Rattle.laws.specs.Each.{each}
use Rattle.graph.specs.Graph.{Line, number, invalid, Edge, Node, Graph, no_text, no_edge, given_graph, node_at, degree}
use Rattle.graph.specs.Completion.{complete}
use Rattle.graph.specs.Joining.{leads_of, uncut}
use Rattle.graph.specs.declared.reach.Seen.TheVariants.{Unseen}
use Rattle.graph.specs.Cutting.{mark_root, reached, start, beginning, cutting}
use Rattle.graph.specs.Graphed.{Dag, dag_of}

-- each source and each sink leads to one of the first n nodes
pub record Leads (n : ℕ) (x : Node) : Type 0 where
  pub sources : All (λ (e : Edge). e.to < n) x.sources
  pub sinks : All (λ (e : Edge). e.to < n) x.sinks

abbrev pub Aimed : ℕ → Graph → Type 0
Aimed n = All (Leads n)

-- sink i of q is there and leads to p
pub record SinkAt (g : Graph) (q i p : ℕ) : Type 0 where
  pub inside : i < degree g q
  pub leads : (get_or (node_at g q).sinks i no_edge).to ≡ p

-- a mark names a sink of the source's target, and that sink leads here
abbrev pub Names : Graph → ℕ → Edge → Type 0
Names g p e = (i : ℕ) → e.mark ≡ some i → SinkAt g e.to i p

abbrev pub Marked : Graph → Type 0
Marked g = (p : ℕ) → All (Names g p) (node_at g p).sources

-- the texts of a given node's edges: the given ones in order, and empty ones after them
abbrev pub texts_at : List Edge → List Part
texts_at es = map (λ (e : Edge). e.text) es

pub record Begins (old new : List Part) : Type 0 where
  pub blanks : ℕ
  pub texts : new ≡ old ++ replicate blanks no_text

-- node p keeps the texts that it has in g₀
pub record Texts (g₀ g : Graph) (p : ℕ) : Type 0 where
  pub sources : Begins (texts_at (node_at g₀ p).sources) (texts_at (node_at g p).sources)
  pub sinks : Begins (texts_at (node_at g₀ p).sinks) (texts_at (node_at g p).sinks)

-- no sink has a mark
abbrev pub Unmarked : Graph → Type 0
Unmarked = All (λ (x : Node). All (λ (e : Edge). e.mark ≡ none) x.sinks)

-- how many sources, or sinks, the nodes have
abbrev pub ends : (Node → List Edge) → Graph → ℕ
ends list [] = 0
ends list (x ∷ g) = length (list x) + ends list g

-- the line of a given node's number, where n nodes were given
pub record Named (n : ℕ) (ls : List Line) : Type 0 where
  pub q : ℕ
  pub inside : q < n
  pub line : ls ≡ one (number q)

-- source i of q is there and leads to p
pub record SourceTo (g : Graph) (q i p : ℕ) : Type 0 where
  pub inside : i < length (node_at g q).sources
  pub leads : (get_or (node_at g q).sources i no_edge).to ≡ p

-- node x, number k of the joined graph j, is the box of sink i of p, which led to t in g: 'The box of sink i has one source, mark i'
pub record OfSink (g j : Graph) (p i t k : ℕ) (x : Node) : Type 0 where
  pub sources : x.sources ≡ one (record { to = p; mark = some i; text = no_text })
  pub sinks : x.sinks ≡ []
  pub joined : SinkAt j p i k
  pub was : SinkAt g p i t

-- node x, number k of the joined graph j, is the box of source i of p, which led to t in g: 'the box of a source has one sink, and that source
-- stays unmarked'
pub record OfSource (g j : Graph) (p i t k : ℕ) (x : Node) : Type 0 where
  pub sources : x.sources ≡ []
  pub sinks : x.sinks ≡ one (record { to = p; mark = none; text = no_text })
  pub joined : SourceTo j p i k
  pub unmarked : (get_or (node_at j p).sources i no_edge).mark ≡ none
  pub was : SourceTo g p i t

-- node x, number k of j, is the box of a lead of g to a target that isn't one of the n given nodes
pub record BoxOf (g j : Graph) (n k : ℕ) (x : Node) : Type 0 where
  pub node : ℕ
  pub given : node < n
  pub number : ℕ
  pub target : ℕ
  pub past : n ≤ target
  pub line : x.lines ≡ one (invalid target)
  pub end : OfSink g j node number target k x ⊎ OfSource g j node number target k x

-- an end of a given node that led to t has a box of its own in j, one of the m after the n given nodes, as `Of` says of its number and node
pub record OwnBox (Of : ℕ → Node → Type 0) (j : Graph) (n m t : ℕ) : Type 0 where
  pub at : ℕ
  pub after : n ≤ at
  pub before : at < n + m
  pub line : (node_at j at).lines ≡ one (invalid t)
  pub box : Of at (node_at j at)

-- d is the graph that is drawn of the chart s in the setting w
pub record Laws (w : Setting) (s : List ℕ) (d : Dag) : Type 0 where
  pub board : Board
  pub read : chart w s ≡ accepted board
  pub walk : d ≡ dag_of (cutting (uncut board))
  -- 'Byte 1 is n'
  pub given : length board ≡ get_or s 1 0
  -- 'as many boxes as nodes, plus leads to nothing, plus two per cut'
  pub nodes : length d.graph ≡ length board + leads_of board + 2 * d.cuts
  -- 'A strict setting .. keeps refusal 12': no lead
  pub strict : w ≡ Strict → leads_of board ≡ 0
  pub boxes : length d.graph ≤ 48
  -- each source and each sink leads to a node
  pub aimed : Aimed (length d.graph) d.graph
  pub sources : ends (λ (x : Node). x.sources) d.graph ≤ 88
  pub sinks : ends (λ (x : Node). x.sinks) d.graph ≤ 88
  -- a mark names a sink of the source's target that leads here; no sink has one
  pub marks : Marked d.graph
  pub unmarked : Unmarked d.graph
  -- given node k keeps its lines and its texts
  pub lines : (k : ℕ) → k < length board → (node_at d.graph k).lines ≡ (node_at (given_graph board) k).lines
  pub texts : (k : ℕ) → k < length board → Texts (given_graph board) d.graph k
  -- 'each such sink of a node and then each such source of it gets its own new box joined to it'
  pub sinks_joined : (p i t : ℕ) → p < length board → SinkAt (complete (given_graph board)) p i t → length board ≤ t →
      OwnBox (OfSink (complete (given_graph board)) (uncut board) p i t) (uncut board) (length board) (leads_of board) t
  pub sources_joined : (p i t : ℕ) → p < length board → SourceTo (complete (given_graph board)) p i t → length board ≤ t →
      OwnBox (OfSource (complete (given_graph board)) (uncut board) p i t) (uncut board) (length board) (leads_of board) t
  -- and these are all the boxes; no cut changes them
  pub joined : (k : ℕ) → length board ≤ k → k < length board + leads_of board → BoxOf (complete (given_graph board)) (uncut board) (length board) k (node_at (uncut board) k)
  pub kept : (k : ℕ) → length board ≤ k → k < length board + leads_of board → node_at d.graph k ≡ node_at (uncut board) k
  -- a cut's box has one line, a given node's number
  pub inserted : (k : ℕ) → length board + leads_of board ≤ k → k < length d.graph → Named (length board) (node_at d.graph k).lines
  -- 'the same line': both boxes of a cut show the same node
  pub halves : (j : ℕ) → j < d.cuts →
      (node_at d.graph (length board + leads_of board + 2 * j)).lines ≡ (node_at d.graph (length board + leads_of board + 2 * j + 1)).lines

-- the walks of an accepted board end by themselves: no depth is used up, any larger bound gives the same
pub record Walks (board : Board) : Type 0 where
  pub roots : (more : ℕ) →
      each (replicate (length (uncut board)) Unseen) (mark_root (length (uncut board) + more) (uncut board)) (length (uncut board)) ≡ reached (uncut board)
  pub starts : (more : ℕ) → each (beginning (uncut board)) (start (length (uncut board) + more)) (length (uncut board)) ≡ cutting (uncut board)
