-- The completed graph of a chart, not cut. The chart is read in the strict setting (document 02, L5), so each end leads to a given node.
-- Assumes nothing.
use Rattle.std.specs.Prelude.{ℕ, ◌≤◌, ◌<◌, ◌≡◌, List, length, get_or, Result, Err}
use Rattle.refusals.specs.Refusals.{numbers_of, numbers_in}
use Rattle.refusals.specs.declared.Refusal.{Refusal}
use Rattle.chart.specs.declared.Setting.TheVariants.{Strict}
use Rattle.chart.specs.Chart.{Board, Reading, ready as accepted, refusal as refused, chart}
use Rattle.graph.specs.declared.Tables.{Tables}
use Rattle.graph.specs.Graph.{Node, Graph, given_graph, node_at, leads_to}
use Rattle.graph.specs.Completion.{complete}
use Rattle.graph.specs.Graphed.{Graphed, ready, refusal}
use Rattle.graph.specs.Laws.{Aimed, Marked, Texts, Unmarked, ends}
use Rattle.graph.specs.Outcome.{answer_of}

-- a refused chart stays refused; an accepted one is completed
abbrev pub completing : Reading → Graphed
completing (accepted ps) = ready (record { graph = complete (given_graph ps); cuts = 0 })
completing (refused why) = refusal why

-- the completed graph of a chart's bytes, or the first of the refusals 1 to 12
unfoldable pub completed : List ℕ → Graphed
unfolding chart complete
completed s = completing (chart Strict s)

-- sources and sinks name each other: some sink of p leads to q exactly if some source of q comes from p
abbrev pub Mutual : Graph → Type 0
Mutual g = (p q : ℕ) → leads_to (node_at g p).sinks q ≡ leads_to (node_at g q).sources p

-- what holds of the completed graph g of the chart s, where g₀ is the given one
pub record CompletedLaws (s : List ℕ) (g₀ g : Graph) : Type 0 where
  -- 'Byte 1 is n'
  pub nodes : length g ≡ get_or s 1 0
  pub few : length g ≤ 32
  -- each source and each sink leads to a node
  pub aimed : Aimed (length g) g
  pub both : Mutual g
  pub sources : ends (λ (x : Node). x.sources) g ≤ 64
  pub sinks : ends (λ (x : Node). x.sinks) g ≤ 64
  -- a mark names a sink of the source's target that leads here; no sink has one
  pub marks : Marked g
  pub unmarked : Unmarked g
  -- node k keeps its lines and its texts
  pub lines : (k : ℕ) → k < length g → (node_at g k).lines ≡ (node_at g₀ k).lines
  pub texts : (k : ℕ) → k < length g → Texts g₀ g k

-- r is the completed graph of the chart s
pub record IsCompleted (s : List ℕ) (r : Result Tables Refusal) : Type 0 where
  -- every field, past the counts too
  pub whole : r ≡ answer_of (completed s)
  -- a refusal is document 01's first
  pub refused : (why : Refusal) → completed s ≡ refusal why → r ≡ Err why
  pub numbers : (why : Refusal) → completed s ≡ refusal why → numbers_in r ≡ numbers_of why
  pub laws : (board : Board) → chart Strict s ≡ accepted board → CompletedLaws s (given_graph board) (complete (given_graph board))
