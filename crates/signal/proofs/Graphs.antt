-- The leads of the completed graph's sources hold the sources of its shape.
-- Assumes nothing.
use Prim.Native.Nat.{ℕ, ◌≤◌, ◌<◌}
use native.Mathlib.Omega.{arith}
use mathlib.Core.Path.{◌≡◌, refl, ap, sym, ◌∙◌, fun_ext}
use mathlib.Core.Logic.{◌⊎◌, inl, inr}
use mathlib.Core.List.{List, [], ◌∷◌}
use lib.ListN.{length, take, get_or-eq_default}
use borrow.Author.Tests.{ne_eqb}
use Rattle.laws.proofs.Tests.{less?}
use Rattle.std.specs.Prelude.{Result, Ok, Err}
use Rattle.refusals.specs.declared.Refusal.{Refusal}
use Rattle.chart.specs.declared.Setting.TheVariants.{Strict}
use Rattle.chart.specs.Chart.{Reading, ready as accepted, refusal as refused, chart}
use Rattle.graph.specs.declared.Item.{Item}
use Rattle.graph.specs.declared.Tables.{Tables}
use Rattle.graph.specs.Graph.{bare, given_graph, node_at}
use Rattle.graph.specs.Completion.{complete}
use Rattle.graph.specs.Graphed.{Dag, ready as whole, refusal as turned}
use Rattle.graph.specs.Completed.{completing, completed}
use Rattle.graph.specs.code.Graphs.{dag_in, graphed_of, IsAnswer}
use Rattle.graph.specs.Shape.{Incidents, targets, shape_of}
use Rattle.graph.specs.Ends.{ends_in}
use Rattle.graph.specs.code.Tables.{owned, items_of, lines_of, graph_of, Below, Linked}
use Rattle.graph.proofs.Lists.{node-graph}
use Rattle.graph.proofs.Cuts.{length-graph}
use Rattle.graph.proofs.EndsLaws.{shape_at, shape-long, ends_held}
use Rattle.signal.specs.declared.NoOrder.{NoOrder}
use Rattle.signal.specs.declared.NoOrder.TheVariants.{Refused}
use Rattle.signal.specs.Signal.{Sources, sources_in, signalled_by, signalled, signals, refusal, signal}
use Rattle.signal.specs.Outcome.{Nodes, answer_of}
use Rattle.signal.specs.code.Nodes.{sources_of}

-- a node past the others owns nothing
owned-past : (n p : ℕ) (xs : List Item) → Below n xs → n ≤ p → owned p xs ≡ []
owned-past n p [] a h = refl
owned-past n p (x ∷ xs) a h = let l = a.0 in rw (ne_eqb x.owner p (λ e. omega arith)) (owned-past n p xs a.1 h)

module _ (t : Tables) (l : Linked t) where
  abbrev src : Sources
  src = sources_of (take t.sources.count (ends_in t.sources).items)

  size : length (graph_of t) ≡ t.n
  size = length-graph t.n (lines_of t) (items_of t.sources) (items_of t.sinks)

  sources-at : (p : ℕ) → src p ≡ sources_in (shape_of (graph_of t)) p
  sources-at p = ends_held t.sources p ∙ sym (ap (λ (x : Incidents). x.sources) (shape_at (graph_of t) p) ∙ go (less? p t.n))
    where
      go : (p < t.n) ⊎ (t.n ≤ p) → targets (node_at (graph_of t) p).sources ≡ targets (owned p (items_of t.sources))
      go (inl h) = rw (node-graph t.n (lines_of t) (items_of t.sources) (items_of t.sinks) p h)
      go (inr h) =
          let z : length (graph_of t) ≤ p = omega (arith, size) in
          rw (get_or-eq_default (graph_of t) bare z, owned-past t.n p (items_of t.sources) l.source_owners h)

  pub leads_hold : signalled_by t.n src ≡ signalled (shape_of (graph_of t))
  leads_hold =
      ap (λ (k : ℕ). signalled_by k src) (sym (shape-long (graph_of t) ∙ size))
      ∙ ap (signalled_by (length (shape_of (graph_of t)))) (fun_ext sources-at)

-- ---- the answer of `graph::completed`
whole_is : (d e : Dag) → whole d ≡ whole e → d ≡ e
whole_is d e h = cc

not_turned : (d : Dag) (why : Refusal) → whole d ≡ turned why → ⊥
not_turned d why e = let z : ◌≡◌ {A = ℕ} 0 1 = cc in omega arith

turned-is : (u v : Refusal) → turned u ≡ turned v → refusal u ≡ refusal v
turned-is u v e = cc

module _ (s : List ℕ) (o : Result Tables Refusal) (is : IsAnswer (completed s) o) where
  module _ (t : Tables) (a : o ≡ Ok t) where
    held_by : (c : Reading) → whole (dag_in t) ≡ completing c → signalled (shape_of (graph_of t)) ≡ signals c
    held_by (accepted ps) e = ap (λ (d : Dag). signalled (shape_of d.graph)) (whole_is (dag_in t) (record { graph = complete (given_graph ps); cuts = 0 }) e)
    held_by (refused why) e = absurd (not_turned (dag_in t) why e)

    pub signal-ready : (r : Result Nodes NoOrder) → r ≡ answer_of (signalled (shape_of (graph_of t))) → r ≡ answer_of (signal s)
    unfolding signal completed
    signal-ready r w = w ∙ ap answer_of (held_by (chart Strict s) (sym (ap graphed_of a) ∙ is.graphs))

  refused-by : (why : Refusal) (c : Reading) → turned why ≡ completing c → refusal why ≡ signals c
  refused-by why (accepted ps) e = absurd (not_turned (record { graph = complete (given_graph ps); cuts = 0 }) why (sym e))
  refused-by why (refused u) e = turned-is why u e

  pub signal-refused : (why : Refusal) → o ≡ Err why → Err (Refused why) ≡ answer_of (signal s)
  unfolding signal completed
  signal-refused why a = ap answer_of (refused-by why (chart Strict s) (sym (ap graphed_of a) ∙ is.graphs))
