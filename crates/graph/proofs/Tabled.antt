-- The tables of a drawn graph, and of a completed one, hold that graph. So what the crates above take follows from the promises of `graph` (`IsAnswer`) and `completed`.
-- Assumes nothing.
use Prim.Native.Nat.{ℕ, ◌+◌, ◌%◌, ◌≤◌, ◌<◌}
use native.Mathlib.Omega.{arith}
use native.Mathlib.Nat.{mod-eq_of_lt, zero-add}
use mathlib.Core.Path.{◌≡◌, refl, ap, sym, ◌∙◌, subst}
use mathlib.Core.Logic.{◌⊎◌, inl, inr, ⊎_elim}
use mathlib.Core.Bool.{Bool, true, false}
use mathlib.Core.Option.{Option, none, some}
use mathlib.Core.List.{List, [], ◌∷◌, ◌++◌, map, append-nil}
use lib.Dec.{ltb}
use lib.ListN.{length, get_or, get_or-map, get_or-eq_default}
use borrow.Author.Tests.{ltb-true, ltb-false}
use Rattle.laws.specs.Lists.{All}
use Rattle.laws.proofs.Lists.{all_map, all-flat, owned-flat, tabulate_list, get_d_tabulate, get_d_padded, take-padded}
use Rattle.chart.specs.declared.Line.{Line as LineItem}
use Rattle.chart.specs.declared.Setting.{Setting}
use Rattle.chart.specs.declared.Setting.TheVariants.{Strict}
use Rattle.chart.specs.Chart.{Part, Board, Reading, ready as accepted, refusal as refused, chart}
use Rattle.chart.specs.Chart.{Node as GivenNode}
use Rattle.chart.specs.Tables.{no_line, line_of}
use Rattle.chart.specs.code.Filled.{part_of, owned_lines, lines_of as texts_of}
use Rattle.chart.specs.Accepted.{Fitting, Formed, Accepted}
use Rattle.chart.proofs.Gives.{ending-from}
use Rattle.chart.proofs.Accepts.{accepted as accepts}
use Rattle.graph.specs.declared.Item.{Item}
use Rattle.graph.specs.declared.Name.TheVariants.{Nothing}
use Rattle.graph.specs.declared.Tables.{Tables}
use Rattle.std.specs.Prelude.{Result, Ok}
use Rattle.refusals.specs.declared.Refusal.{Refusal}
use Rattle.graph.specs.Graph.{Line, given, Edge, Node, Graph, bare, given_node, given_graph, node_at}
use Rattle.graph.specs.Completion.{complete}
use Rattle.graph.specs.Joining.{leads_of, uncut}
use Rattle.graph.specs.Cutting.{cutting}
use Rattle.graph.specs.Graphed.{Dag, Graphed, ready, refusal, graphed}
use Rattle.graph.specs.Laws.{Aimed, ends, Named, Laws}
use Rattle.graph.specs.Completed.{completing, completed, CompletedLaws, IsCompleted}
use Rattle.graph.specs.code.Tables.{mark_of, edge_of, owned, items_of, node_of, name_line, lines_at, lines_of, graph_from, graph_of, Linked}
use Rattle.graph.specs.Outcome.{held_mark, item_of, sources_from, sinks_from, texts_in, texts_from, name_of, names_of, tables_of, answer_of, IsGraph}
use Rattle.graph.specs.code.Graphs.{Graphs, IsAnswer}
use Rattle.graph.proofs.LineLaws.{completed-length}
use Rattle.graph.proofs.JoinLaws.{Off}
use Rattle.graph.proofs.AimLaws.{all_in}
use Rattle.graph.proofs.Orders.{table-back}
use Rattle.graph.proofs.Begins.{Kept, uncut-kept, cut-lines, few-lines, none_answers}
use Rattle.graph.proofs.Gathers.{flat-long, all_from, given_name, strict-uncut, graph-laws, is-graphs}

-- ---- one record, one list of lines
mark-back : (m : Option ℕ) → mark_of (held_mark m) ≡ m
mark-back none = refl
mark-back (some i) = refl

edge-back : (p : ℕ) (e : Edge) → edge_of (item_of p e) ≡ e
edge-back p e = rw (mark-back e.mark)

edges_back : (p : ℕ) (es : List Edge) → All (λ (e : Edge). edge_of (item_of p e) ≡ e) es
edges_back p [] = tt
edges_back p (e ∷ es) = (edge-back p e, edges_back p es)

abbrev Low : Part → Type 0
Low t = t.at < 65536

parts-back : (p : ℕ) (ts : List Part) → All Low ts → All (λ (t : Part). part_of (line_of p t) ≡ t) ts
parts-back p [] a = tt
parts-back p (t ∷ ts) a = let e : t.at % 65536 ≡ t.at = mod-eq_of_lt a.0 in (rw e, parts-back p ts a.1)

texts-given : (ts : List Part) → texts_in (map given ts) ≡ ts
texts-given [] = refl
texts-given (t ∷ ts) = ap (λ (m : List Part). t ∷ m) (texts-given ts)

-- the lines that the texts and the name of a node give
abbrev made : List Line → List Line
made ls = map given (texts_in ls) ++ name_line (name_of ls)

given_back : (ts : List Part) → made (map given ts) ≡ map given ts
given_back ts = rw (texts-given ts, given_name ts) (append-nil (map given ts))

abbrev nobody : GivenNode
nobody = record { sources = []; lines = []; sinks = [] }

-- the line of an inserted box: a lead's shows its target, a cut's a number
abbrev Shown : ℕ → List Line → Type 0
Shown n ls = Off n ls ⊎ Named n ls

-- ---- a graph of the chart s, in the setting w, that fits the tables
record Tabled (w : Setting) (s : List ℕ) (d : Dag) : Type 0 where
  board : Board
  read : chart w s ≡ accepted board
  boxes : length d.graph ≤ 48
  aimed : Aimed (length d.graph) d.graph
  sources : ends (λ (x : Node). x.sources) d.graph ≤ 88
  sinks : ends (λ (x : Node). x.sinks) d.graph ≤ 88
  texts : length (texts_from 0 d.graph) ≤ 128
  lines : (k : ℕ) → k < length board → (node_at d.graph k).lines ≡ (node_at (given_graph board) k).lines
  inserted : (k : ℕ) → length board ≤ k → k < length d.graph → Shown (length board) (node_at d.graph k).lines

module _ (w : Setting) (s : List ℕ) (d : Dag) (l : Tabled w s d) where
  abbrev g : Graph
  g = d.graph

  abbrev ps : Board
  ps = l.board

  ac : Accepted w s ps
  ac = accepts w s ps l.read

  -- a given node has given lines
  module _ (k : ℕ) (h : k < length g) where
    given-lines : k < length ps → (node_at g k).lines ≡ map given (get_or ps k nobody).lines
    given-lines i = l.lines k i ∙ ap (λ (x : Node). x.lines) (get_or-map given_node ps k nobody)

    line-back : (b : Bool) → ltb k (length ps) ≡ b → made (node_at g k).lines ≡ (node_at g k).lines
    line-back true e = rw (given-lines (ltb-true k (length ps) e)) (given_back (get_or ps k nobody).lines)
    line-back false e =
        ⊎_elim (λ o. rw o.line refl) (λ n. rw n.line refl)
        (l.inserted k (ltb-false k (length ps) e) h)

    texts-low : (b : Bool) → ltb k (length ps) ≡ b → All Low (texts_in (node_at g k).lines)
    texts-low true e =
        let i : k < length ps = ltb-true k (length ps) e in
        let f : Formed w s (length ps) (get_or ps k nobody) = all_in (Formed w s (length ps)) ps k nobody i ac.formed in
        rw (given-lines i, texts-given (get_or ps k nobody).lines) (all_map (λ t (q : Fitting s t). omega (arith, q.inside, ending-from t.len s t.at, ac.size)) (get_or ps k nobody).lines f.lines)
    texts-low false e = ⊎_elim (λ o. rw o.line tt) (λ n. rw n.line tt) (l.inserted k (ltb-false k (length ps) e) h)

  lows : All (λ (x : Node). All Low (texts_in x.lines)) g
  lows = all_from (λ (x : Node). All Low (texts_in x.lines)) g bare (λ k. go k (ltb k (length g)) refl)
    where
      go : (k : ℕ) (b : Bool) → ltb k (length g) ≡ b → All Low (texts_in (node_at g k).lines)
      go k true e = texts-low k (ltb-true k (length g) e) (ltb k (length ps)) refl
      go k false e = rw (get_or-eq_default g bare (ltb-false k (length g) e)) tt

  kept : (x : Node) → All Low (texts_in x.lines) → (p : ℕ) → All (λ (u : Part). part_of (line_of p u) ≡ u) (texts_in x.lines)
  kept x a p = parts-back p (texts_in x.lines) a

  abbrev t : Tables
  t = tables_of d

  few_sources : length (sources_from 0 g) ≤ 88
  few_sources = omega (arith, flat-long (λ (x : Node). x.sources) 0 g, l.sources)

  few_sinks : length (sinks_from 0 g) ≤ 88
  few_sinks = omega (arith, flat-long (λ (x : Node). x.sinks) 0 g, l.sinks)

  sources-are : items_of t.sources ≡ sources_from 0 g
  sources-are = table-back (sources_from 0 g) few_sources

  sinks-are : items_of t.sinks ≡ sinks_from 0 g
  sinks-are = table-back (sinks_from 0 g) few_sinks

  texts-are : texts_of t.lines ≡ texts_from 0 g
  texts-are = take-padded 128 no_line (texts_from 0 g) l.texts

  -- ---- node i
  module _ (i : ℕ) (h : i < length g) where
    owned-sources : owned (0 + i) (sources_from 0 g) ≡ (node_at g i).sources
    owned-sources = owned-flat (λ (r : Item). r.owner) edge_of item_of (λ p w. refl) (λ (x : Node). x.sources) bare 0 i g h (all_from (λ (x : Node). (p : ℕ) → All (λ (e : Edge). edge_of (item_of p e) ≡ e) x.sources) g bare (λ k p. edges_back p (node_at g k).sources))

    owned-sinks : owned (0 + i) (sinks_from 0 g) ≡ (node_at g i).sinks
    owned-sinks = owned-flat (λ (r : Item). r.owner) edge_of item_of (λ p w. refl) (λ (x : Node). x.sinks) bare 0 i g h (all_from (λ (x : Node). (p : ℕ) → All (λ (e : Edge). edge_of (item_of p e) ≡ e) x.sinks) g bare (λ k p. edges_back p (node_at g k).sinks))

    owned-texts : owned_lines (0 + i) (texts_from 0 g) ≡ texts_in (node_at g i).lines
    owned-texts = owned-flat (λ (r : LineItem). r.owner) part_of line_of (λ p w. refl) (λ (x : Node). texts_in x.lines) bare 0 i g h (all_map kept g lows)

    name_is : get_or t.names (0 + i) Nothing ≡ name_of (node_at g i).lines
    name_is =
        ap (λ (k : ℕ). get_or t.names k Nothing) (zero-add i) ∙ get_d_padded 48 Nothing (names_of g) i Nothing (omega (arith, l.boxes))
        ∙ get_or-map (λ (x : Node). name_of x.lines) g i bare

    lines_are : get_or (lines_of t) (0 + i) [] ≡ (node_at g i).lines
    lines_are =
        ap (λ (k : ℕ). get_or (lines_of t) k []) (zero-add i)
        ∙ get_d_tabulate (lines_at (texts_of t.lines) t.names) 0 (length g) i [] h
        ∙ rw (texts-are, owned-texts, name_is) (line-back i h (ltb i (length ps)) refl)

    node-back : node_of (lines_of t) (items_of t.sources) (items_of t.sinks) (0 + i) ≡ node_at g i
    node-back =
        let a : owned (0 + i) (items_of t.sources) ≡ (node_at g i).sources = ap (owned (0 + i)) sources-are ∙ owned-sources in
        let b : owned (0 + i) (items_of t.sinks) ≡ (node_at g i).sinks = ap (owned (0 + i)) sinks-are ∙ owned-sinks in
        rw (a, b, lines_are)

  graph-back : graph_of t ≡ g
  unfolding graph_from
  graph-back = tabulate_list bare (node_of (lines_of t) (items_of t.sources) (items_of t.sinks)) 0 g node-back

  linked : Linked t
  linked =
      let n : ℕ = length g in
      record {
        nodes = l.boxes;
        source_room = few_sources;
        sink_room = few_sinks;
        source_owners = rw sources-are (all-flat item_of (λ (x : Node). x.sources) n (λ (e : Edge). e.to < n) (λ (x : Item). x.owner < n) (λ p e i k. i) 0 g (omega arith) (all_map (λ x a. a.sources) g l.aimed));
        sink_owners = rw sinks-are (all-flat item_of (λ (x : Node). x.sinks) n (λ (e : Edge). e.to < n) (λ (x : Item). x.owner < n) (λ p e i k. i) 0 g (omega arith) (all_map (λ x a. a.sinks) g l.aimed));
        source_aims = rw sources-are (all-flat item_of (λ (x : Node). x.sources) n (λ (e : Edge). e.to < n) (λ (x : Item). x.to < n) (λ p e i k. k) 0 g (omega arith) (all_map (λ x a. a.sources) g l.aimed));
        sink_aims = rw sinks-are (all-flat item_of (λ (x : Node). x.sinks) n (λ (e : Edge). e.to < n) (λ (x : Item). x.to < n) (λ p e i k. k) 0 g (omega arith) (all_map (λ x a. a.sinks) g l.aimed));
        line_owners = rw texts-are (all-flat line_of (λ (x : Node). texts_in x.lines) n Low (λ (x : LineItem). x.owner < n) (λ p e i k. i) 0 g (omega arith) lows);
      }

  fitting : IsAnswer (ready d) (answer_of (ready d))
  fitting = record { graphs = ap (λ (u : Graph). ready (record { graph = u; cuts = d.cuts })) graph-back; whole = refl; linked = λ t e. let z : tables_of d ≡ t = cc in rw (← z) linked }

-- ---- the graph that is drawn
drawn-tabled : (w : Setting) (s : List ℕ) (d : Dag) → Laws w s d → Tabled w s d
drawn-tabled w s d l =
    let z : length (texts_from 0 d.graph) ≡ length (texts_from 0 (cutting (uncut l.board)).graph) = ap (λ (c : Dag). length (texts_from 0 c.graph)) l.walk in
    record {
      board = l.board;
      read = l.read;
      boxes = l.boxes;
      aimed = l.aimed;
      sources = l.sources;
      sinks = l.sinks;
      texts = omega (arith, few-lines w s l.board l.read _ (cut-lines l.board));
      lines = l.lines;
      inserted = λ k h i. shown k h i (ltb k (length l.board + leads_of l.board)) refl;
    }
  where
    shown : (k : ℕ) → length l.board ≤ k → k < length d.graph → (b : Bool) → ltb k (length l.board + leads_of l.board) ≡ b → Shown (length l.board) (node_at d.graph k).lines
    shown k h i true e =
        let z : k < length l.board + leads_of l.board = ltb-true k (length l.board + leads_of l.board) e in
        let b = l.joined k h z in
        inl (rw (l.kept k h z) (record { target = b.target; past = b.past; line = b.line }))
    shown k h i false e = inr (l.inserted k (ltb-false k (length l.board + leads_of l.board) e) i)

answers : (w : Setting) (s : List ℕ) (v : Graphed) → graphed w s ≡ v → IsAnswer v (answer_of v)
answers w s (ready d) e = fitting w s d (drawn-tabled w s d (graph-laws w s d e))
answers w s (refusal why) e = none_answers why

-- what the crates above take from the promise of `graph`
pub is-answer : (w : Setting) (s : List ℕ) (r : Result Tables Refusal) → IsGraph w s r → IsAnswer (graphed w s) r
is-answer w s r i = rw i.whole (answers w s (graphed w s) refl)

-- and with the names
pub graphs-of : (w : Setting) (s : List ℕ) (r : Result Tables Refusal) → IsGraph w s r → Graphs w s r
graphs-of w s r i = is-graphs w s i.bytes r (is-answer w s r i)

-- ---- the completed graph
module _ (s : List ℕ) (r : Result Tables Refusal) (i : IsCompleted s r) where
  completed-tabled : (ps : Board) → chart Strict s ≡ accepted ps → Tabled Strict s (record { graph = complete (given_graph ps); cuts = 0 })
  completed-tabled ps e =
      let l : CompletedLaws s (given_graph ps) (complete (given_graph ps)) = i.laws ps e in
      let long : length (complete (given_graph ps)) ≡ length ps = completed-length ps in
      record {
        board = ps;
        read = e;
        boxes = omega (arith, l.few);
        aimed = l.aimed;
        sources = omega (arith, l.sources);
        sinks = omega (arith, l.sinks);
        texts = few-lines Strict s ps e _ (subst (Kept ps) (strict-uncut s ps e) (uncut-kept ps));
        lines = λ k h. l.lines k (omega (arith, long));
        inserted = λ k h m. absurd (omega (arith, long));
      }

  answers_by : (c : Reading) → chart Strict s ≡ c → IsAnswer (completing c) (answer_of (completing c))
  answers_by (accepted ps) e = fitting Strict s (record { graph = complete (given_graph ps); cuts = 0 }) (completed-tabled ps e)
  answers_by (refused why) e = none_answers why

  few-by : (t : Tables) (c : Reading) → chart Strict s ≡ c → answer_of (completing c) ≡ Ok t → t.n ≤ 32
  few-by t (accepted ps) e q = let z : tables_of (record { graph = complete (given_graph ps); cuts = 0 }) ≡ t = cc in rw (← z) (i.laws ps e).few
  few-by t (refused why) e q = let z : ◌≡◌ {A = ℕ} 0 1 = cc in absurd (omega arith)

  -- what the crates above take from the promise of `completed`
  pub completed-answers : IsAnswer (completed s) r
  unfolding completed
  completed-answers = rw i.whole (answers_by (chart Strict s) refl)

  pub completed-few : (t : Tables) → r ≡ Ok t → t.n ≤ 32
  unfolding completed
  completed-few t e = few-by t (chart Strict s) refl (sym i.whole ∙ e)
