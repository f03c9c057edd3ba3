-- From the chart's board to the tables, and from the tables to the answer.
-- Assumes nothing.
use Prim.Native.Nat.{ℕ, ◌+◌, ◌≤◌, ◌<◌}
use native.Mathlib.Omega.{arith}
use native.Mathlib.Nat.{zero-add}
use mathlib.Core.Path.{◌≡◌, refl, ap, sym, ◌∙◌, subst}
use mathlib.Core.Bool.{Bool, true, false}
use mathlib.Core.List.{List, [], ◌∷◌, ◌++◌, map, append-nil}
use lib.Dec.{eqb}
use lib.ListN.{length, get_or, replicate, get_or-replicate, length-map}
use Rattle.laws.specs.Lists.{All, padded}
use Rattle.laws.proofs.Lists.{all_made, get_d_tabulate, tabulate-same, map-tabulate}
use Rattle.chart.specs.declared.Item.{Item as GivenItem}
use Rattle.chart.specs.declared.Line.{Line as LineItem}
use Rattle.chart.specs.declared.Board.{Board as BoardTables}
use Rattle.chart.specs.Tables.{Lines, Items as GivenItems}
use Rattle.std.specs.Prelude.{Result, Ok, Err}
use Rattle.refusals.specs.declared.Refusal.{Refusal}
use Rattle.refusals.specs.declared.Refusal.TheVariants.{ManyBoxes}
use Rattle.chart.specs.declared.Setting.{Setting}
use Rattle.chart.specs.Chart.{Board, ends_of as end_count, ready as accepted, refusal as refused, chart}
use Rattle.chart.specs.Chart.{Node as GivenNode}
use Rattle.chart.specs.Tables.{no_line, lines_from}
use Rattle.chart.specs.code.Filled.{lines_of as texts_of, owned_lines, board_from, board_of}
use Rattle.chart.specs.code.Filled.{items_of as ends_of, owned as owned_ends, node_of as given_node_of}
use Rattle.chart.specs.Accepted.{Formed, Accepted}
use Rattle.chart.specs.Read.{IsRead}
use Rattle.chart.specs.code.Reads.{Owned as OwnedEnd, Sound as SoundBoard, reading_of, read_of, Reads}
use Rattle.chart.proofs.Held.{tables-held, lines-count}
use Rattle.chart.proofs.Accepts.{accepted as accepts, reads_of}
use Rattle.graph.specs.declared.Item.{Item}
use Rattle.graph.specs.Items.{Items}
use Rattle.graph.specs.declared.Name.{Name}
use Rattle.graph.specs.declared.Name.TheVariants.{Nothing}
use Rattle.graph.specs.declared.Tables.{Tables}
use Rattle.graph.specs.Graph.{Line, given, Node, Graph, unmarked, given_node, given_graph}
use Rattle.graph.specs.Completion.{complete}
use Rattle.graph.specs.Joining.{leads, leads_of, joined, uncut}
use Rattle.graph.specs.Cutting.{cutting}
use Rattle.graph.specs.Laws.{ends, Aimed as GraphAimed}
use Rattle.graph.specs.Graphed.{Dag, ready, refusal}
use Rattle.graph.specs.code.Tables.{owned, items_of, unmarked_item, node_of, name_line, lines_at, lines_of, graph_from, graph_of, Below, Owned, Roomy, Fits, Joined, Completed}
use Rattle.graph.specs.code.Explore.{Holds}
use Rattle.graph.specs.Outcome.{texts_from, names_of, sources_from, sinks_from, table_of, tables_of}
use Rattle.graph.specs.code.Graphs.{IsAnswer, in_order, ordered_of, Held, Begun, IsJoined}
use Rattle.graph.proofs.Cuts.{length-graph}
use Rattle.graph.proofs.Lists.{take_le}
use Rattle.graph.proofs.Boxes.{sources-held, sinks-held, sources-from, sinks-from}
use Rattle.graph.proofs.Uncut.{whole_long, same-leads, uncut-long, uncut-aims, uncut-sources, uncut-sinks, offs, uncut-lines, offs-textless, cut_lined, cut-rest, rest-textless}
use Rattle.graph.proofs.LineLaws.{lines_in, given_lines}
use Rattle.graph.proofs.Orders.{sources-ordered, sinks-ordered, names-held, Textless, texts-held, table-back, done-linked, done-graph}

-- ---- the graph that the board gives
unmarked-owned : (p : ℕ) (xs : List GivenItem) → owned p (map unmarked_item xs) ≡ map unmarked (owned_ends p xs)
unmarked-owned p [] = refl
unmarked-owned p (x ∷ xs) = go (unmarked-owned p xs) (eqb x.owner p) refl
  where
    go : owned p (map unmarked_item xs) ≡ map unmarked (owned_ends p xs) → (b : Bool) → eqb x.owner p ≡ b → owned p (map unmarked_item (x ∷ xs)) ≡ map unmarked (owned_ends p (x ∷ xs))
    go i true e = rw (e, i)
    go i false e = rw e i

module _ (b : BoardTables) (sound : SoundBoard b) (x y : Items)
    (ex : x ≡ table_of (map unmarked_item (ends_of b.sources)))
    (ey : y ≡ table_of (map unmarked_item (ends_of b.sinks))) where
  abbrev r : Tables
  r = record { n = b.n; cuts = 0; names = replicate 48 Nothing; lines = b.lines; sources = x; sinks = y }

  abbrev ts : List LineItem
  ts = texts_of b.lines

  long_of : (xs : GivenItems) → length (map unmarked_item (ends_of xs)) ≤ xs.count
  long_of xs = omega (arith, length-map (ends_of xs) unmarked_item, take_le xs.count xs.items)

  hx : items_of x ≡ map unmarked_item (ends_of b.sources)
  hx = ap items_of ex ∙ table-back (map unmarked_item (ends_of b.sources)) (omega (arith, long_of b.sources, sound.ends))

  hy : items_of y ≡ map unmarked_item (ends_of b.sinks)
  hy = ap items_of ey ∙ table-back (map unmarked_item (ends_of b.sinks)) (omega (arith, long_of b.sinks, sound.ends))

  lines_at_lem : (p : ℕ) → p < b.n → get_or (lines_of r) p [] ≡ map given (owned_lines p ts)
  lines_at_lem p h =
      get_d_tabulate (lines_at ts (replicate 48 Nothing)) 0 b.n p [] h
      ∙ ap (lines_at ts (replicate 48 Nothing)) (zero-add p)
      ∙ ap (λ (m : Name). map given (owned_lines p ts) ++ name_line m) (get_or-replicate 48 p Nothing Nothing (omega (arith, sound.nodes)))
      ∙ append-nil (map given (owned_lines p ts))

  node-same : (p : ℕ) → p < b.n → node_of (lines_of r) (items_of x) (items_of y) p ≡ given_node (given_node_of (ends_of b.sources) ts (ends_of b.sinks) p)
  node-same p h = rw (hx, hy, lines_at_lem p h, unmarked-owned p (ends_of b.sources), unmarked-owned p (ends_of b.sinks))

  graph_same : graph_of r ≡ given_graph (board_of b)
  unfolding graph_from board_from
  graph_same =
      tabulate-same (node_of (lines_of r) (items_of x) (items_of y)) (λ p. given_node (given_node_of (ends_of b.sources) ts (ends_of b.sinks) p)) 0 b.n (λ p l h. node-same p (omega arith))
      ∙ sym (map-tabulate given_node (given_node_of (ends_of b.sources) ts (ends_of b.sinks)) 0 b.n)

  owners : (xs : List GivenItem) → All (OwnedEnd b.n) xs → Below b.n (map unmarked_item xs)
  owners xs a = all_made (OwnedEnd b.n) (λ (z : Item). z.owner < b.n) unmarked_item (λ z h. h) xs a

  pub begun : Begun b r
  begun =
      record {
        charted =
            record {
              nodes = sound.nodes;
              room = omega (arith, ap (λ (u : Items). u.count) ex, ap (λ (u : Items). u.count) ey, long_of b.sources, long_of b.sinks, sound.ends);
              source_owners = rw hx (owners (ends_of b.sources) sound.sources);
              sink_owners = rw hy (owners (ends_of b.sinks) sound.sinks);
              line_owners = sound.owners;
              bare = rw hx (all_made (OwnedEnd b.n) (λ (z : Item). z.mark ≡ 0) unmarked_item (λ z h. refl) (ends_of b.sources) sound.sources);
              names = refl;
            };
        graph = graph_same;
        cuts = refl;
        lines = refl;
      }

-- ---- a refused chart
pub none_answers : (why : Refusal) → IsAnswer (refusal why) (Err why)
none_answers why = record { graphs = refl; whole = refl; linked = λ t e. let z : ◌≡◌ {A = ℕ} 0 1 = cc in absurd (omega arith) }

-- ---- the answer of an accepted board
fewer : (w : Setting) (s : List ℕ) (n : ℕ) (ps : Board) → All (Formed w s n) ps → All (λ (q : GivenNode). length q.lines ≤ 4) ps
fewer w s n [] a = tt
fewer w s n (p ∷ ps) a = (a.0.few, fewer w s n ps a.1)

-- the given lines come first in g, and no other line is a text
pub record Kept (ps : Board) (g : Graph) : Type 0 where
  pub rest : List (List Line)
  pub lines : lines_in g ≡ given_lines ps ++ rest
  pub textless : All Textless rest

pub uncut-kept : (ps : Board) → Kept ps (uncut ps)
uncut-kept ps = record { rest = offs ps; lines = uncut-lines ps; textless = offs-textless ps }

pub cut-lines : (ps : Board) → Kept ps (cutting (uncut ps)).graph
cut-lines ps = record { rest = offs ps ++ (cut_lined ps).rest; lines = cut-rest ps; textless = rest-textless ps }

texts-are : (ps : Board) (g : Graph) → Kept ps g → texts_from 0 g ≡ lines_from 0 ps
texts-are ps g l = texts-held ps g l.rest l.lines l.textless

given-few : (w : Setting) (s : List ℕ) (ps : Board) → chart w s ≡ accepted ps → length (lines_from 0 ps) ≤ 128
given-few w s ps e = let a : Accepted w s ps = accepts w s ps e in omega (arith, lines-count 0 ps (fewer w s (length ps) ps a.formed), a.nodes)

-- at most 128 given lines
pub few-lines : (w : Setting) (s : List ℕ) (ps : Board) → chart w s ≡ accepted ps → (g : Graph) → Kept ps g → length (texts_from 0 g) ≤ 128
few-lines w s ps e g l = rw (texts-are ps g l) (given-few w s ps e)

-- the given lines of a graph, as the table holds them
abbrev held_lines : Graph → Lines
held_lines g = record { items = padded 128 no_line (texts_from 0 g); count = length (texts_from 0 g) }

lines_are : (b : BoardTables) → Held b → (g : Graph) → Kept (board_of b) g → b.lines ≡ held_lines g
lines_are b h g l =
    let ps : Board = board_of b in
    ap (λ (t : BoardTables). t.lines) (h.whole ∙ tables-held (length ps) ps)
    ∙ rw (texts-are ps g l)

-- tables in order answer for the graph that they hold
answered : (t : Tables) → Roomy t → length t.names ≡ 48 → t.lines ≡ held_lines (graph_of t) → (r : Tables) → r ≡ ordered_of t →
    IsAnswer (ready (record { graph = graph_of t; cuts = t.cuts })) (Ok r)
answered t o long lines r e =
    let size : length (graph_of t) ≡ t.n = length-graph t.n (lines_of t) (items_of t.sources) (items_of t.sinks) in
    let names : padded 48 Nothing (names_of (graph_of t)) ≡ t.names = names-held t long o.linked.nodes o.blank in
    let xs : sources_from 0 (graph_of t) ≡ in_order t.n (items_of t.sources) = sources-ordered t.n (lines_of t) (items_of t.sources) (items_of t.sinks) in
    let ys : sinks_from 0 (graph_of t) ≡ in_order t.n (items_of t.sinks) = sinks-ordered t.n (lines_of t) (items_of t.sources) (items_of t.sinks) in
    let made : tables_of (record { graph = graph_of t; cuts = t.cuts }) ≡ r = e-of t r e size names lines xs ys in
    record {
      graphs = rw e (ap (λ (u : Graph). ready (record { graph = u; cuts = t.cuts })) (done-graph t o.linked));
      whole = ap Ok (sym made);
      linked = λ u q. let z : r ≡ u = cc in rw (← z, e) (done-linked t o.linked);
    }
  where
    e-of : (t r : Tables) → r ≡ ordered_of t →
        length (graph_of t) ≡ t.n → padded 48 Nothing (names_of (graph_of t)) ≡ t.names → t.lines ≡ held_lines (graph_of t) →
        sources_from 0 (graph_of t) ≡ in_order t.n (items_of t.sources) → sinks_from 0 (graph_of t) ≡ in_order t.n (items_of t.sinks) →
        tables_of (record { graph = graph_of t; cuts = t.cuts }) ≡ r
    e-of t r e size names lines xs ys = cc (ap table_of xs, ap table_of ys)

-- tables that hold a graph of the board b, put in order, are its answer
pub held-answers : (b : BoardTables) → Held b → (d : Dag) → Kept (board_of b) d.graph → (t : Tables) → Holds b.lines d t → length t.names ≡ 48 → (r : Tables) → r ≡ ordered_of t → IsAnswer (ready d) (Ok r)
held-answers b h d k t o long r e = rw (← o.graph, ← o.cuts) (answered t o.sound long (o.lines ∙ lines_are b h d.graph k ∙ ap held_lines (sym o.graph)) r e)

module _ (b : BoardTables) (h : Held b) (t₀ t₁ : Tables) (begin : Begun b t₀) (done : Completed t₀ t₁) where
  abbrev board : Board
  board = board_of b

  whole-graph : graph_of t₁ ≡ complete (given_graph board)
  whole-graph = done.graph ∙ ap complete begin.graph

  n-is : t₁.n ≡ length board
  n-is = sym (length-graph t₁.n (lines_of t₁) (items_of t₁.sources) (items_of t₁.sinks)) ∙ ap length whole-graph ∙ whole_long board

  leads-is : leads t₁.n (graph_of t₁) ≡ leads_of board
  leads-is = ap (leads t₁.n) whole-graph ∙ ap (λ (k : ℕ). leads k (complete (given_graph board))) (n-is ∙ sym (whole_long board)) ∙ same-leads board

  -- the boxes of the leads alone are too many
  pub joined-many : 48 < t₁.n + leads t₁.n (graph_of t₁) → IsJoined b (Err ManyBoxes)
  joined-many m = (refl, omega (arith, m, n-is, leads-is, uncut-long board))

  joined_is : joined t₁.n (graph_of t₁) ≡ uncut board
  unfolding uncut
  joined_is = ap (joined t₁.n) whole-graph ∙ ap (λ (k : ℕ). joined k (complete (given_graph board))) n-is

  few : end_count board ≤ 64
  few = (accepts h.setting h.chart_bytes board h.read).ends

  pub joined-fits : t₁.n + leads t₁.n (graph_of t₁) ≤ 48 → Fits (joined t₁.n (graph_of t₁))
  joined-fits m =
      rw joined_is
      (record {
        nodes = omega (arith, m, n-is, leads-is, uncut-long board);
        sources = omega (arith, uncut-sources board 64 few);
        sinks = omega (arith, uncut-sinks board 64 few);
      })

module _ (b : BoardTables) (h : Held b) (t₀ t₁ : Tables) (begin : Begun b t₀) (done : Completed t₀ t₁) (t₂ : Tables) (j : Joined t₁ t₂) where
  abbrev ps₂ : Board
  ps₂ = board_of b

  fitted : graph_of t₂ ≡ uncut ps₂
  fitted = j.graph ∙ joined_is b h t₀ t₁ begin done

  -- each target is a node, and there is room for the cuts
  joined_roomy : Roomy t₂
  joined_roomy =
      let o : Owned t₂ = j.standing.owned in
      let xs : List Item = items_of t₂.sources in
      let ys : List Item = items_of t₂.sinks in
      let size : length (graph_of t₂) ≡ t₂.n = length-graph t₂.n (lines_of t₂) xs ys in
      let aims : GraphAimed t₂.n (graph_of t₂) = subst (λ (k : ℕ). GraphAimed k (graph_of t₂)) size (subst (λ (u : Graph). GraphAimed (length u) u) (sym fitted) (uncut-aims ps₂)) in
      let f : end_count ps₂ ≤ 64 = few b h t₀ t₁ begin done in
      let cx : length xs ≤ 64 = omega (arith, sources-held (lines_of t₂) xs ys t₂.n o.source_owners, ap (ends (λ (x : Node). x.sources)) fitted, uncut-sources ps₂ 64 f) in
      let cy : length ys ≤ 64 = omega (arith, sinks-held (lines_of t₂) xs ys t₂.n o.sink_owners, ap (ends (λ (x : Node). x.sinks)) fitted, uncut-sinks ps₂ 64 f) in
      record {
        linked =
            record {
              nodes = o.nodes;
              source_room = o.source_room;
              sink_room = o.sink_room;
              source_owners = o.source_owners;
              sink_owners = o.sink_owners;
              source_aims = sources-from t₂.n t₂.n (lines_of t₂) xs ys aims o.source_owners;
              sink_aims = sinks-from t₂.n t₂.n (lines_of t₂) xs ys aims o.sink_owners;
              line_owners = o.line_owners;
            };
        source_room = omega (arith, cx);
        sink_room = omega (arith, cy);
        blank = j.standing.blank;
      }

  pub joined-holds : IsJoined b (Ok t₂)
  joined-holds =
      record {
        sound = joined_roomy;
        graph = fitted;
        cuts = j.cuts ∙ done.same.cuts ∙ begin.cuts;
        lines = j.lines ∙ done.same.lines ∙ begin.lines;
      }

-- ---- the answer of `chart::read`
module _ (w : Setting) (s : List ℕ) (o : Result BoardTables Refusal) (promised : IsRead w s o) where
  is : Reads w s o
  is = reads_of w s o promised

  module _ (b : BoardTables) (e : o ≡ Ok b) where
    pub read-ready : chart w s ≡ accepted (board_of b)
    read-ready = sym is.reads ∙ ap reading_of e

    pub read_held : Held b
    read_held =
        record {
          setting = w;
          sound = is.sound b e;
          chart_bytes = s;
          read = read-ready;
          whole = let z : Ok b ≡ read_of (accepted (board_of b)) = sym e ∙ is.whole ∙ ap read_of read-ready in cc;
        }

  pub read-refused : (why : Refusal) → o ≡ Err why → chart w s ≡ refused why
  read-refused why e = sym is.reads ∙ ap reading_of e
