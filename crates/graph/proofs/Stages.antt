-- What `graph` and `completed` promise, from their steps.
-- Assumes nothing.
use Prim.Native.Nat.{ℕ, ◌<◌}
use native.Mathlib.Omega.{arith}
use mathlib.Core.Path.{◌≡◌, refl, ap, ◌∙◌}
use mathlib.Core.Bool.{true}
use mathlib.Core.List.{List}
use lib.Dec.{leb}
use lib.ListN.{length}
use borrow.Author.Tests.{le-leb, lt-leb}
use Rattle.chart.specs.declared.Board.{Board as BoardTables}
use Rattle.chart.specs.declared.Setting.{Setting}
use Rattle.chart.specs.declared.Setting.TheVariants.{Strict}
use Rattle.chart.specs.Chart.{Board, ready as accepted, chart}
use Rattle.chart.specs.Read.{IsRead}
use Rattle.chart.specs.code.Filled.{board_of}
use Rattle.chart.proofs.Accepts.{accepted as accepts}
use Rattle.std.specs.Prelude.{Result, Ok, Err}
use Rattle.refusals.specs.Refusals.{numbers_in}
use Rattle.refusals.specs.declared.Refusal.{Refusal}
use Rattle.refusals.specs.declared.Refusal.TheVariants.{ManyBoxes}
use Rattle.graph.specs.declared.Tables.{Tables}
use Rattle.graph.specs.Graph.{Graph}
use Rattle.graph.specs.Joining.{uncut}
use Rattle.graph.specs.Cutting.{cutting}
use Rattle.graph.specs.Graphed.{Dag, dag_of, ready, boxed, graphed}
use Rattle.graph.specs.Outcome.{answer_of, IsGraph}
use Rattle.graph.specs.Completed.{completed, IsCompleted}
use Rattle.graph.specs.code.Tables.{items_of, lines_of, graph_of}
use Rattle.graph.specs.code.Explore.{Holds, CyclesCut}
use Rattle.graph.specs.code.Graphs.{IsAnswer, IsJoined, uncut_dag, ordered_of}
use Rattle.graph.proofs.AimLaws.{cutting-count}
use Rattle.graph.proofs.Cuts.{length-graph}
use Rattle.graph.proofs.Uncut.{uncut-long}
use Rattle.graph.proofs.Begins.{none_answers, uncut-kept, cut-lines, held-answers, read-ready, read_held, read-refused}
use Rattle.graph.proofs.Gathers.{Bytes, board-none, strict-uncut, completed-laws, is-graph}

-- ---- `graph`
module _ (w : Setting) (s : List ℕ) (bytes : Bytes s) (o : Result BoardTables Refusal) (promised : IsRead w s o) where
  pub graph-unread : (why : Refusal) → o ≡ Err why → IsGraph w s (Err why)
  unfolding graphed
  graph-unread why e = is-graph w s bytes (Err why) (rw (read-refused w s o promised why e) (none_answers why))

  module _ (b : BoardTables) (e : o ≡ Ok b) where
    abbrev ps : Board
    ps = board_of b

    by : (r : Result Tables Refusal) → IsAnswer (boxed (cutting (uncut ps))) r → IsGraph w s r
    unfolding graphed
    by r a = is-graph w s bytes r (rw (read-ready w s o promised b e) a)

    over : (why : Refusal) → why ≡ ManyBoxes → 48 < length (cutting (uncut ps)).graph → IsGraph w s (Err why)
    over why z m = rw z (by (Err ManyBoxes) (rw (lt-leb (length (cutting (uncut ps)).graph) 48 m) (none_answers ManyBoxes)))

    pub graph-unjoined : (why : Refusal) → IsJoined b (Err why) → IsGraph w s (Err why)
    graph-unjoined why j = over why j.0 (omega (arith, j.1, cutting-count (uncut ps)))

    module _ (t : Tables) (j : IsJoined b (Ok t)) where
      pub graph-uncut : (why : Refusal) (u : Tables) → CyclesCut t (Err why) u → IsGraph w s (Err why)
      graph-uncut why u c = over why c.0 (rw j.graph at c.1)

      pub graph-cut : (u : Tables) → CyclesCut t (Ok tt) u → (r : Tables) → r ≡ ordered_of u → IsGraph w s (Ok r)
      graph-cut u c r z =
          let d : Dag = dag_of (cutting (uncut ps)) in
          let h : Holds b.lines d u = rw (j.graph, j.lines) at c.0 in
          let size : length (graph_of u) ≡ u.n = length-graph u.n (lines_of u) (items_of u.sources) (items_of u.sinks) in
          let fits : leb (length d.graph) 48 ≡ true = le-leb (length d.graph) 48 (omega (arith, size, ap (λ (g : Graph). length g) h.graph, h.sound.linked.nodes)) in
          by (Ok r) (rw fits (held-answers b (read_held w s o promised b e) d (cut-lines ps) u h c.1 r z))

-- ---- `completed`
is-completed : (s : List ℕ) (r : Result Tables Refusal) → r ≡ answer_of (completed s) → IsCompleted s r
is-completed s r w =
    record {
      whole = w;
      refused = λ why e. w ∙ ap answer_of e;
      numbers = λ why e. ap numbers_in (w ∙ ap answer_of e);
      laws = completed-laws s;
    }

module _ (s : List ℕ) (o : Result BoardTables Refusal) (promised : IsRead Strict s o) where
  pub completed-unread : (why : Refusal) → o ≡ Err why → IsCompleted s (Err why)
  unfolding completed
  completed-unread why e = is-completed s (Err why) (rw (read-refused Strict s o promised why e) refl)

  module _ (b : BoardTables) (e : o ≡ Ok b) where
    abbrev board : Board
    board = board_of b

    read-as : chart Strict s ≡ accepted board
    read-as = read-ready Strict s o promised b e

    -- strict: no lead, so no 13
    pub completed-joined : (why : Refusal) → IsJoined b (Err why) → IsCompleted s (Err why)
    completed-joined why j = absurd (omega (arith, j.1, board-none s board read-as, uncut-long board, (accepts Strict s board read-as).nodes))

    -- and nothing is joined
    pub completed-ready : (t : Tables) → IsJoined b (Ok t) → length t.names ≡ 48 → (r : Tables) → r ≡ ordered_of t → IsCompleted s (Ok r)
    unfolding completed
    completed-ready t j long r z =
        let a : IsAnswer (ready (uncut_dag board)) (Ok r) = held-answers b (read_held Strict s o promised b e) (uncut_dag board) (uncut-kept board) t j long r z in
        is-completed s (Ok r) (rw read-as (a.whole ∙ ap (λ (g : Graph). answer_of (ready (record { graph = g; cuts = 0 }))) (strict-uncut s board read-as)))
