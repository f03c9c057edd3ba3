-- What an answer of `graph` or `completed` stands for, what the crates above take of it (`is-answer`, `completed-answers` of proofs/Tabled) or may take with the names (`graphs-of`), and what private functions answer.
-- Assumes nothing.
use Rattle.std.specs.Prelude.{ℕ, ◌≤◌, ◌<◌, ◌≡◌, ⊤, List, length, replicate, Result, Ok, Err}
use Rattle.laws.specs.Lists.{All, owned_by, tabulate, joined}
use Rattle.chart.specs.declared.Board.{Board as BoardTables}
use Rattle.chart.specs.declared.Setting.{Setting}
use Rattle.refusals.specs.declared.Refusal.{Refusal}
use Rattle.refusals.specs.declared.Refusal.TheVariants.{ManyBoxes}
use Rattle.chart.specs.Chart.{Board, ready as accepted, chart}
use Rattle.chart.specs.code.Filled.{board_of, tables_of as board_tables}
use Rattle.chart.specs.code.Reads.{Sound as SoundBoard}
use Rattle.graph.specs.declared.Item.{Item}
use Rattle.graph.specs.Items.{Items}
use Rattle.graph.specs.declared.Name.{Name}
use Rattle.graph.specs.declared.Name.TheVariants.{Nothing, Number, Invalid}
use Rattle.graph.specs.declared.Tables.{Tables}
use Rattle.graph.specs.Graph.{given_graph}
use Rattle.graph.specs.Joining.{uncut}
use Rattle.graph.specs.Graphed.{Dag, Graphed, ready, refusal, graphed}
use Rattle.graph.specs.Laws.{Laws}
use Rattle.graph.specs.code.Explore.{Holds}
use Rattle.graph.specs.code.Tables.{items_of, graph_of, Linked, Charted}
use Rattle.graph.specs.Outcome.{table_of, answer_of, no_item}

-- ---- what an answer stands for

abbrev pub empty_table : Items
empty_table = record { items = replicate 88 no_item; count = 0 }

abbrev pub dag_in : Tables → Dag
dag_in t = record { graph = graph_of t; cuts = t.cuts }

abbrev pub graphed_of : Result Tables Refusal → Graphed
graphed_of (Ok t) = ready (dag_in t)
graphed_of (Err why) = refusal why

-- what a name may be: none, a given node's number, or a target that is no node
abbrev pub NameWithin : Name → Type 0
NameWithin Nothing = ⊤
NameWithin (Number q) = q < 32
NameWithin (Invalid t) = (0 < t) × (t < 256)

-- the tables: the counts are within the arrays, each owner and each target is a node,
-- a mark is held as 88 at most, and a name is none, a given node's number, or a target that is 1 to 255
pub record Sound (t : Tables) : Type 0 where
  pub linked : Linked t
  pub line_room : t.lines.count ≤ 128
  pub source_marks : All (λ (x : Item). x.mark ≤ 88) (items_of t.sources)
  pub sink_marks : All (λ (x : Item). x.mark ≡ 0) (items_of t.sinks)
  pub names : All NameWithin t.names

-- the graph of the chart s in the setting w, and its tables with the names: it follows from `IsGraph` (`graphs-of` of proofs/Tabled)
pub record Graphs (w : Setting) (s : List ℕ) (r : Result Tables Refusal) : Type 0 where
  -- the answer and the graph are exactly the definition's
  pub graphs : graphed_of r ≡ graphed w s
  pub whole : r ≡ answer_of (graphed w s)
  -- the tables of the graph that is drawn, and its laws
  pub sound : (t : Tables) → r ≡ Ok t → Sound t
  pub laws : (t : Tables) → r ≡ Ok t → Laws w s (dag_in t)

-- r is the answer of g: what it stands for, every field of it, and its tables
pub record IsAnswer (g : Graphed) (r : Result Tables Refusal) : Type 0 where
  pub graphs : graphed_of r ≡ g
  pub whole : r ≡ answer_of g
  pub linked : (t : Tables) → r ≡ Ok t → Linked t

-- ---- what private functions answer

-- an accepted chart's board, as the chart crate promises it
pub record Held (b : BoardTables) : Type 0 where
  pub setting : Setting
  pub sound : SoundBoard b
  pub chart_bytes : List ℕ
  pub read : chart setting chart_bytes ≡ accepted (board_of b)
  pub whole : b ≡ board_tables (length (board_of b)) (board_of b)

-- a board's graph before any cut
abbrev pub uncut_dag : Board → Dag
uncut_dag ps = record { graph = uncut ps; cuts = 0 }

-- r holds the board b, completed and joined, unless the boxes of the leads are too many
abbrev pub IsJoined : BoardTables → Result Tables Refusal → Type 0
IsJoined b (Ok r) = Holds b.lines (uncut_dag (board_of b)) r
IsJoined b (Err why) = (why ≡ ManyBoxes) × (48 < length (uncut (board_of b)))

-- r holds the graph that the board b gives
pub record Begun (b : BoardTables) (r : Tables) : Type 0 where
  pub charted : Charted r
  pub graph : graph_of r ≡ given_graph (board_of b)
  pub cuts : r.cuts ≡ 0
  pub lines : r.lines ≡ b.lines

-- the records that p owns
abbrev pub owned_items : ℕ → List Item → List Item
owned_items = owned_by (λ r. r.owner) (λ r. r)

-- the records of node 0, of node 1, .. of n nodes
abbrev pub in_order : ℕ → List Item → List Item
in_order n xs = joined (tabulate (λ p. owned_items p xs) 0 n)

-- the tables with the sources and the sinks node by node
abbrev pub ordered_of : Tables → Tables
ordered_of t =
    record {
      n = t.n;
      cuts = t.cuts;
      names = t.names;
      lines = t.lines;
      sources = table_of (in_order t.n (items_of t.sources));
      sinks = table_of (in_order t.n (items_of t.sinks));
    }
