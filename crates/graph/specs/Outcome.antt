-- What `graph` answers: the tables of a graph, every field of them.
-- Assumes nothing.
use Rattle.std.specs.Prelude.{ℕ, suc, ◌<◌, ◌≡◌, List, [], ◌∷◌, map, length, get_or, Result, Ok, Err}
use Rattle.std.proofs.Math.Option.{Option, none, some}
use Rattle.laws.specs.Lists.{flat, padded}
use Rattle.chart.specs.declared.Line.{Line as LineItem}
use Rattle.refusals.specs.Refusals.{numbers_of, numbers_in}
use Rattle.refusals.specs.declared.Refusal.{Refusal}
use Rattle.chart.specs.declared.Setting.{Setting}
use Rattle.chart.specs.Chart.{Part, Board, ready as accepted, chart}
use Rattle.chart.specs.Tables.{no_line, line_of}
use Rattle.graph.specs.declared.Item.{Item}
use Rattle.graph.specs.Items.{Items}
use Rattle.graph.specs.declared.Name.{Name}
use Rattle.graph.specs.declared.Name.TheVariants.{Nothing, Number, Invalid}
use Rattle.graph.specs.declared.Tables.{Tables}
use Rattle.graph.specs.Graph.{Line, given, number, invalid, Edge, Node, Graph}
use Rattle.graph.specs.Graphed.{Dag, Graphed, ready, refusal, graphed}
use Rattle.graph.specs.Laws.{Laws, Walks}

-- ---- the tables of a graph

-- a mark is held as its number plus 1, and none as 0
abbrev pub held_mark : Option ℕ → ℕ
held_mark none = 0
held_mark (some i) = suc i

-- the record of an end of node p
abbrev pub item_of : ℕ → Edge → Item
item_of p e = record { owner = p; to = e.to; mark = held_mark e.mark; at = e.text.at; len = e.text.len }

-- the records node by node
abbrev pub sources_from : ℕ → Graph → List Item
sources_from = flat item_of (λ (x : Node). x.sources)

abbrev pub sinks_from : ℕ → Graph → List Item
sinks_from = flat item_of (λ (x : Node). x.sinks)

-- the given lines
abbrev pub texts_in : List Line → List Part
texts_in [] = []
texts_in (given t ∷ ls) = t ∷ texts_in ls
texts_in (number q ∷ ls) = texts_in ls
texts_in (invalid t ∷ ls) = texts_in ls

abbrev pub texts_from : ℕ → Graph → List LineItem
texts_from = flat line_of (λ (x : Node). texts_in x.lines)

-- the name that holds the line beside the given ones: `#q` is Number q, `#t(invalid)` is Invalid t; Nothing where there is no such line
abbrev pub name_of : List Line → Name
name_of [] = Nothing
name_of (given t ∷ ls) = name_of ls
name_of (number q ∷ ls) = Number q
name_of (invalid t ∷ ls) = Invalid t

abbrev pub names_of : Graph → List Name
names_of g = map (λ (x : Node). name_of x.lines) g

abbrev pub no_item : Item
no_item = record { owner = 0; to = 0; mark = 0; at = 0; len = 0 }

-- a table that holds the records, and empty ones past them
abbrev pub table_of : List Item → Items
table_of xs = record { items = padded 88 no_item xs; count = length xs }

abbrev pub tables_of : Dag → Tables
tables_of d =
    record {
      n = length d.graph;
      cuts = d.cuts;
      names = padded 48 Nothing (names_of d.graph);
      lines = record { items = padded 128 no_line (texts_from 0 d.graph); count = length (texts_from 0 d.graph) };
      sources = table_of (sources_from 0 d.graph);
      sinks = table_of (sinks_from 0 d.graph);
    }

-- the answer: each field of the tables is fixed
abbrev pub answer_of : Graphed → Result Tables Refusal
answer_of (ready d) = Ok (tables_of d)
answer_of (refusal why) = Err why

-- ---- the promise
-- r is the graph of the chart s in the setting w
pub record IsGraph (w : Setting) (s : List ℕ) (r : Result Tables Refusal) : Type 0 where
  -- every field, past the counts too
  pub whole : r ≡ answer_of (graphed w s)
  -- a refusal is document 01's first
  pub refused : (why : Refusal) → graphed w s ≡ refusal why → r ≡ Err why
  pub numbers : (why : Refusal) → graphed w s ≡ refusal why → numbers_in r ≡ numbers_of why
  -- the laws of the graph that is drawn
  pub laws : (d : Dag) → graphed w s ≡ ready d → Laws w s d
  -- the walks of every accepted board, also of one that 13 refuses
  pub walks : (board : Board) → chart w s ≡ accepted board → Walks board
  -- the chart is made of bytes, so the target in a name is one too
  pub bytes : (i : ℕ) → get_or s i 0 < 256
