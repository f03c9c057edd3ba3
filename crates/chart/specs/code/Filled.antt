-- The board that the code's tables hold, and the tables as the code fills them, one record after another.
-- Assumes nothing.
use Rattle.std.specs.Prelude.{ℕ, suc, List, [], ◌∷◌, map, take, replicate}
use Rattle.laws.specs.Lists.{tabulate, owned_by}
use Rattle.tables.specs.declared.Table.{Table}
use Rattle.tables.specs.Tables.{pushed}
use Rattle.chart.specs.declared.Item.{Item}
use Rattle.chart.specs.Tables.{Items}
use Rattle.chart.specs.declared.Line.{Line}
use Rattle.chart.specs.Tables.{Lines}
use Rattle.chart.specs.declared.Board.{Board as Tables}
use Rattle.chart.specs.Chart.{Part, End, Node, Board}
use Rattle.chart.specs.Tables.{no_item, no_line, item_of, line_of}

abbrev pub empty_table : Items
empty_table = record { items = replicate 64 no_item; count = 0 }

abbrev pub empty_lines : Lines
empty_lines = record { items = replicate 128 no_line; count = 0 }

abbrev pub empty_board : ℕ → Tables
empty_board n = record { n = n; sources = empty_table; lines = empty_lines; sinks = empty_table }

-- ---- the board of the tables

abbrev pub end_of : Item → End
end_of r = record { to = r.to; text = record { at = r.at; len = r.len } }

abbrev pub part_of : Line → Part
part_of r = record { at = r.at; len = r.len }

-- the sources, or the sinks, of p; and its lines
abbrev pub owned : ℕ → List Item → List End
owned = owned_by (λ r. r.owner) end_of

abbrev pub owned_lines : ℕ → List Line → List Part
owned_lines = owned_by (λ r. r.owner) part_of

abbrev pub items_of : Items → List Item
items_of t = take t.count t.items

abbrev pub lines_of : Lines → List Line
lines_of t = take t.count t.items

-- node p, where xs are the records of the sources, ls those of the lines and ys those of the sinks
abbrev pub node_of : List Item → List Line → List Item → ℕ → Node
node_of xs ls ys p = record { sources = owned p xs; lines = owned_lines p ls; sinks = owned p ys }

-- n nodes
unfoldable pub board_from : ℕ → List Item → List Line → List Item → Board
board_from n xs ls ys = tabulate (node_of xs ls ys) 0 n

-- the board that the tables hold
abbrev pub board_of : Tables → Board
board_of t = board_from t.n (items_of t.sources) (lines_of t.lines) (items_of t.sinks)

-- ---- the tables as the code makes them, of any board

-- the records pushed one after the other; past the array only the count goes on
abbrev pub push_all : {A : Type 0} {m : ℕ} → Table A m → List A → Table A m
push_all t [] = t
push_all t (x ∷ xs) = push_all (pushed t x) xs

-- the tables with node p, and with the nodes from p on
abbrev pub with_node : Tables → ℕ → Node → Tables
with_node t p q =
    record {
      n = t.n;
      sources = push_all t.sources (map (item_of p) q.sources);
      lines = push_all t.lines (map (line_of p) q.lines);
      sinks = push_all t.sinks (map (item_of p) q.sinks);
    }

abbrev pub with_nodes : Tables → ℕ → Board → Tables
with_nodes t p [] = t
with_nodes t p (q ∷ qs) = with_nodes (with_node t p q) (suc p) qs

-- the tables of n nodes: `board_tables` of each board of n (proofs/Held)
unfoldable pub tables_of : ℕ → Board → Tables
tables_of n ps = with_nodes (empty_board n) 0 ps
