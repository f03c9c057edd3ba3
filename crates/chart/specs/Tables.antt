-- The tables that `read` hands out, of a board.
-- Assumes nothing.
use Rattle.std.specs.Prelude.{ℕ, ◌%◌, List, length}
use Rattle.laws.specs.Lists.{flat, padded}
use Rattle.chart.specs.declared.Item.{Item}
use Rattle.tables.specs.declared.Table.{Table}
use Rattle.chart.specs.declared.Line.{Line}
use Rattle.chart.specs.declared.Board.{Board as Tables}
use Rattle.chart.specs.Chart.{Part, End, Node, Board}

-- a list in fixed memory: an array, and how many of its places count
abbrev pub Items : Type 0
Items = Table Item 64

abbrev pub Lines : Type 0
Lines = Table Line 128

abbrev pub no_item : Item
no_item = record { owner = 0; to = 0; at = 0; len = 0 }

abbrev pub no_line : Line
no_line = record { owner = 0; at = 0; len = 0 }

-- ---- the tables of a board

-- a record of p; an accepted chart has fewer than 65,536 bytes
abbrev pub item_of : ℕ → End → Item
item_of p e = record { owner = p; to = e.to; at = e.text.at % 65536; len = e.text.len }

abbrev pub line_of : ℕ → Part → Line
line_of p e = record { owner = p; at = e.at % 65536; len = e.len }

-- the records node by node
abbrev pub sources_from : ℕ → Board → List Item
sources_from = flat item_of (λ (q : Node). q.sources)

abbrev pub lines_from : ℕ → Board → List Line
lines_from = flat line_of (λ (q : Node). q.lines)

abbrev pub sinks_from : ℕ → Board → List Item
sinks_from = flat item_of (λ (q : Node). q.sinks)

-- a table that holds the records, and empty ones past them
abbrev pub table_for : List Item → Items
table_for xs = record { items = padded 64 no_item xs; count = length xs }

abbrev pub lines_for : List Line → Lines
lines_for xs = record { items = padded 128 no_line xs; count = length xs }

-- the tables of an accepted board
abbrev pub board_tables : Board → Tables
board_tables ps = record { n = length ps; sources = table_for (sources_from 0 ps); lines = lines_for (lines_from 0 ps); sinks = table_for (sinks_from 0 ps) }
