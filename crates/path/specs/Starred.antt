-- The starred cases of document 01, 'Sheets to hold it to', as one table: each is computed from the definitions that the public contracts cite.
-- Assumes nothing.
use Rattle.std.specs.Prelude.{ℕ, ◌≡◌, refl, Bool, true, false, ◌&&◌, List, [], ◌∷◌, map, eqb, length}
use Prim.Native.String.{String}
use Rattle.laws.specs.Bytes.{ascii, hex, all_of, same}
use Rattle.laws.specs.Each.{each}
use Rattle.chart.specs.declared.Setting.TheVariants.{Strict}
use Rattle.chart.specs.Chart.{chart}
use Rattle.graph.specs.Graph.{node_at}
use Rattle.graph.specs.Shape.{shape_of}
use Rattle.graph.specs.Completion.{complete}
use Rattle.graph.specs.Joining.{joined, uncut}
use Rattle.graph.specs.Cutting.{reached, cutting}
use Rattle.graph.specs.Graphed.{Graphed, ready as cut, refusal as refused_graph, graphed}
use Rattle.order.specs.Against.{all}
use Rattle.order.specs.Weights.{round, first, weights}
use Rattle.order.specs.Chains.{triples, chains, order, columns as first_columns}
use Rattle.grid.specs.Heights.{heights}
use Rattle.grid.specs.Columns.{first_moves, fold_from, average, columns}
use Rattle.grid.specs.RenderNode.{drawn}
use Rattle.grid.specs.RenderGrid.{Box, sheet_of, sheet}
use Rattle.grid.specs.Sheeted.{Sheeted, ready, refusal, sheet_of_dag, sheeted}
use Rattle.refusals.specs.Refusals.{numbers_of, text_numbers_of}
use Rattle.path.specs.Reader.{Answer, segments, refused, read}

pub data Case : Type 0 where
  -- a chart, the sheet's width and height, its boxes and its cuts
  is : String → ℕ → ℕ → ℕ → ℕ → Case
  -- the same, boxes and cuts alone
  cuts : String → ℕ → ℕ → Case
  -- the columns, or the rows, of the boxes
  inColumns inRows : String → List ℕ → Case
  -- node p of the completed and cut graph has so many sources
  sources : String → ℕ → ℕ → Case
  -- a chart at an origin is drawn, or refused with two numbers
  drawn_at : String → ℕ → ℕ → Case
  refused_at : String → ℕ → ℕ → ℕ → ℕ → Case
  -- a path text is refused with two numbers
  text : String → ℕ → ℕ → Case

-- ---- the test of each
abbrev is_sheet : Sheeted → ℕ → ℕ → ℕ → ℕ → Bool
is_sheet (ready s) w h b c = eqb s.width w && eqb s.height h && eqb (length s.boxes) b && eqb s.cuts c
is_sheet (refusal why) w h b c = false

abbrev is_cut : Sheeted → ℕ → ℕ → Bool
is_cut (ready s) b c = eqb (length s.boxes) b && eqb s.cuts c
is_cut (refusal why) b c = false

abbrev are_columns : Sheeted → List ℕ → Bool
are_columns (ready s) cs = same (map (λ (b : Box). b.column) s.boxes) cs
are_columns (refusal why) cs = false

abbrev are_rows : Sheeted → List ℕ → Bool
are_rows (ready s) rs = same (map (λ (b : Box). b.row) s.boxes) rs
are_rows (refusal why) rs = false

abbrev has_sources : Graphed → ℕ → ℕ → Bool
has_sources (cut d) p k = eqb (length (node_at d.graph p).sources) k
has_sources (refused_graph why) p k = false

abbrev is_drawn : Sheeted → Bool
is_drawn (ready s) = true
is_drawn (refusal why) = false

abbrev is_refused : Sheeted → ℕ → ℕ → Bool
is_refused (ready s) n p = false
is_refused (refusal why) n p = eqb (numbers_of why).first n && eqb (numbers_of why).second p

abbrev no_text : Answer → ℕ → ℕ → Bool
no_text (segments ds) n p = false
no_text (refused r) n p = eqb (text_numbers_of r).first n && eqb (text_numbers_of r).second p

unfoldable pub holds : Case → Bool
holds (is s w h b c) = is_sheet (sheeted Strict (hex s) 0 0) w h b c
holds (cuts s b c) = is_cut (sheeted Strict (hex s) 0 0) b c
holds (inColumns s cs) = are_columns (sheeted Strict (hex s) 0 0) cs
holds (inRows s rs) = are_rows (sheeted Strict (hex s) 0 0) rs
holds (sources s p k) = has_sources (graphed Strict (hex s)) p k
holds (drawn_at s x y) = is_drawn (sheeted Strict (hex s) x y)
holds (refused_at s x y n p) = is_refused (sheeted Strict (hex s) x y) n p
holds (text s n p) = no_text (read (ascii s)) n p

unfoldable pub starred : List Case
starred =
    -- '01 00: 256 by 256, no box.'
    is "0100" 256 256 0 0 ∷
    -- document 02, L1: 'A chart of length 0 now means the empty sheet, the same answer as 01 00.'
    is "" 256 256 0 0 ∷
    -- 'One bare node: 640 by 640.'
    is "01010400000000" 640 640 1 0 ∷
    -- 'Two bare nodes: node 1 in column 0, node 0 in column 1, 2048 by 640.'
    is "010206000900000000000000" 2048 640 2 0 ∷
    inColumns "010206000900000000000000" (1 ∷ 0 ∷ []) ∷
    -- '0→0: 3 boxes, 1 cut, 1152 by 6016, boxes 2, 0, 1 in rows 0, 1, 2.'
    is "010104000000010000" 1152 6016 3 1 ∷
    inRows "010104000000010000" (1 ∷ 2 ∷ 0 ∷ []) ∷
    -- '0→1→0: 4 boxes, 1 cut.'
    cuts "010206000b0000000101000000010000" 4 1 ∷
    -- '0→1→2→1: 3 boxes, no cut.'
    cuts "010308000d001200000001010000000102000000010100" 3 0 ∷
    -- '0→1 given at both ends: node 1 has 2 sources.'
    sources "010206000b0000000101000100000000" 1 2 ∷
    -- 'One node, 23 sinks to itself: 47 boxes; 24: refusal 13.'
    cuts "0101040000001700000000000000000000000000000000000000000000000000000000000000000000000000000000000000000000" 47 23 ∷
    refused_at "01010400000018000000000000000000000000000000000000000000000000000000000000000000000000000000000000000000000000" 0 0 13 0 ∷
    -- 'Bare node, origin x 8,387,968 is drawn; 8,387,969 is 14.'
    drawn_at "01010400000000" 8387968 0 ∷
    refused_at "01010400000000" 8387969 0 14 0 ∷
    -- '`M 1.5 08`: 17, place 7.'
    text "M 1.5 08" 17 7 ∷
    -- '`Z`: 19.'
    text "Z" 19 0 ∷
    []

pub starred_hold : all_of holds starred ≡ true
unfolding holds starred chart complete joined uncut reached cutting graphed shape_of each all round first weights triples chains order first_columns heights first_moves fold_from average columns drawn sheet_of sheet sheet_of_dag sheeted read
starred_hold = refl
