-- Charts and their sheets, through the whole definition from the chart's bytes. A case has the chart in hexadecimal, the origin and the numbers of
-- the listing: columns, rows, width, height, boxes and cuts, then column, row, x, y, width and height of each box; or both numbers of the refusal. They are the Rust's answers (docs/DIFFERENCES.md).
-- A case of leads to parts taken out has the target of 12 in the strict setting and the first six numbers in the default one. A case of owners has
-- them in the default setting.
-- Assumes nothing.
use Rattle.std.specs.Prelude.{ℕ, ◌≡◌, refl, Bool, true, ◌&&◌, List, [], ◌∷◌, map, length, take}
use Prim.Native.String.{String}
use Rattle.laws.specs.Bytes.{hex, all_of, same}
use Rattle.chart.specs.declared.Setting.TheVariants.{Default, Strict}
use Rattle.chart.specs.Chart.{chart}
use Rattle.graph.specs.Shape.{shape_of}
use Rattle.graph.specs.Completion.{complete}
use Rattle.graph.specs.Cutting.{reached, cutting}
use Rattle.graph.specs.Joining.{joined, uncut}
use Rattle.graph.specs.Graphed.{graphed}
use Rattle.laws.specs.Each.{each}
use Rattle.order.specs.Against.{all}
use Rattle.order.specs.Weights.{round, first, weights}
use Rattle.order.specs.Chains.{triples, chains, order, columns as first_columns}
use Rattle.grid.specs.Heights.{heights}
use Rattle.grid.specs.Columns.{first_moves, fold_from, average, columns}
use Rattle.grid.specs.RenderNode.{drawn}
use Rattle.grid.specs.RenderGrid.{Box, sheet_of, sheet}
use Rattle.refusals.specs.Refusals.{numbers_of}
use Rattle.grid.specs.Sheeted.{Sheeted, ready, refusal, sheet_of_dag, sheeted}

data Case : Type 0 where
  is : String → ℕ → ℕ → List ℕ → Case
  lead : String → ℕ → List ℕ → Case
  owned : String → List ℕ → Case

abbrev box_numbers : List Box → List ℕ
box_numbers [] = []
box_numbers (b ∷ bs) = b.column ∷ b.row ∷ b.x ∷ b.y ∷ b.width ∷ b.height ∷ box_numbers bs

abbrev numbers : Sheeted → List ℕ
numbers (ready s) = s.columns ∷ s.rows ∷ s.width ∷ s.height ∷ length s.boxes ∷ s.cuts ∷ box_numbers s.boxes
numbers (refusal why) = (numbers_of why).first ∷ (numbers_of why).second ∷ []

abbrev owners : Sheeted → List ℕ
owners (ready s) = map (λ (b : Box). b.owner) s.boxes
owners (refusal why) = []

holds : Case → Bool
holds (is s x y ns) = same (numbers (sheeted Strict (hex s) x y)) ns
holds (lead s t ns) = same (take 6 (numbers (sheeted Default (hex s) 0 0))) ns && same (numbers (sheeted Strict (hex s) 0 0)) (12 ∷ t ∷ [])
holds (owned s os) = same (owners (sheeted Default (hex s) 0 0)) os

cases : List Case
cases =
    -- the worked sheet
    is "010206000b000000010100000000" 0 0 (1 ∷ 2 ∷ 640 ∷ 3072 ∷ 2 ∷ 0 ∷ 0 ∷ 0 ∷ 128 ∷ 128 ∷ 384 ∷ 384 ∷ 0 ∷ 1 ∷ 128 ∷ 2560 ∷ 384 ∷ 384 ∷ []) ∷
    -- 01 00: 256 by 256, one empty cell
    is "0100" 0 0 (1 ∷ 1 ∷ 256 ∷ 256 ∷ 0 ∷ 0 ∷ []) ∷
    -- one bare node: 640 by 640
    is "01010400000000" 0 0 (1 ∷ 1 ∷ 640 ∷ 640 ∷ 1 ∷ 0 ∷ 0 ∷ 0 ∷ 128 ∷ 128 ∷ 384 ∷ 384 ∷ []) ∷
    -- two bare nodes: node 1 in column 0, node 0 in column 1
    is "010206000900000000000000" 0 0 (2 ∷ 1 ∷ 2048 ∷ 640 ∷ 2 ∷ 0 ∷ 1 ∷ 0 ∷ 1536 ∷ 128 ∷ 384 ∷ 384 ∷ 0 ∷ 0 ∷ 128 ∷ 128 ∷ 384 ∷ 384 ∷ []) ∷
    -- 0→0: 1152 by 6016, boxes 2, 0, 1 in rows 0, 1, 2
    is "010104000000010000" 0 0 (1 ∷ 3 ∷ 1152 ∷ 6016 ∷ 3 ∷ 1 ∷ 0 ∷ 1 ∷ 128 ∷ 2816 ∷ 384 ∷ 384 ∷ 0 ∷ 2 ∷ 128 ∷ 5248 ∷ 896 ∷ 640 ∷ 0 ∷ 0 ∷ 128 ∷ 128 ∷ 896 ∷ 640 ∷ []) ∷
    -- 0→1→0
    is "010206000b0000000101000000010000" 0 0 (1 ∷ 4 ∷ 1152 ∷ 8448 ∷ 4 ∷ 1 ∷ 0 ∷ 1 ∷ 128 ∷ 2816 ∷ 384 ∷ 384 ∷ 0 ∷ 2 ∷ 128 ∷ 5248 ∷ 384 ∷ 384 ∷ 0 ∷ 3 ∷ 128 ∷ 7680 ∷ 896 ∷ 640 ∷ 0 ∷ 0 ∷ 128 ∷ 128 ∷ 896 ∷ 640 ∷ []) ∷
    -- 0→1→2→1
    is "010308000d001200000001010000000102000000010100" 0 0 (2 ∷ 2 ∷ 2048 ∷ 3072 ∷ 3 ∷ 0 ∷ 1 ∷ 0 ∷ 1536 ∷ 128 ∷ 384 ∷ 384 ∷ 0 ∷ 1 ∷ 128 ∷ 2560 ∷ 384 ∷ 384 ∷ 0 ∷ 0 ∷ 128 ∷ 128 ∷ 384 ∷ 384 ∷ []) ∷
    -- 0→1 given at both ends
    is "010206000b0000000101000100000000" 0 0 (1 ∷ 2 ∷ 640 ∷ 3072 ∷ 2 ∷ 0 ∷ 0 ∷ 0 ∷ 128 ∷ 128 ∷ 384 ∷ 384 ∷ 0 ∷ 1 ∷ 128 ∷ 2560 ∷ 384 ∷ 384 ∷ []) ∷
    -- one node, 23 sinks to itself: 47 boxes
    is "0101040000001700000000000000000000000000000000000000000000000000000000000000000000000000000000000000000000" 0 0 (45 ∷ 3 ∷ 85632 ∷ 6016 ∷ 47 ∷ 23 ∷ 22 ∷ 1 ∷ 42368 ∷ 2816 ∷ 384 ∷ 384 ∷ 22 ∷ 2 ∷ 42368 ∷ 5248 ∷ 896 ∷ 640 ∷ 22 ∷ 0 ∷ 42368 ∷ 128 ∷ 896 ∷ 640 ∷ 23 ∷ 2 ∷ 44288 ∷ 5248 ∷ 896 ∷ 640 ∷ 0 ∷ 0 ∷ 128 ∷ 128 ∷ 896 ∷ 640 ∷ 24 ∷ 2 ∷ 46208 ∷ 5248 ∷ 896 ∷ 640 ∷ 1 ∷ 0 ∷ 2048 ∷ 128 ∷ 896 ∷ 640 ∷ 25 ∷ 2 ∷ 48128 ∷ 5248 ∷ 896 ∷ 640 ∷ 2 ∷ 0 ∷ 3968 ∷ 128 ∷ 896 ∷ 640 ∷ 26 ∷ 2 ∷ 50048 ∷ 5248 ∷ 896 ∷ 640 ∷ 3 ∷ 0 ∷ 5888 ∷ 128 ∷ 896 ∷ 640 ∷ 27 ∷ 2 ∷ 51968 ∷ 5248 ∷ 896 ∷ 640 ∷ 4 ∷ 0 ∷ 7808 ∷ 128 ∷ 896 ∷ 640 ∷ 28 ∷ 2 ∷ 53888 ∷ 5248 ∷ 896 ∷ 640 ∷ 5 ∷ 0 ∷ 9728 ∷ 128 ∷ 896 ∷ 640 ∷ 29 ∷ 2 ∷ 55808 ∷ 5248 ∷ 896 ∷ 640 ∷ 6 ∷ 0 ∷ 11648 ∷ 128 ∷ 896 ∷ 640 ∷ 30 ∷ 2 ∷ 57728 ∷ 5248 ∷ 896 ∷ 640 ∷ 7 ∷ 0 ∷ 13568 ∷ 128 ∷ 896 ∷ 640 ∷ 31 ∷ 2 ∷ 59648 ∷ 5248 ∷ 896 ∷ 640 ∷ 8 ∷ 0 ∷ 15488 ∷ 128 ∷ 896 ∷ 640 ∷ 32 ∷ 2 ∷ 61568 ∷ 5248 ∷ 896 ∷ 640 ∷ 9 ∷ 0 ∷ 17408 ∷ 128 ∷ 896 ∷ 640 ∷ 33 ∷ 2 ∷ 63488 ∷ 5248 ∷ 896 ∷ 640 ∷ 10 ∷ 0 ∷ 19328 ∷ 128 ∷ 896 ∷ 640 ∷ 34 ∷ 2 ∷ 65408 ∷ 5248 ∷ 896 ∷ 640 ∷ 11 ∷ 0 ∷ 21248 ∷ 128 ∷ 896 ∷ 640 ∷ 35 ∷ 2 ∷ 67328 ∷ 5248 ∷ 896 ∷ 640 ∷ 12 ∷ 0 ∷ 23168 ∷ 128 ∷ 896 ∷ 640 ∷ 36 ∷ 2 ∷ 69248 ∷ 5248 ∷ 896 ∷ 640 ∷ 13 ∷ 0 ∷ 25088 ∷ 128 ∷ 896 ∷ 640 ∷ 37 ∷ 2 ∷ 71168 ∷ 5248 ∷ 896 ∷ 640 ∷ 14 ∷ 0 ∷ 27008 ∷ 128 ∷ 896 ∷ 640 ∷ 38 ∷ 2 ∷ 73088 ∷ 5248 ∷ 896 ∷ 640 ∷ 15 ∷ 0 ∷ 28928 ∷ 128 ∷ 896 ∷ 640 ∷ 39 ∷ 2 ∷ 75008 ∷ 5248 ∷ 896 ∷ 640 ∷ 16 ∷ 0 ∷ 30848 ∷ 128 ∷ 896 ∷ 640 ∷ 40 ∷ 2 ∷ 76928 ∷ 5248 ∷ 896 ∷ 640 ∷ 17 ∷ 0 ∷ 32768 ∷ 128 ∷ 896 ∷ 640 ∷ 41 ∷ 2 ∷ 78848 ∷ 5248 ∷ 896 ∷ 640 ∷ 18 ∷ 0 ∷ 34688 ∷ 128 ∷ 896 ∷ 640 ∷ 42 ∷ 2 ∷ 80768 ∷ 5248 ∷ 896 ∷ 640 ∷ 19 ∷ 0 ∷ 36608 ∷ 128 ∷ 896 ∷ 640 ∷ 43 ∷ 2 ∷ 82688 ∷ 5248 ∷ 896 ∷ 640 ∷ 20 ∷ 0 ∷ 38528 ∷ 128 ∷ 896 ∷ 640 ∷ 44 ∷ 2 ∷ 84608 ∷ 5248 ∷ 896 ∷ 640 ∷ 21 ∷ 0 ∷ 40448 ∷ 128 ∷ 896 ∷ 640 ∷ []) ∷
    -- 24: refusal 13
    is "01010400000018000000000000000000000000000000000000000000000000000000000000000000000000000000000000000000000000" 0 0 (13 ∷ 0 ∷ []) ∷
    -- the largest origin of a bare node
    is "01010400000000" 8387968 0 (1 ∷ 1 ∷ 640 ∷ 640 ∷ 1 ∷ 0 ∷ 0 ∷ 0 ∷ 128 ∷ 128 ∷ 384 ∷ 384 ∷ []) ∷
    -- one more
    is "01010400000000" 8387969 0 (14 ∷ 0 ∷ []) ∷
    -- the same down
    is "01010400000000" 0 8387969 (14 ∷ 0 ∷ []) ∷
    -- no wrapping
    is "01010400000000" 4294967295 0 (14 ∷ 0 ∷ []) ∷
    -- an empty sheet is judged too
    is "0100" 8388352 0 (1 ∷ 1 ∷ 256 ∷ 256 ∷ 0 ∷ 0 ∷ []) ∷
    -- one more
    is "0100" 8388353 0 (14 ∷ 0 ∷ []) ∷
    -- refused by the chart
    is "010104000005" 0 0 (7 ∷ 0 ∷ []) ∷
    -- heights and columns
    is "010308000d001000000001010000000001000100000100" 0 0 (2 ∷ 2 ∷ 2048 ∷ 3072 ∷ 3 ∷ 0 ∷ 0 ∷ 0 ∷ 128 ∷ 128 ∷ 384 ∷ 384 ∷ 0 ∷ 1 ∷ 128 ∷ 2560 ∷ 384 ∷ 384 ∷ 1 ∷ 0 ∷ 1536 ∷ 128 ∷ 384 ∷ 384 ∷ []) ∷
    -- heights and columns
    is "010308000b001200000000010001000002000100000000" 0 0 (1 ∷ 3 ∷ 640 ∷ 5504 ∷ 3 ∷ 0 ∷ 0 ∷ 0 ∷ 128 ∷ 128 ∷ 384 ∷ 384 ∷ 0 ∷ 1 ∷ 128 ∷ 2560 ∷ 384 ∷ 384 ∷ 0 ∷ 2 ∷ 128 ∷ 4992 ∷ 384 ∷ 384 ∷ []) ∷
    -- heights and columns
    is "010206000d000000020000000001000101000000" 0 0 (3 ∷ 4 ∷ 4992 ∷ 8960 ∷ 8 ∷ 3 ∷ 1 ∷ 2 ∷ 2048 ∷ 5504 ∷ 384 ∷ 384 ∷ 1 ∷ 1 ∷ 2048 ∷ 2816 ∷ 384 ∷ 384 ∷ 1 ∷ 3 ∷ 2048 ∷ 8192 ∷ 896 ∷ 640 ∷ 0 ∷ 1 ∷ 128 ∷ 2816 ∷ 896 ∷ 640 ∷ 2 ∷ 3 ∷ 3968 ∷ 8192 ∷ 896 ∷ 640 ∷ 2 ∷ 1 ∷ 3968 ∷ 2816 ∷ 896 ∷ 640 ∷ 0 ∷ 2 ∷ 128 ∷ 5504 ∷ 896 ∷ 640 ∷ 1 ∷ 0 ∷ 2048 ∷ 128 ∷ 896 ∷ 640 ∷ []) ∷
    -- heights and columns
    is "010206000b00000001000000000201000100" 0 0 (3 ∷ 3 ∷ 4992 ∷ 6016 ∷ 8 ∷ 3 ∷ 2 ∷ 1 ∷ 3968 ∷ 2816 ∷ 384 ∷ 384 ∷ 0 ∷ 1 ∷ 128 ∷ 2816 ∷ 384 ∷ 384 ∷ 2 ∷ 2 ∷ 3968 ∷ 5248 ∷ 896 ∷ 640 ∷ 2 ∷ 0 ∷ 3968 ∷ 128 ∷ 896 ∷ 640 ∷ 0 ∷ 2 ∷ 128 ∷ 5248 ∷ 896 ∷ 640 ∷ 0 ∷ 0 ∷ 128 ∷ 128 ∷ 896 ∷ 640 ∷ 1 ∷ 2 ∷ 2048 ∷ 5248 ∷ 896 ∷ 640 ∷ 1 ∷ 0 ∷ 2048 ∷ 128 ∷ 896 ∷ 640 ∷ []) ∷
    -- heights and columns
    is "010206000900000000000003000001000000" 0 0 (2 ∷ 3 ∷ 2560 ∷ 6016 ∷ 4 ∷ 1 ∷ 1 ∷ 2 ∷ 2048 ∷ 5248 ∷ 384 ∷ 384 ∷ 0 ∷ 1 ∷ 128 ∷ 2816 ∷ 384 ∷ 384 ∷ 0 ∷ 2 ∷ 128 ∷ 5248 ∷ 896 ∷ 640 ∷ 0 ∷ 0 ∷ 128 ∷ 128 ∷ 896 ∷ 640 ∷ []) ∷
    -- heights and columns
    is "010308000d0012000000010200010000010001000101000100" 0 0 (2 ∷ 2 ∷ 2048 ∷ 3072 ∷ 3 ∷ 0 ∷ 1 ∷ 0 ∷ 1536 ∷ 128 ∷ 384 ∷ 384 ∷ 0 ∷ 0 ∷ 128 ∷ 128 ∷ 384 ∷ 384 ∷ 0 ∷ 1 ∷ 128 ∷ 2560 ∷ 384 ∷ 384 ∷ []) ∷
    -- heights and columns
    is "010308000f0016000000020200020000000201000200000000" 0 0 (2 ∷ 3 ∷ 2560 ∷ 6016 ∷ 5 ∷ 1 ∷ 1 ∷ 1 ∷ 2048 ∷ 2816 ∷ 384 ∷ 384 ∷ 0 ∷ 1 ∷ 128 ∷ 2816 ∷ 384 ∷ 384 ∷ 1 ∷ 2 ∷ 2048 ∷ 5248 ∷ 384 ∷ 384 ∷ 0 ∷ 2 ∷ 128 ∷ 5248 ∷ 896 ∷ 640 ∷ 0 ∷ 0 ∷ 128 ∷ 128 ∷ 896 ∷ 640 ∷ []) ∷
    -- heights and columns
    is "010206000d00010001010000000100000000" 0 0 (3 ∷ 4 ∷ 4480 ∷ 8704 ∷ 6 ∷ 2 ∷ 1 ∷ 1 ∷ 2048 ∷ 2816 ∷ 384 ∷ 384 ∷ 2 ∷ 2 ∷ 3968 ∷ 5248 ∷ 384 ∷ 384 ∷ 1 ∷ 2 ∷ 2048 ∷ 5248 ∷ 896 ∷ 640 ∷ 1 ∷ 0 ∷ 2048 ∷ 128 ∷ 896 ∷ 640 ∷ 1 ∷ 3 ∷ 2048 ∷ 7936 ∷ 896 ∷ 640 ∷ 0 ∷ 0 ∷ 128 ∷ 128 ∷ 896 ∷ 640 ∷ []) ∷
    -- heights and columns
    is "010206000f0000000300000000010002000000000000" 0 0 (3 ∷ 3 ∷ 4992 ∷ 6016 ∷ 6 ∷ 2 ∷ 0 ∷ 1 ∷ 128 ∷ 2816 ∷ 384 ∷ 384 ∷ 0 ∷ 2 ∷ 128 ∷ 5248 ∷ 384 ∷ 384 ∷ 1 ∷ 2 ∷ 2048 ∷ 5248 ∷ 896 ∷ 640 ∷ 0 ∷ 0 ∷ 128 ∷ 128 ∷ 896 ∷ 640 ∷ 2 ∷ 2 ∷ 3968 ∷ 5248 ∷ 896 ∷ 640 ∷ 1 ∷ 0 ∷ 2048 ∷ 128 ∷ 896 ∷ 640 ∷ []) ∷
    -- heights and columns
    is "01010400000003000000000000" 0 0 (5 ∷ 3 ∷ 8832 ∷ 6016 ∷ 7 ∷ 3 ∷ 2 ∷ 1 ∷ 3968 ∷ 2816 ∷ 384 ∷ 384 ∷ 2 ∷ 2 ∷ 3968 ∷ 5248 ∷ 896 ∷ 640 ∷ 2 ∷ 0 ∷ 3968 ∷ 128 ∷ 896 ∷ 640 ∷ 3 ∷ 2 ∷ 5888 ∷ 5248 ∷ 896 ∷ 640 ∷ 0 ∷ 0 ∷ 128 ∷ 128 ∷ 896 ∷ 640 ∷ 4 ∷ 2 ∷ 7808 ∷ 5248 ∷ 896 ∷ 640 ∷ 1 ∷ 0 ∷ 2048 ∷ 128 ∷ 896 ∷ 640 ∷ []) ∷
    -- heights and columns
    is "010308000d00180000000102000000040100010000000200000000" 0 0 (3 ∷ 4 ∷ 4992 ∷ 8448 ∷ 7 ∷ 2 ∷ 0 ∷ 2 ∷ 128 ∷ 5248 ∷ 384 ∷ 384 ∷ 0 ∷ 1 ∷ 128 ∷ 2816 ∷ 384 ∷ 384 ∷ 0 ∷ 3 ∷ 128 ∷ 7936 ∷ 384 ∷ 384 ∷ 1 ∷ 2 ∷ 2048 ∷ 5248 ∷ 896 ∷ 640 ∷ 0 ∷ 0 ∷ 128 ∷ 128 ∷ 896 ∷ 640 ∷ 2 ∷ 2 ∷ 3968 ∷ 5248 ∷ 896 ∷ 640 ∷ 1 ∷ 0 ∷ 2048 ∷ 128 ∷ 896 ∷ 640 ∷ []) ∷
    -- heights and columns
    is "010308000b001000000000010000000002000000000000" 0 0 (2 ∷ 2 ∷ 2048 ∷ 3072 ∷ 3 ∷ 0 ∷ 0 ∷ 0 ∷ 128 ∷ 128 ∷ 384 ∷ 384 ∷ 1 ∷ 1 ∷ 1536 ∷ 2560 ∷ 384 ∷ 384 ∷ 0 ∷ 1 ∷ 128 ∷ 2560 ∷ 384 ∷ 384 ∷ []) ∷
    -- texts of all three kinds
    is "01010400010101000178016b00026162" 0 0 (1 ∷ 3 ∷ 1152 ∷ 6784 ∷ 3 ∷ 1 ∷ 0 ∷ 1 ∷ 128 ∷ 2816 ∷ 640 ∷ 1152 ∷ 0 ∷ 2 ∷ 128 ∷ 6016 ∷ 896 ∷ 640 ∷ 0 ∷ 0 ∷ 128 ∷ 128 ∷ 896 ∷ 640 ∷ []) ∷
    -- degree signs: a line of one, 45 degrees, twelve of them; two sinks, and texts of all three kinds
    is "0101040000010002c2b0" 0 0 (1 ∷ 1 ∷ 896 ∷ 896 ∷ 1 ∷ 0 ∷ 0 ∷ 0 ∷ 128 ∷ 128 ∷ 640 ∷ 640 ∷ []) ∷
    is "01010400000100043435c2b0" 0 0 (1 ∷ 1 ∷ 1408 ∷ 896 ∷ 1 ∷ 0 ∷ 0 ∷ 0 ∷ 128 ∷ 128 ∷ 1152 ∷ 640 ∷ []) ∷
    is "0101040000010018c2b0c2b0c2b0c2b0c2b0c2b0c2b0c2b0c2b0c2b0c2b0c2b0" 0 0 (1 ∷ 1 ∷ 3712 ∷ 896 ∷ 1 ∷ 0 ∷ 0 ∷ 0 ∷ 128 ∷ 128 ∷ 3456 ∷ 640 ∷ []) ∷
    is "0102060011000000020102c2b001026162000000" 0 0 (1 ∷ 2 ∷ 1024 ∷ 3072 ∷ 2 ∷ 0 ∷ 0 ∷ 0 ∷ 128 ∷ 128 ∷ 768 ∷ 384 ∷ 0 ∷ 1 ∷ 128 ∷ 2560 ∷ 384 ∷ 384 ∷ []) ∷
    is "010104000102020002c2b003c2b04303616263000330c2b00000" 0 0 (2 ∷ 3 ∷ 3328 ∷ 7424 ∷ 5 ∷ 2 ∷ 0 ∷ 1 ∷ 128 ∷ 2816 ∷ 1152 ∷ 1792 ∷ 0 ∷ 2 ∷ 128 ∷ 6656 ∷ 896 ∷ 640 ∷ 1 ∷ 0 ∷ 2304 ∷ 128 ∷ 896 ∷ 640 ∷ 1 ∷ 2 ∷ 2304 ∷ 6656 ∷ 896 ∷ 640 ∷ 0 ∷ 0 ∷ 128 ∷ 128 ∷ 896 ∷ 640 ∷ []) ∷
    -- an empty row
    is "0107100015001a0023002c0033003c000000010400010000030000000306000400040002000106000000050000000200000200010002010005000500000000" 0 0 (7 ∷ 7 ∷ 11648 ∷ 16384 ∷ 17 ∷ 5 ∷ 2 ∷ 1 ∷ 2944 ∷ 2816 ∷ 384 ∷ 384 ∷ 1 ∷ 2 ∷ 1536 ∷ 5504 ∷ 384 ∷ 384 ∷ 2 ∷ 0 ∷ 2944 ∷ 128 ∷ 384 ∷ 384 ∷ 2 ∷ 2 ∷ 2944 ∷ 5504 ∷ 384 ∷ 384 ∷ 0 ∷ 2 ∷ 128 ∷ 5504 ∷ 384 ∷ 384 ∷ 2 ∷ 3 ∷ 2944 ∷ 8192 ∷ 384 ∷ 384 ∷ 1 ∷ 1 ∷ 1536 ∷ 2816 ∷ 384 ∷ 384 ∷ 3 ∷ 3 ∷ 4864 ∷ 8192 ∷ 896 ∷ 640 ∷ 3 ∷ 0 ∷ 4864 ∷ 128 ∷ 896 ∷ 640 ∷ 2 ∷ 4 ∷ 2944 ∷ 10880 ∷ 896 ∷ 640 ∷ 3 ∷ 2 ∷ 4864 ∷ 5504 ∷ 896 ∷ 640 ∷ 3 ∷ 4 ∷ 4864 ∷ 10880 ∷ 896 ∷ 640 ∷ 2 ∷ 6 ∷ 2944 ∷ 15616 ∷ 896 ∷ 640 ∷ 4 ∷ 1 ∷ 6784 ∷ 2816 ∷ 896 ∷ 640 ∷ 6 ∷ 1 ∷ 10624 ∷ 2816 ∷ 896 ∷ 640 ∷ 5 ∷ 1 ∷ 8704 ∷ 2816 ∷ 896 ∷ 640 ∷ 3 ∷ 1 ∷ 4864 ∷ 2816 ∷ 896 ∷ 640 ∷ []) ∷
    -- 0: snk[200]
    lead "01010400000001c800" 200 (1 ∷ 2 ∷ 3968 ∷ 3328 ∷ 2 ∷ 0 ∷ []) ∷
    -- 0: src[200]
    lead "01010400010000c800" 200 (1 ∷ 2 ∷ 3968 ∷ 3328 ∷ 2 ∷ 0 ∷ []) ∷
    -- 0: snk[1]: target 1 is box 1's own number
    lead "010104000000010100" 1 (1 ∷ 2 ∷ 3456 ∷ 3328 ∷ 2 ∷ 0 ∷ []) ∷
    -- 0: snk[2]; 1: snk[2]: two boxes
    lead "010206000b0000000102000000010200" 2 (2 ∷ 2 ∷ 7680 ∷ 3328 ∷ 4 ∷ 0 ∷ []) ∷
    -- 0: src[200] snk[0]: the lead's box is a root, nothing is cut
    lead "01010400010001c8000000" 200 (1 ∷ 2 ∷ 3968 ∷ 3328 ∷ 2 ∷ 0 ∷ []) ∷
    -- 0: snk[0, 200]: box 1 is the lead's, 2 and 3 the cut's
    lead "010104000000020000c800" 200 (2 ∷ 3 ∷ 5888 ∷ 6016 ∷ 4 ∷ 1 ∷ []) ∷
    -- 0: src[255] lin['k'] snk[255]
    lead "01010400010101ff00016bff00" 255 (1 ∷ 3 ∷ 3968 ∷ 6272 ∷ 3 ∷ 0 ∷ []) ∷
    -- 0: snk[3, 1]; 1: src[2]; 2: snk[1]
    lead "010308000f0014000000020300010001000002000000010100" 3 (2 ∷ 2 ∷ 4864 ∷ 3328 ∷ 4 ∷ 0 ∷ []) ∷
    -- one node, 48 sinks to 200: refusal 13 (47, and 45 with a sink to itself, are graph's `JoinCases`)
    lead "01010400000030c800c800c800c800c800c800c800c800c800c800c800c800c800c800c800c800c800c800c800c800c800c800c800c800c800c800c800c800c800c800c800c800c800c800c800c800c800c800c800c800c800c800c800c800c800c800c800c800" 200 (13 ∷ 0 ∷ []) ∷
    -- a sink to itself and 46 to 200: refusal 13
    lead "0101040000002f0000c800c800c800c800c800c800c800c800c800c800c800c800c800c800c800c800c800c800c800c800c800c800c800c800c800c800c800c800c800c800c800c800c800c800c800c800c800c800c800c800c800c800c800c800c800c800" 200 (13 ∷ 0 ∷ []) ∷
    -- 0: snk[0]: both halves of the cut show 0
    owned "010104000000010000" (0 ∷ 0 ∷ 0 ∷ []) ∷
    -- 0: snk[1]; 1: snk[0]: node 1's sink is cut, and both halves show 0
    owned "010206000b0000000101000000010000" (0 ∷ 1 ∷ 0 ∷ 0 ∷ []) ∷
    -- 0: snk[0, 200]
    owned "010104000000020000c800" (0 ∷ 255 ∷ 0 ∷ 0 ∷ []) ∷
    -- 0: src[7] snk[9]
    owned "0101040001000107000900" (0 ∷ 255 ∷ 255 ∷ []) ∷
    -- 0: snk[1]; 1: snk[1, 0]: two cuts from node 1, which show 1 and then 0
    owned "010206000b00000001010000000201000000" (0 ∷ 1 ∷ 1 ∷ 1 ∷ 0 ∷ 0 ∷ []) ∷
    []

all_hold : all_of holds cases ≡ true
unfolding holds cases chart complete joined uncut reached cutting graphed shape_of each all round first weights triples chains order first_columns heights first_moves fold_from average columns drawn sheet_of sheet sheet_of_dag sheeted
all_hold = refl
