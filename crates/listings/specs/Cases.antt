-- Listings through the whole definition from the chart's bytes: document 01's, an empty chart's, one in the default setting, and refusals; and of sheets that a caller built.
-- Assumes nothing.
use Rattle.std.specs.Prelude.{ℕ, ◌≡◌, refl, Bool, true, List, [], ◌∷◌, ◌++◌, replicate}
use Prim.Native.String.{String}
use Rattle.std.specs.Fmt.{digits}
use Rattle.laws.specs.Bytes.{ascii, hex, all_of, same}
use Rattle.chart.specs.declared.Setting.{Setting}
use Rattle.chart.specs.declared.Setting.TheVariants.{Default, Strict}
use Rattle.chart.specs.Chart.{chart}
use Rattle.graph.specs.Shape.{shape_of}
use Rattle.graph.specs.Completion.{complete}
use Rattle.graph.specs.Cutting.{reached, cutting}
use Rattle.graph.specs.Joining.{joined, uncut}
use Rattle.graph.specs.Graphed.{graphed}
use Rattle.laws.specs.Each.{each}
use Rattle.order.specs.Against.{all}
use Rattle.order.specs.Weights.{round, first, weights}
use Rattle.order.specs.Chains.{triples, chains, order, columns as first_columns}
use Rattle.grid.specs.Heights.{heights}
use Rattle.grid.specs.Columns.{first_moves, fold_from, average, columns}
use Rattle.grid.specs.RenderNode.{drawn}
use Rattle.grid.specs.RenderGrid.{sheet_of, sheet}
use Rattle.grid.specs.declared.SheetRecord.{SheetRecord}
use Rattle.grid.specs.Record.{no_box, no_curve, sound_of}
use Rattle.grid.specs.Curves.{curves, record_of}
use Rattle.grid.specs.Sheeted.{sheet_of_dag, sheeted}
use Rattle.path.specs.Number.{digits as path_digits, number_text}
use Rattle.path.specs.Text.{text_of}
use Rattle.path.specs.Segments.{drawn_of}
use Rattle.listings.specs.Listings.{sheet_lines, listing_of}

data Case : Type 0 where
  lists : Setting → String → List String → Case
  -- a sheet that a caller built: a box of this width, and nothing else
  wide : ℕ → List String → Case

abbrev fed : List String → List ℕ
fed [] = []
fed (l ∷ ls) = ascii l ++ (10 ∷ fed ls)

abbrev built : ℕ → SheetRecord
built n =
    record {
      width = n;
      height = 0;
      x = 0;
      y = 0;
      columns = 1;
      rows = 1;
      cuts = 0;
      count = 1;
      drawn = 0;
      boxes = record { x = 0; y = 0; width = n; height = 0; column = 0; row = 0; owner = 0 } ∷ replicate 47 no_box;
      curves = replicate 88 no_curve;
    }

holds : Case → Bool
holds (lists w s ls) = same (listing_of w (hex s)) (fed ls)
holds (wide n ls) = same (sheet_lines (built n)) (fed ls)

cases : List Case
cases =
    lists Strict "010206000b000000010100000000" (
    "sheet 1 2 640 3072 2 0"
    ∷ "box 0 0 0 128 128 384 384"
    ∷ "box 1 0 1 128 2560 384 384"
    ∷ "path M 128 128 L 512 128 L 512 512 L 128 512 Z M 128 2560 L 512 2560 L 512 2944 L 128 2944 Z M 320 384 C 320 1536 320 1536 320 2688"
    ∷ []
    ) ∷
    lists Strict "0100" ("sheet 1 1 256 256 0 0" ∷ "path" ∷ []) ∷
    -- 0: snk[200]
    lists Strict "01010400000001c800" ("refused 12 200" ∷ []) ∷
    lists Default "01010400000001c800" (
    "sheet 1 2 3968 3328 2 0"
    ∷ "box 0 0 0 128 128 384 384"
    ∷ "box 1 0 1 128 2560 3712 640"
    ∷ "path M 128 128 L 512 128 L 512 512 L 128 512 Z M 128 2560 L 3840 2560 L 3840 3200 L 128 3200 Z M 320 384 C 320 1472 1984 1472 1984 2560"
    ∷ []
    ) ∷
    lists Strict "01" ("refused 1 0" ∷ []) ∷
    wide 8388608 ("sheet 1 1 8388608 0 1 0" ∷ "box 0 0 0 0 0 8388608 0" ∷ "path M 0 0 L 8388608 0 L 8388608 0 L 0 0 Z" ∷ []) ∷
    wide 8388609 ("sheet 1 1 8388609 0 1 0" ∷ "box 0 0 0 0 0 8388609 0" ∷ "refused 14 0" ∷ []) ∷
    []

all_hold : all_of holds cases ≡ true
unfolding holds cases chart complete joined uncut reached cutting graphed shape_of each all round first weights triples chains order first_columns heights first_moves fold_from average columns drawn sheet_of sheet sheet_of_dag sheeted sound_of curves record_of digits path_digits number_text text_of drawn_of sheet_lines listing_of
all_hold = refl
