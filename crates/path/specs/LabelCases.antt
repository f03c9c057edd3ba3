-- Labels through the whole definition, from the chart's bytes: what both calls answer. One table, one computed test. The numbers are the Rust's.
-- Assumes nothing.
use Rattle.std.specs.Prelude.{ℕ, ◌+◌, ◌≡◌, refl, Bool, true, ◌&&◌, List, [], ◌∷◌, ◌++◌, take, drop, Result, Ok, Err}
use Prim.Native.String.{String}
use Rattle.laws.specs.Bytes.{ascii, hex, all_of, same}
use Rattle.laws.specs.Each.{each}
use Rattle.refusals.specs.declared.Numbers.{Numbers}
use Rattle.refusals.specs.declared.Refusal.{Refusal}
use Rattle.refusals.specs.Refusals.{numbers_of}
use Rattle.chart.specs.declared.Setting.TheVariants.{Default, Strict}
use Rattle.chart.specs.Chart.{chart as chart_of}
use Rattle.chart.specs.Text.{ending}
use Rattle.graph.specs.Shape.{shape_of}
use Rattle.graph.specs.Completion.{complete}
use Rattle.graph.specs.Joining.{joined, uncut}
use Rattle.graph.specs.Cutting.{reached, cutting}
use Rattle.graph.specs.Graphed.{graphed}
use Rattle.order.specs.Against.{all}
use Rattle.order.specs.Weights.{round, first, weights}
use Rattle.order.specs.Chains.{triples, chains, order, columns as first_columns}
use Rattle.grid.specs.Heights.{heights}
use Rattle.grid.specs.Columns.{first_moves, fold_from, average, columns}
use Rattle.grid.specs.RenderNode.{drawn}
use Rattle.grid.specs.RenderGrid.{sheet_of, sheet}
use Rattle.grid.specs.Sheeted.{sheet_of_dag, sheeted}
use Rattle.grid.specs.declared.LabelPlace.{LabelPlace}
use Rattle.grid.specs.Labelled.{Labelled, labelled, label_place_of}
use Rattle.path.specs.declared.LabelSpan.{LabelSpan}
use Rattle.path.specs.Number.{digits}
use Rattle.path.specs.Label.{Place, chart, table, text_at, stand_in, stand_ins_from, stand_ins, tabled, label_part_of, label_span_of}

abbrev refusal_of : Numbers → List ℕ
refusal_of n = n.first ∷ n.second ∷ []

-- 0 0, then place, size and width; or the refusal's two numbers
abbrev numbers : Result LabelPlace Refusal → List ℕ
numbers (Ok l) = 0 ∷ 0 ∷ l.x ∷ l.y ∷ l.size ∷ l.width ∷ []
numbers (Err why) = refusal_of (numbers_of why)

-- 0 for the chart or 1 for the table, then from where to where
abbrev spot : Place → List ℕ
spot (chart a e) = 0 ∷ a ∷ e ∷ []
spot (table a e) = 1 ∷ a ∷ e ∷ []

-- the chart's start
abbrev start : List ℕ
start = 0 ∷ 0 ∷ 0 ∷ []

-- the same of a span; refused, there is none
abbrev span_spot : Result LabelSpan Refusal → List ℕ
span_spot (Ok (LabelSpan.InChart at len)) = 0 ∷ at ∷ (at + len) ∷ []
span_spot (Ok (LabelSpan.InTable at len)) = 1 ∷ at ∷ (at + len) ∷ []
span_spot (Err why) = start

-- the stand-in table; with its last byte changed; one byte shorter; `#0` to `#31` alone; nothing
data Table : Type 0 where
  fixed wrong short old none : Table

table_of : Table → List ℕ
table_of fixed = stand_ins
table_of wrong = take 3292 stand_ins ++ (42 ∷ [])
table_of short = take 3292 stand_ins
table_of old = take 86 stand_ins
table_of none = []

data Case : Type 0 where
  -- the chart in hexadecimal, the origin, the table, the box and the label; the answer's numbers, the part and its text: in the strict setting, and in the default one
  is lead : String → ℕ → ℕ → Table → ℕ → ℕ → List ℕ → List ℕ → String → Case
  -- at origin 0 0 and with the stand-in table; the text in hexadecimal
  sign : String → ℕ → ℕ → List ℕ → List ℕ → String → Case

abbrev agree : List ℕ → List ℕ → Labelled → List ℕ → List ℕ → List ℕ → Bool
agree s t l ns ps w =
    same (numbers (label_place_of (tabled t l))) ns
    && (same (spot (label_part_of s t l)) ps && (same (span_spot (label_span_of s t l)) ps && same (text_at s t (label_part_of s t l)) w))

holds : Case → Bool
holds (is s x y t k i ns ps w) = agree (hex s) (table_of t) (labelled Strict (hex s) x y k i) ns ps (ascii w)
holds (lead s x y t k i ns ps w) = agree (hex s) (table_of t) (labelled Default (hex s) x y k i) ns ps (ascii w)
holds (sign s k i ns ps w) = agree (hex s) (table_of fixed) (labelled Strict (hex s) 0 0 k i) ns ps (hex w)

-- 0: src[0 "x"] lin["k"] snk[0 "ab"], which is cut; 0: src[0, 0 "abc"] lin["", "hi"]; eleven nodes, the last with a sink to itself
abbrev three : String
three = "01010400010101000178016b00026162"

abbrev lines : String
lines = "010104000202000000000361626300026869"

abbrev eleven : String
eleven = "010b18001b001e002100240027002a002d003000330036000000000000000000000000000000000000000000000000000000000000000000010a00"

-- with a degree sign: 0: lin["°"]; 0: lin["45°"]; 0: snk[1 "°", 1 "ab"]; 0: src[0 "°"] lin["°C", "abc"] snk[0 "0°", 0], which is cut
abbrev degree : String
degree = "0101040000010002c2b0"

abbrev angle : String
angle = "01010400000100043435c2b0"

abbrev leads : String
leads = "0102060011000000020102c2b001026162000000"

abbrev kinds : String
kinds = "010104000102020002c2b003c2b04303616263000330c2b00000"

-- with leads to nothing: 0: snk[200]; 0: src[7] snk[9]; 0: src[255] lin["k"] snk[255]; 0: snk[0, 200], of which one is cut; 0: snk[1 "a", 200 "out", 1 "b"]
abbrev missing : String
missing = "01010400000001c800"

abbrev between : String
between = "0101040001000107000900"

abbrev ends : String
ends = "01010400010101ff00016bff00"

abbrev both : String
both = "010104000000020000c800"

abbrev texts : String
texts = "010206001400000003010161c8036f7574010162000000"

-- the numbers of a refusal
abbrev refused : ℕ → ℕ → List ℕ
refused a b = a ∷ b ∷ []

cases : List Case
cases =
    -- a source's text, a line, a sink's text
    is three 0 0 fixed 0 0 (0 ∷ 0 ∷ 256 ∷ 3024 ∷ 232 ∷ 128 ∷ []) (0 ∷ 9 ∷ 10 ∷ []) "x"
    ∷ is three 0 0 fixed 0 1 (0 ∷ 0 ∷ 320 ∷ 3520 ∷ 464 ∷ 256 ∷ []) (0 ∷ 11 ∷ 12 ∷ []) "k"
    ∷ is three 0 0 fixed 0 2 (0 ∷ 0 ∷ 320 ∷ 3920 ∷ 232 ∷ 256 ∷ []) (0 ∷ 14 ∷ 16 ∷ []) "ab"
    -- the inserted boxes have a fixed text
    ∷ is three 0 0 fixed 1 0 (0 ∷ 0 ∷ 320 ∷ 6464 ∷ 464 ∷ 512 ∷ []) (1 ∷ 0 ∷ 2 ∷ []) "#0"
    ∷ is three 0 0 fixed 2 0 (0 ∷ 0 ∷ 320 ∷ 576 ∷ 464 ∷ 512 ∷ []) (1 ∷ 0 ∷ 2 ∷ []) "#0"
    ∷ is eleven 0 0 fixed 11 0 (0 ∷ 0 ∷ 320 ∷ 5696 ∷ 464 ∷ 768 ∷ []) (1 ∷ 20 ∷ 23 ∷ []) "#10"
    -- an empty source is no label, an empty line is one
    ∷ is lines 0 0 fixed 0 0 (0 ∷ 0 ∷ 512 ∷ 3024 ∷ 232 ∷ 384 ∷ []) (0 ∷ 11 ∷ 14 ∷ []) "abc"
    ∷ is lines 0 0 fixed 0 1 (0 ∷ 0 ∷ 320 ∷ 3520 ∷ 464 ∷ 0 ∷ []) (0 ∷ 15 ∷ 15 ∷ []) ""
    ∷ is lines 0 0 fixed 0 2 (0 ∷ 0 ∷ 320 ∷ 4160 ∷ 464 ∷ 512 ∷ []) (0 ∷ 16 ∷ 18 ∷ []) "hi"
    ∷ is lines 0 0 fixed 0 3 (refused 15 0) start ""
    -- 15: a label, a box that isn't there; a table that isn't the fixed texts, wherever the label's text is
    ∷ is three 0 0 fixed 0 3 (refused 15 0) start ""
    ∷ is three 0 0 fixed 1 1 (refused 15 0) start ""
    ∷ is three 0 0 fixed 3 0 (refused 15 0) start ""
    ∷ is three 0 0 fixed 99 0 (refused 15 0) start ""
    ∷ is three 0 0 wrong 0 0 (refused 15 0) start ""
    ∷ is three 0 0 wrong 1 0 (refused 15 0) start ""
    ∷ is three 0 0 short 0 0 (refused 15 0) start ""
    ∷ is three 0 0 none 0 0 (refused 15 0) start ""
    ∷ is three 0 0 old 0 0 (refused 15 0) start ""
    -- the origin is not added; 14 comes before 15
    ∷ is three 8387456 8381824 fixed 0 2 (0 ∷ 0 ∷ 320 ∷ 3920 ∷ 232 ∷ 256 ∷ []) (0 ∷ 14 ∷ 16 ∷ []) "ab"
    ∷ is three 8387457 0 fixed 0 2 (refused 14 0) start ""
    ∷ is three 0 8381825 wrong 99 0 (refused 14 0) start ""
    -- a refused chart's numbers, before 15
    ∷ is "010206000b0001000005000000010600" 0 0 fixed 0 0 (refused 12 5) start ""
    ∷ is "010206000b0001000005000000010600" 0 0 wrong 99 0 (refused 12 5) start ""
    ∷ is "01" 0 0 fixed 0 0 (refused 1 0) start ""
    -- the empty chart has no label; 14 by the origin comes first
    ∷ is "" 0 0 fixed 0 0 (refused 15 0) start ""
    ∷ is "" 8388352 0 fixed 0 0 (refused 15 0) start ""
    ∷ is "" 8388353 0 fixed 0 0 (refused 14 0) start ""
    -- degree signs: the width is by characters, the part has both bytes
    ∷ sign degree 0 0 (0 ∷ 0 ∷ 320 ∷ 576 ∷ 464 ∷ 256 ∷ []) (0 ∷ 8 ∷ 10 ∷ []) "c2b0"
    ∷ sign angle 0 0 (0 ∷ 0 ∷ 320 ∷ 576 ∷ 464 ∷ 768 ∷ []) (0 ∷ 8 ∷ 12 ∷ []) "3435c2b0"
    ∷ sign leads 0 0 (0 ∷ 0 ∷ 256 ∷ 464 ∷ 232 ∷ 128 ∷ []) (0 ∷ 11 ∷ 13 ∷ []) "c2b0"
    ∷ sign leads 0 1 (0 ∷ 0 ∷ 512 ∷ 464 ∷ 232 ∷ 256 ∷ []) (0 ∷ 15 ∷ 17 ∷ []) "6162"
    ∷ sign kinds 0 0 (0 ∷ 0 ∷ 256 ∷ 3024 ∷ 232 ∷ 128 ∷ []) (0 ∷ 9 ∷ 11 ∷ []) "c2b0"
    ∷ sign kinds 0 1 (0 ∷ 0 ∷ 320 ∷ 3520 ∷ 464 ∷ 512 ∷ []) (0 ∷ 12 ∷ 15 ∷ []) "c2b043"
    ∷ sign kinds 0 2 (0 ∷ 0 ∷ 320 ∷ 4160 ∷ 464 ∷ 768 ∷ []) (0 ∷ 16 ∷ 19 ∷ []) "616263"
    ∷ sign kinds 0 3 (0 ∷ 0 ∷ 256 ∷ 4560 ∷ 232 ∷ 256 ∷ []) (0 ∷ 21 ∷ 24 ∷ []) "30c2b0"
    ∷ sign kinds 0 4 (refused 15 0) start ""
    ∷ sign "0101040000010001c2" 0 0 (refused 9 0) start ""
    ∷ sign "0101040000010002c2" 0 0 (refused 6 0) start ""
    -- leads to parts taken out: the box of a sink to 200; a box or a label that isn't there, and a wrong table
    ∷ lead missing 0 0 fixed 1 0 (0 ∷ 0 ∷ 320 ∷ 3008 ∷ 464 ∷ 3328 ∷ []) (1 ∷ 2565 ∷ 2578 ∷ []) "#200(invalid)"
    ∷ lead missing 0 0 fixed 1 1 (refused 15 0) start ""
    ∷ lead missing 0 0 fixed 2 0 (refused 15 0) start ""
    ∷ lead missing 0 0 wrong 1 0 (refused 15 0) start ""
    ∷ lead missing 0 0 old 1 0 (refused 15 0) start ""
    -- the box of a source from 200; of a sink to 1, the box's own number; two leads to 2 have two boxes
    ∷ lead "01010400010000c800" 0 0 fixed 1 0 (0 ∷ 0 ∷ 320 ∷ 576 ∷ 464 ∷ 3328 ∷ []) (1 ∷ 2565 ∷ 2578 ∷ []) "#200(invalid)"
    ∷ lead "010104000000010100" 0 0 fixed 1 0 (0 ∷ 0 ∷ 320 ∷ 3008 ∷ 464 ∷ 2816 ∷ []) (1 ∷ 86 ∷ 97 ∷ []) "#1(invalid)"
    ∷ lead "010206000b0000000102000000010200" 0 0 fixed 2 0 (0 ∷ 0 ∷ 4544 ∷ 3008 ∷ 464 ∷ 2816 ∷ []) (1 ∷ 97 ∷ 108 ∷ []) "#2(invalid)"
    ∷ lead "010206000b0000000102000000010200" 0 0 fixed 3 0 (0 ∷ 0 ∷ 320 ∷ 3008 ∷ 464 ∷ 2816 ∷ []) (1 ∷ 97 ∷ 108 ∷ []) "#2(invalid)"
    -- a node's sinks come before its sources
    ∷ lead between 0 0 fixed 1 0 (0 ∷ 0 ∷ 320 ∷ 5696 ∷ 464 ∷ 2816 ∷ []) (1 ∷ 174 ∷ 185 ∷ []) "#9(invalid)"
    ∷ lead between 0 0 fixed 2 0 (0 ∷ 0 ∷ 320 ∷ 576 ∷ 464 ∷ 2816 ∷ []) (1 ∷ 152 ∷ 163 ∷ []) "#7(invalid)"
    -- both ends to 255, the last text of the table; the node keeps its line
    ∷ lead ends 0 0 fixed 0 0 (0 ∷ 0 ∷ 320 ∷ 3264 ∷ 464 ∷ 256 ∷ []) (0 ∷ 10 ∷ 11 ∷ []) "k"
    ∷ lead ends 0 0 fixed 1 0 (0 ∷ 0 ∷ 320 ∷ 5952 ∷ 464 ∷ 3328 ∷ []) (1 ∷ 3280 ∷ 3293 ∷ []) "#255(invalid)"
    ∷ lead ends 0 0 fixed 2 0 (0 ∷ 0 ∷ 320 ∷ 576 ∷ 464 ∷ 3328 ∷ []) (1 ∷ 3280 ∷ 3293 ∷ []) "#255(invalid)"
    -- the leads' boxes come before the cut's
    ∷ lead both 0 0 fixed 1 0 (0 ∷ 0 ∷ 2240 ∷ 5696 ∷ 464 ∷ 3328 ∷ []) (1 ∷ 2565 ∷ 2578 ∷ []) "#200(invalid)"
    ∷ lead both 0 0 fixed 2 0 (0 ∷ 0 ∷ 320 ∷ 5696 ∷ 464 ∷ 512 ∷ []) (1 ∷ 0 ∷ 2 ∷ []) "#0"
    ∷ lead both 0 0 fixed 3 0 (0 ∷ 0 ∷ 320 ∷ 576 ∷ 464 ∷ 512 ∷ []) (1 ∷ 0 ∷ 2 ∷ []) "#0"
    -- the lead's text stays at its node
    ∷ lead texts 0 0 fixed 0 1 (0 ∷ 0 ∷ 448 ∷ 464 ∷ 232 ∷ 384 ∷ []) (0 ∷ 14 ∷ 17 ∷ []) "out"
    ∷ lead texts 0 0 fixed 2 0 (0 ∷ 0 ∷ 2368 ∷ 3008 ∷ 464 ∷ 3328 ∷ []) (1 ∷ 2565 ∷ 2578 ∷ []) "#200(invalid)"
    -- strict refuses them, by the first target
    ∷ is missing 0 0 fixed 1 0 (refused 12 200) start ""
    ∷ is between 0 0 fixed 1 0 (refused 12 9) start ""
    ∷ is between 0 0 none 0 0 (refused 12 9) start ""
    ∷ []

all_hold : all_of holds cases ≡ true
unfolding holds cases table_of ending stand_ins stand_ins_from stand_in digits chart_of complete joined uncut reached cutting graphed shape_of each all round first weights triples chains order first_columns heights first_moves fold_from average columns drawn sheet_of sheet sheet_of_dag sheeted labelled
all_hold = refl

-- the stand-in table
stand_ins-begin : take 97 stand_ins ≡ ascii "#0#1#2#3#4#5#6#7#8#9#10#11#12#13#14#15#16#17#18#19#20#21#22#23#24#25#26#27#28#29#30#31#1(invalid)"
unfolding stand_ins stand_ins_from stand_in digits
stand_ins-begin = refl

stand_ins-end : drop 3267 stand_ins ≡ ascii "#254(invalid)#255(invalid)"
unfolding stand_ins stand_ins_from stand_in digits
stand_ins-end = refl
