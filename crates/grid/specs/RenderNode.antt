-- Document 01, module 8: a box, as `RenderNode::new` has it, with the constants of lib.rs; lengths are in characters (document 02, L4). Its places are those before `translate`.
-- Assumes nothing.
use Rattle.std.specs.Prelude.{ℕ, ◌+◌, ◌-◌, ◌*◌, ◌/◌, max, Bool, true, false, cond, List, [], ◌∷◌, ◌++◌, map, eqb, ltb, length}
use Rattle.std.proofs.Math.Option.{Option}
use Rattle.graph.specs.Graph.{Line, given, number, invalid, Edge, Node}
use Rattle.grid.specs.Lists.{largest, total}

-- an entry of `text`: its place, its size, its width and what is written
pub record Text : Type 0 where
  pub x : ℕ
  pub y : ℕ
  pub size : ℕ
  pub width : ℕ
  pub line : Line

-- an entry of `input_points`: its place, where it should go, and the mark
pub record Input : Type 0 where
  pub x : ℕ
  pub y : ℕ
  pub from : ℕ
  pub mark : Option ℕ

-- an entry of `output_points`
pub record Output : Type 0 where
  pub x : ℕ
  pub y : ℕ
  pub to : ℕ

pub record Drawn : Type 0 where
  pub width : ℕ
  pub height : ℕ
  pub texts : List Text
  pub inputs : List Input
  pub outputs : List Output

-- a line's length in characters; the Debug text of a node number is `#` and the number, which is below 32 where it names a given node;
-- that of a target that is no node, below 256, is followed by `(invalid)`
abbrev pub line_length : Line → ℕ
line_length (given p) = p.len
line_length (number q) = cond (ltb q 10) 2 3
line_length (invalid t) = cond (ltb t 10) 11 (cond (ltb t 100) 12 13)

abbrev pub text_length : Edge → ℕ
text_length e = e.text.len

-- INPUT_FONT_WX times the length of an end's text
abbrev pub end_width : Edge → ℕ
end_width e = 128 * text_length e

-- total_source_wx, total_sink_wx (INPUT_PAD is 0)
abbrev pub ends_width : List Edge → ℕ
ends_width es = 128 * total (map text_length es)

-- max_center_wx
abbrev pub center_width : Node → ℕ
center_width n = 256 * largest (map line_length n.lines)

-- wx as it is while the parts are laid: 2 * PAD less than the box's width
abbrev pub inner_width : Node → ℕ
inner_width n = max (max (ends_width n.sources) (ends_width n.sinks)) (center_width n) + 128

-- empty_node
abbrev pub no_width : Node → Bool
no_width n = eqb (inner_width n) 128

-- some end's text is not empty
abbrev pub written : List Edge → Bool
written es = ltb 0 (total (map text_length es))

-- the space between the ends' texts, of `free` in all
abbrev pub separation : ℕ → List Edge → ℕ
separation free [] = free / 2
separation free (e ∷ []) = free / 2
separation free (e ∷ f ∷ es) = free / length (f ∷ es)

-- where the first text begins: a single one stands in the middle
abbrev pub first_x : ℕ → List Edge → ℕ
first_x sep [] = 128
first_x sep (e ∷ []) = 128 + sep
first_x sep (e ∷ f ∷ es) = 128

-- the ends' texts: not the empty ones
abbrev pub text_if : Bool → Text → List Text → List Text
text_if true t ts = t ∷ ts
text_if false t ts = ts

abbrev pub end_texts : ℕ → ℕ → ℕ → List Edge → List Text
end_texts sep x y [] = []
end_texts sep x y (e ∷ es) =
    text_if (ltb 0 (text_length e)) (record { x = x; y = y; size = 232; width = end_width e; line = given e.text })
    (end_texts sep (x + end_width e + sep) y es)

abbrev pub inputs_at : ℕ → ℕ → ℕ → List Edge → List Input
inputs_at sep x y [] = []
inputs_at sep x y (e ∷ es) = record { x = x + end_width e / 2; y = y; from = e.to; mark = e.mark } ∷ inputs_at sep (x + end_width e + sep) y es

abbrev pub outputs_at : ℕ → ℕ → ℕ → List Edge → List Output
outputs_at sep x y [] = []
outputs_at sep x y (e ∷ es) = record { x = x + end_width e / 2; y = y; to = e.to } ∷ outputs_at sep (x + end_width e + sep) y es

-- the center's texts, the first of them with wy before it; PAD between two of them
abbrev pub line_texts : ℕ → ℕ → List Line → List Text
line_texts x wy [] = []
line_texts x wy (l ∷ ls) =
    record { x = x; y = wy + 512 - 192; size = 464; width = 256 * line_length l; line = l } ∷ line_texts x (wy + 512 + 128) ls

-- the height of so many lines
abbrev pub lines_height : List Line → ℕ
lines_height [] = 0
lines_height (l ∷ ls) = 512 * length (l ∷ ls) + 128 * length ls

-- wy at the inputs, below the sources' texts and PAD, below the lines and at the outputs
abbrev pub input_y : Node → ℕ
input_y n = cond (no_width n) 128 0

abbrev pub center_y : Node → ℕ
center_y n = input_y n + cond (written n.sources) 256 0 + 128

abbrev pub output_y : Node → ℕ
output_y n = center_y n + lines_height n.lines + cond (written n.sinks) 256 0

abbrev pub box_width : Node → ℕ
box_width n = inner_width n + 256

abbrev pub box_height : Node → ℕ
box_height n = output_y n + cond (no_width n) 128 0

abbrev pub source_gap : Node → ℕ
source_gap n = separation (inner_width n - ends_width n.sources) n.sources

abbrev pub sink_gap : Node → ℕ
sink_gap n = separation (inner_width n - ends_width n.sinks) n.sinks

abbrev pub texts_of : Node → List Text
texts_of n =
    end_texts (source_gap n) (first_x (source_gap n) n.sources) (input_y n + 256 - 48) n.sources
    ++ line_texts ((inner_width n - center_width n) / 2 + 128) (center_y n) n.lines
    ++ end_texts (sink_gap n) (first_x (sink_gap n) n.sinks) (output_y n - 48) n.sinks

unfoldable pub drawn : Node → Drawn
drawn n =
    record {
      width = box_width n;
      height = box_height n;
      texts = texts_of n;
      inputs = inputs_at (source_gap n) (first_x (source_gap n) n.sources) (input_y n) n.sources;
      outputs = outputs_at (sink_gap n) (first_x (sink_gap n) n.sinks) (output_y n) n.sinks;
    }
