-- 'A label is an entry of its box's `text`, numbered from 0 in that order.'
-- Assumes nothing.
use Rattle.std.specs.Prelude.{ℕ, zero, suc, ◌+◌, cond, List, [], ◌∷◌, eqb, get_or, Option, Some, None}
use Rattle.graph.specs.Graph.{Line, given, number, invalid}
use Rattle.grid.specs.declared.LabelPlace.{LabelPlace}
use Rattle.grid.specs.declared.TextPlace.TheVariants.{InChart, InTable}
use Rattle.grid.specs.RenderNode.{Text}
use Rattle.grid.specs.RenderGrid.{Sheet}
use Rattle.grid.specs.Curves.{no_outputs}

-- how wide each character of a label is, by the label's size
abbrev pub character_width : ℕ → ℕ
character_width size = cond (eqb size 232) 128 256

-- a part of the chart, or one of the fixed texts: `#0` to `#31`, and `#1(invalid)` to `#255(invalid)` 'after `#31`'
abbrev pub place_for : ℕ → ℕ → ℕ → ℕ → Line → LabelPlace
place_for x y size width (given p) = record { x = x; y = y; size = size; width = width; text = InChart p.at p.len }
place_for x y size width (number q) = record { x = x; y = y; size = size; width = width; text = InTable q }
place_for x y size width (invalid t) = record { x = x; y = y; size = size; width = width; text = InTable (t + 31) }

abbrev pub place_of : Text → LabelPlace
place_of t = place_for t.x t.y t.size t.width t.line

-- entry i of the texts, if there is one
abbrev pub label_at : List Text → ℕ → Option LabelPlace
label_at [] i = None
label_at (t ∷ ts) zero = Some (place_of t)
label_at (t ∷ ts) (suc i) = label_at ts i

-- label i of box k of the sheet, if it is there
abbrev pub label_of : Sheet → ℕ → ℕ → Option LabelPlace
label_of s k i = label_at (get_or s.boxes k no_outputs).texts i
