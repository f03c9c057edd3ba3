-- Document 01, module 9: which output each input point is joined to.
-- Assumes nothing.
use Rattle.std.specs.Prelude.{ℕ, zero, suc, cond, List, [], ◌∷◌, ◌++◌, map, eqb, length, get_or}
use Rattle.std.proofs.Math.Option.{Option, none, some}
use Rattle.laws.specs.Lists.{padded}
use Rattle.grid.specs.declared.BoxRecord.{BoxRecord}
use Rattle.grid.specs.declared.Curve.{Curve}
use Rattle.grid.specs.declared.SheetRecord.{SheetRecord}
use Rattle.grid.specs.RenderNode.{Input, Output}
use Rattle.grid.specs.RenderGrid.{Box, Sheet}
use Rattle.grid.specs.Record.{no_box, no_curve}

-- the output with a number
abbrev pub output_at : List Output → ℕ → Option Output
output_at [] m = none
output_at (o ∷ os) zero = some o
output_at (o ∷ os) (suc m) = output_at os m

-- the first output that leads to box k
abbrev pub first_to : List Output → ℕ → Option Output
first_to [] k = none
first_to (o ∷ os) k = cond (eqb o.to k) (some o) (first_to os k)

-- 'The output is the marked one; unmarked, the source's first that leads here'
abbrev pub output_for : Option ℕ → List Output → ℕ → Option Output
output_for (some m) os k = output_at os m
output_for none os k = first_to os k

-- 'if there is none, nothing is drawn'
abbrev pub curve_if : Option Output → Input → List Curve
curve_if none i = []
curve_if (some o) i = record { x0 = o.x; y0 = o.y; x1 = i.x; y1 = i.y } ∷ []

abbrev pub no_outputs : Box
no_outputs = record { column = 0; row = 0; x = 0; y = 0; width = 0; height = 0; owner = 0; texts = []; inputs = []; outputs = [] }

-- 'per input point' of box k, of all boxes bs
abbrev pub curves_to : List Box → ℕ → List Input → List Curve
curves_to bs k [] = []
curves_to bs k (i ∷ is) = curve_if (output_for i.mark (get_or bs i.from no_outputs).outputs k) i ++ curves_to bs k is

-- 'per box': the boxes from number k on
abbrev pub curves_from : List Box → ℕ → List Box → List Curve
curves_from bs k [] = []
curves_from bs k (b ∷ rest) = curves_to bs k b.inputs ++ curves_from bs (suc k) rest

unfoldable pub curves : Sheet → List Curve
curves s = curves_from s.boxes 0 s.boxes

-- ---- the sheet's record, at an origin
abbrev pub box_record : Box → BoxRecord
box_record b = record { x = b.x; y = b.y; width = b.width; height = b.height; column = b.column; row = b.row; owner = b.owner }

-- every field, past the counts too
unfoldable pub record_of : Sheet → ℕ → ℕ → SheetRecord
record_of s x y =
    record {
      width = s.width;
      height = s.height;
      x = x;
      y = y;
      columns = s.columns;
      rows = s.rows;
      cuts = s.cuts;
      count = length s.boxes;
      drawn = length (curves s);
      boxes = padded 48 no_box (map box_record s.boxes);
      curves = padded 88 no_curve (curves s);
    }
