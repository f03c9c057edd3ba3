-- A sheet's record, as a caller holds it.
-- Assumes nothing.
use Rattle.std.specs.Prelude.{ℕ, ◌+◌, Bool, cond, ◌&&◌, List, leb, ltb, get_or, take, replicate, Result, Ok, Err}
use Rattle.laws.specs.Bytes.{all_of}
use Rattle.refusals.specs.declared.Refusal.{Refusal}
use Rattle.refusals.specs.declared.Refusal.TheVariants.{TooFar, NotThere}
use Rattle.grid.specs.declared.BoxRecord.{BoxRecord}
use Rattle.grid.specs.declared.Curve.{Curve}
use Rattle.grid.specs.declared.SheetRecord.{SheetRecord}

abbrev pub no_box : BoxRecord
no_box = record { x = 0; y = 0; width = 0; height = 0; column = 0; row = 0; owner = 0 }

abbrev pub no_curve : Curve
no_curve = record { x0 = 0; y0 = 0; x1 = 0; y1 = 0 }

-- a refused sheet: every field is 0
abbrev pub no_sheet : SheetRecord
no_sheet =
    record {
      width = 0;
      height = 0;
      x = 0;
      y = 0;
      columns = 0;
      rows = 0;
      cuts = 0;
      count = 0;
      drawn = 0;
      boxes = replicate 48 no_box;
      curves = replicate 88 no_curve;
    }

-- the boxes and the curves that the record has
abbrev pub boxes_of : SheetRecord → List BoxRecord
boxes_of s = take s.count s.boxes

abbrev pub curves_of : SheetRecord → List Curve
curves_of s = take s.drawn s.curves

-- not 'a position past 8388608'
abbrev pub near : ℕ → Bool
near n = leb n 8388608

-- a box's right and bottom sides, with the origin
abbrev pub box_near : ℕ → ℕ → BoxRecord → Bool
box_near x y b = near (x + b.x + b.width) && near (y + b.y + b.height)

-- a curve's two ends, with the origin
abbrev pub curve_near : ℕ → ℕ → Curve → Bool
curve_near x y c = near (x + c.x0) && near (y + c.y0) && near (x + c.x1) && near (y + c.y1)

-- 'A sheet built by a caller with a count past its arrays or a position past 8388608 is 14': whether it is none of these
unfoldable pub sound_of : SheetRecord → Bool
sound_of s =
    leb s.count 48 && leb s.drawn 88
    && all_of (box_near s.x s.y) (boxes_of s) && all_of (curve_near s.x s.y) (curves_of s)

-- box k: 14 for a sheet that is not sound, 15 for 'a box number that isn't there'
abbrev pub box_answer_of : SheetRecord → ℕ → Result BoxRecord Refusal
box_answer_of s k = cond (sound_of s) (cond (ltb k s.count) (Ok (get_or s.boxes k no_box)) (Err NotThere)) (Err TooFar)
