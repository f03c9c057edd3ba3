-- The segments of a sheet, in doubled whole numbers (halves).
-- Assumes nothing.
use Rattle.std.specs.Prelude.{List, [], ◌∷◌, ◌++◌, ℕ, ◌+◌, ◌*◌}
use Rattle.grid.specs.declared.BoxRecord.{BoxRecord}
use Rattle.grid.specs.declared.Curve.{Curve}
use Rattle.grid.specs.declared.SheetRecord.{SheetRecord}
use Rattle.grid.specs.Record.{boxes_of, curves_of}
use Rattle.path.specs.declared.drawn.Drawn.{Drawn}
use Rattle.path.specs.declared.drawn.Drawn.TheVariants.{Move, Line, Cubic, Close}

-- 'boxes by rising number: move to its top left, lines clockwise, close'; the origin x y is added
abbrev pub box_drawn : ℕ → ℕ → BoxRecord → List Drawn
box_drawn x y b =
    Move (2 * (x + b.x)) (2 * (y + b.y))
    ∷ Line (2 * (x + b.x + b.width)) (2 * (y + b.y))
    ∷ Line (2 * (x + b.x + b.width)) (2 * (y + b.y + b.height))
    ∷ Line (2 * (x + b.x)) (2 * (y + b.y + b.height))
    ∷ Close
    ∷ []

-- 'move to the output point, cubic to the input point, controls at both x with y halfway': halfway between two heights is half their sum
abbrev pub curve_drawn : ℕ → ℕ → Curve → List Drawn
curve_drawn x y c =
    Move (2 * (x + c.x0)) (2 * (y + c.y0))
    ∷ Cubic (2 * (x + c.x0)) (y + c.y0 + (y + c.y1)) (2 * (x + c.x1)) (y + c.y0 + (y + c.y1)) (2 * (x + c.x1)) (2 * (y + c.y1))
    ∷ []

-- the segments of each, one after the other
abbrev pub joined : {A : Type 0} → (A → List Drawn) → List A → List Drawn
joined f [] = []
joined f (a ∷ l) = f a ++ joined f l

-- all boxes, then all curves
unfoldable pub drawn_of : SheetRecord → List Drawn
drawn_of s = joined (box_drawn s.x s.y) (boxes_of s) ++ joined (curve_drawn s.x s.y) (curves_of s)
