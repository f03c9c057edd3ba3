-- A sheet's segments by number, as the code has them: in whole numbers, the origin added. (`Segments` is the meaning; `by_number` of proofs/Sheets.antt
-- shows that this is it.)
-- Assumes nothing.
use Rattle.std.specs.Prelude.{◌≡◌, true, length, cond, List, ◌∷◌, ℕ, zero, suc, ◌+◌, ◌-◌, ◌*◌, ◌/◌, ◌%◌, ◌≤◌, ltb, get_or}
use Rattle.grid.specs.declared.BoxRecord.{BoxRecord}
use Rattle.grid.specs.declared.Curve.{Curve}
use Rattle.grid.specs.declared.SheetRecord.{SheetRecord}
use Rattle.grid.specs.Record.{no_box, no_curve, sound_of}
use Rattle.path.specs.declared.drawn.Drawn.{Drawn}
use Rattle.path.specs.declared.drawn.Drawn.TheVariants.{Move, Line, Cubic, Close}
use Rattle.path.specs.declared.stroke.Stroke.{Stroke}
use Rattle.path.specs.declared.stroke.Stroke.TheVariants.{Move as move, Line as line, Curve as curve, Close as close}
use Rattle.path.specs.Number.{limit}
use Rattle.path.specs.Text.{segment_text}

abbrev pub doubled_of : Stroke → Drawn
doubled_of (move x y) = Move (2 * x) (2 * y)
doubled_of (line x y) = Line (2 * x) (2 * y)
doubled_of (curve x0 y0 x1 y1) = Cubic (2 * x0) (y0 + y1) (2 * x1) (y0 + y1) (2 * x1) (2 * y1)
doubled_of close = Close

-- no position is past the limit
abbrev pub InReach : Stroke → Type 0
InReach (move x y) = (x ≤ limit) × (y ≤ limit)
InReach (line x y) = (x ≤ limit) × (y ≤ limit)
InReach (curve x0 y0 x1 y1) = (x0 ≤ limit) × (y0 ≤ limit) × (x1 ≤ limit) × (y1 ≤ limit)
InReach close = Unit {0}

abbrev pub box_stroke : ℕ → ℕ → BoxRecord → ℕ → Stroke
box_stroke x y b zero = move (x + b.x) (y + b.y)
box_stroke x y b (suc zero) = line (x + b.x + b.width) (y + b.y)
box_stroke x y b (suc (suc zero)) = line (x + b.x + b.width) (y + b.y + b.height)
box_stroke x y b (suc (suc (suc zero))) = line (x + b.x) (y + b.y + b.height)
box_stroke x y b (suc (suc (suc (suc k)))) = close

abbrev pub curve_stroke : ℕ → ℕ → Curve → ℕ → Stroke
curve_stroke x y c zero = move (x + c.x0) (y + c.y0)
curve_stroke x y c (suc k) = curve (x + c.x0) (y + c.y0) (x + c.x1) (y + c.y1)

-- a sound sheet; its arrays are as long as their types say
abbrev pub IsSound : SheetRecord → Type 0
IsSound s = (sound_of s ≡ true) × (length s.boxes ≡ 48) × (length s.curves ≡ 88)

-- t is segment k of ds, and no position of it is past the limit
pub record IsStroke (ds : List Drawn) (k : ℕ) (t : Stroke) : Type 0 where
  pub same : doubled_of t ≡ get_or ds k (Move 0 0)
  pub reach : InReach t

-- five a box, two a curve
abbrev pub size_of : SheetRecord → ℕ
size_of s = 5 * s.count + 2 * s.drawn

abbrev pub stroke_at : SheetRecord → ℕ → Stroke
stroke_at s k =
    cond (ltb k (5 * s.count)) (box_stroke s.x s.y (get_or s.boxes (k / 5) no_box) (k % 5))
    (curve_stroke s.x s.y (get_or s.curves ((k - 5 * s.count) / 2) no_curve) ((k - 5 * s.count) % 2))

-- segment k with the space before it, if one stands before it
abbrev pub next_text : ℕ → Drawn → List ℕ
next_text zero d = segment_text d
next_text (suc k) d = 32 ∷ segment_text d
