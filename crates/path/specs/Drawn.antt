-- A segment over doubled whole numbers, and the segment that it is in single precision.
use Rattle.std.specs.Prelude.{false, List, ℕ, ◌≤◌}
use Rattle.std.specs.Float.Ieee.Exact.{HasValue}
use Rattle.laws.specs.Lists.{All}
use Rattle.path.specs.Halves.{halves}
use Rattle.path.specs.Number.{limit_halves}
use Rattle.path.specs.Text.{numbers_of}
use Rattle.path.specs.declared.drawn.Drawn.{Drawn}
use Rattle.path.specs.declared.drawn.Drawn.TheVariants.{Move, Line, Cubic, Close}
use Rattle.path.specs.declared.Pen.{Pen}
use Rattle.path.specs.declared.Segment.{Segment}
use Rattle.path.specs.declared.Segment.TheVariants.{Move as move, Line as line, Cubic as cubic, Close as close}

-- 'A pen position is a pair of single-precision numbers'
abbrev pub pen_of : ℕ → ℕ → Pen
pen_of x y = record { x = halves x; y = halves y }

abbrev pub segment_of : Drawn → Segment
segment_of (Move x y) = move (pen_of x y)
segment_of (Line x y) = line (pen_of x y)
segment_of (Cubic a b c d x y) = cubic (pen_of a b) (pen_of c d) (pen_of x y)
segment_of Close = close

-- the single-precision number is h / 2, not rounded
abbrev pub Exactly : ℕ → Type 0
Exactly h = HasValue (halves h) false h 2

abbrev pub ExactAll : List Drawn → Type 0
ExactAll ds = All (λ (d : Drawn). All Exactly (numbers_of d)) ds

-- no number is above the limit
abbrev pub InRange : Drawn → Type 0
InRange (Move x y) = (x ≤ limit_halves) × (y ≤ limit_halves)
InRange (Line x y) = (x ≤ limit_halves) × (y ≤ limit_halves)
InRange (Cubic a b c d x y) = (a ≤ limit_halves) × (b ≤ limit_halves) × (c ≤ limit_halves) × (d ≤ limit_halves) × (x ≤ limit_halves) × (y ≤ limit_halves)
InRange Close = Unit {0}
