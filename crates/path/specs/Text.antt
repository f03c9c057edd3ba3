-- The text of a segment and of a list of segments.
use Rattle.std.specs.Prelude.{List, [], ◌∷◌, ◌++◌, ℕ, ◌≤◌}
use Rattle.path.specs.declared.drawn.Drawn.{Drawn}
use Rattle.path.specs.declared.drawn.Drawn.TheVariants.{Move, Line, Cubic, Close}
use Rattle.path.specs.Number.{limit_halves, number_text}

-- 'M or L and two numbers, C and six, Z and none'
abbrev pub letter_of : Drawn → ℕ
letter_of (Move x y) = 77
letter_of (Line x y) = 76
letter_of (Cubic a b c d x y) = 67
letter_of Close = 90

abbrev pub numbers_of : Drawn → List ℕ
numbers_of (Move x y) = x ∷ y ∷ []
numbers_of (Line x y) = x ∷ y ∷ []
numbers_of (Cubic a b c d x y) = a ∷ b ∷ c ∷ d ∷ x ∷ y ∷ []
numbers_of Close = []

-- 'one space between all'
abbrev pub numbers_text : List ℕ → List ℕ
numbers_text [] = []
numbers_text (h ∷ hs) = 32 ∷ number_text h ++ numbers_text hs

-- two numbers, a space before each
abbrev pub pair_text : ℕ → ℕ → List ℕ
pair_text x y = numbers_text (x ∷ y ∷ [])

abbrev pub segment_text : Drawn → List ℕ
segment_text d = letter_of d ∷ numbers_text (numbers_of d)

-- segments after another one, each with the space before it
abbrev pub rest_text : List Drawn → List ℕ
rest_text [] = []
rest_text (d ∷ ds) = 32 ∷ segment_text d ++ rest_text ds

-- 'Empty text is an empty path'
unfoldable pub text_of : List Drawn → List ℕ
text_of [] = []
text_of (d ∷ ds) = segment_text d ++ rest_text ds

-- ---- the segments that the profile has: numbers at most the limit, and a move first
pub data Small : List ℕ → Type 0 where
  none : Small []
  more : {h : ℕ} {hs : List ℕ} → h ≤ limit_halves → Small hs → Small (h ∷ hs)

pub data Smalls : List Drawn → Type 0 where
  none : Smalls []
  more : {d : Drawn} {ds : List Drawn} → Small (numbers_of d) → Smalls ds → Smalls (d ∷ ds)

pub data Led : List Drawn → Type 0 where
  none : Led []
  move : {x y : ℕ} {ds : List Drawn} → Led (Move x y ∷ ds)
