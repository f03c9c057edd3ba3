-- A segment over doubled whole numbers as a command of SVG: absolute, its numbers' values the same.
use Rattle.std.specs.Prelude.{◌≡◌, false, List, [], ◌∷◌, ℕ, ◌*◌}
use Rattle.path.specs.declared.drawn.Drawn.{Drawn}
use Rattle.path.specs.declared.drawn.Drawn.TheVariants.{Move, Line, Cubic, Close}
use Rattle.path.specs.Svg.{Value, Command, moveTo, lineTo, curve_to, close_path}

-- v is h / 2
pub record IsHalf (v : Value) (h : ℕ) : Type 0 where
  pub positive : v.minus ≡ false
  pub same : v.over * 2 ≡ h * v.under

pub data Means : Command → Drawn → Type 0 where
  move : {x y : Value} {a b : ℕ} → IsHalf x a → IsHalf y b → Means (moveTo false x y) (Move a b)
  line : {x y : Value} {a b : ℕ} → IsHalf x a → IsHalf y b → Means (lineTo false x y) (Line a b)
  cubic : {t u v w x y : Value} {a b c d e f : ℕ} → IsHalf t a → IsHalf u b → IsHalf v c → IsHalf w d → IsHalf x e → IsHalf y f → Means (curve_to false t u v w x y) (Cubic a b c d e f)
  close : Means close_path Close

pub data MeanAll : List Command → List Drawn → Type 0 where
  none : MeanAll [] []
  more : {c : Command} {d : Drawn} {cs : List Command} {ds : List Drawn} → Means c d → MeanAll cs ds → MeanAll (c ∷ cs) (d ∷ ds)
