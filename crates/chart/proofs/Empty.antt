-- Document 02, L1: a chart of no byte, and of one.
-- Assumes nothing.
use Prim.Native.Nat.{ℕ}
use mathlib.Core.Path.{◌≡◌, refl}
use mathlib.Core.List.{[], ◌∷◌}
use Rattle.refusals.specs.declared.Refusal.TheVariants.{OneByte}
use Rattle.chart.specs.declared.Setting.{Setting}
use Rattle.chart.specs.declared.Setting.TheVariants.{Default, Strict}
use Rattle.chart.specs.Chart.{refusal, chart}

-- 'the same answer as 01 00'
pub empty-chart : (w : Setting) → chart w [] ≡ chart w (1 ∷ 0 ∷ [])
unfolding chart
empty-chart Default = refl
empty-chart Strict = refl

-- 'Refusal 1 is left for a chart of one byte.'
pub one_byte : (w : Setting) (b : ℕ) → chart w (b ∷ []) ≡ refusal OneByte
unfolding chart
one_byte w b = refl
