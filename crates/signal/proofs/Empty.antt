-- Document 02, L1: a chart of no byte has the signal order of 01 00, without a node.
-- Assumes nothing.
use mathlib.Core.Path.{◌≡◌, refl, ap}
use mathlib.Core.List.{[], ◌∷◌}
use Rattle.laws.specs.Each.{each}
use Rattle.chart.specs.declared.Setting.TheVariants.{Strict}
use Rattle.chart.specs.Chart.{chart}
use Rattle.chart.proofs.Empty.{empty-chart}
use Rattle.graph.specs.Completion.{complete}
use Rattle.graph.specs.Shape.{shape_of}
use Rattle.signal.specs.Signal.{ordered, listed, signals, signal}

-- 'the same answer as 01 00'
pub empty-signal : signal [] ≡ signal (1 ∷ 0 ∷ [])
unfolding signal
empty-signal = ap signals (empty-chart Strict)

pub nothing-listed : signal [] ≡ ordered []
unfolding each chart complete shape_of listed signal
nothing-listed = refl
