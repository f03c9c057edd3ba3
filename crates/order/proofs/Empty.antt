-- Document 02, L1: a chart of no byte has the columns of 01 00, in each setting.
-- Assumes nothing.
use mathlib.Core.Path.{◌≡◌, ap}
use mathlib.Core.List.{[], ◌∷◌}
use Rattle.chart.specs.declared.Setting.{Setting}
use Rattle.graph.proofs.Empty.{empty-graph}
use Rattle.order.specs.Ordered.{drawn, ordered}

-- 'the same answer as 01 00'
pub empty-order : (w : Setting) → ordered w [] ≡ ordered w (1 ∷ 0 ∷ [])
unfolding ordered
empty-order w = ap drawn (empty-graph w)
