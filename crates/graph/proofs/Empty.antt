-- Document 02, L1: a chart of no byte has the graph of 01 00, without a node.
-- Assumes nothing.
use mathlib.Core.Path.{◌≡◌, refl, ap}
use mathlib.Core.List.{[], ◌∷◌}
use Rattle.chart.specs.declared.Setting.{Setting}
use Rattle.chart.specs.declared.Setting.TheVariants.{Default, Strict}
use Rattle.chart.specs.Chart.{chart}
use Rattle.chart.proofs.Empty.{empty-chart}
use Rattle.graph.specs.Completion.{complete}
use Rattle.graph.specs.Joining.{joined, uncut}
use Rattle.graph.specs.Cutting.{cutting}
use Rattle.graph.specs.Graphed.{ready, drawn, graphed}
use Rattle.graph.specs.Completed.{completing, completed}

-- 'the same answer as 01 00'
pub empty-graph : (w : Setting) → graphed w [] ≡ graphed w (1 ∷ 0 ∷ [])
unfolding graphed
empty-graph w = ap drawn (empty-chart w)

pub empty-completed : completed [] ≡ completed (1 ∷ 0 ∷ [])
unfolding completed
empty-completed = ap completing (empty-chart Strict)

pub no_node : (w : Setting) → graphed w [] ≡ ready (record { graph = []; cuts = 0 })
unfolding chart complete joined uncut cutting graphed
no_node Default = refl
no_node Strict = refl
