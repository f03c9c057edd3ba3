-- Document 01, modules 2 and 3 from the chart's bytes, with refusal 13, in a setting (document 02, L5).
-- Assumes nothing.
use Rattle.std.specs.Prelude.{ℕ, cond, List, leb, length}
use Rattle.refusals.specs.declared.Refusal.{Refusal}
use Rattle.refusals.specs.declared.Refusal.TheVariants.{ManyBoxes}
use Rattle.chart.specs.declared.Setting.{Setting}
use Rattle.chart.specs.Chart.{Reading, ready as accepted, refusal as refused, chart}
use Rattle.graph.specs.Graph.{Graph}
use Rattle.graph.specs.Joining.{leads_of, uncut}
use Rattle.graph.specs.Cutting.{Walk, cutting}

-- the graph completed, joined and cut, and the count of cuts
pub record Dag : Type 0 where
  pub graph : Graph
  pub cuts : ℕ

-- a graph, or a refusal
pub data Graphed : Type 0 where
  ready : Dag → Graphed
  refusal : Refusal → Graphed

abbrev pub dag_of : Walk → Dag
dag_of w = record { graph = w.graph; cuts = w.cuts }

-- 13. 'A cut would make more than 48 boxes.'
abbrev pub boxed : Walk → Graphed
boxed w = cond (leb (length w.graph) 48) (ready (dag_of w)) (refusal ManyBoxes)

-- a refused chart stays refused; an accepted one is completed, joined and cut
abbrev pub drawn : Reading → Graphed
drawn (accepted ps) = boxed (cutting (uncut ps))
drawn (refused why) = refusal why

-- the graph of a chart's bytes in a setting, or the first of the refusals 1 to 13
unfoldable pub graphed : Setting → List ℕ → Graphed
unfolding chart uncut cutting
graphed w s = drawn (chart w s)

-- the leads to nothing of a chart's bytes; a refused chart has none
abbrev pub leads_read : Reading → ℕ
leads_read (accepted ps) = leads_of ps
leads_read (refused why) = 0

unfoldable pub leads_in : Setting → List ℕ → ℕ
leads_in w s = leads_read (chart w s)
