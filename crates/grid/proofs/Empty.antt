-- Document 02, L1: a chart of no byte has the sheet and the labels of 01 00, in each setting.
-- Assumes nothing.
use Prim.Native.Nat.{ℕ}
use mathlib.Core.Path.{◌≡◌, refl, ap, ◌∙◌}
use mathlib.Core.Bool.{cond, ◌&&◌}
use mathlib.Core.List.{[], ◌∷◌}
use Rattle.laws.specs.Each.{each}
use Rattle.laws.proofs.Tests.{pick-through}
use Rattle.chart.specs.declared.Setting.{Setting}
use Rattle.graph.specs.Shape.{shape_of}
use Rattle.graph.proofs.Empty.{empty-graph, no_node}
use Rattle.order.specs.Chains.{columns as first_columns}
use Rattle.grid.specs.Heights.{heights}
use Rattle.grid.specs.Columns.{first_moves, fold_from, average, columns}
use Rattle.grid.specs.RenderGrid.{Sheet, sheet_of, sheet}
use Rattle.refusals.specs.declared.Refusal.TheVariants.{TooFar, NotThere}
use Rattle.grid.specs.Sheeted.{ready, refusal, within, fitted, drawn, sheet_of_dag, sheeted}
use Rattle.grid.specs.Labelled.{refusal as unlabelled, label_on, labelled}

-- 'A chart of length 0 now means the empty sheet, the same answer as 01 00.'
pub empty-sheet : (w : Setting) (x y : ℕ) → sheeted w [] x y ≡ sheeted w (1 ∷ 0 ∷ []) x y
unfolding sheeted
empty-sheet w x y = ap (drawn x y) (empty-graph w)

pub empty_label : (w : Setting) (x y k i : ℕ) → labelled w [] x y k i ≡ labelled w (1 ∷ 0 ∷ []) x y k i
unfolding labelled
empty_label w x y k i = ap (label_on k i) (empty-sheet w x y)

-- 'An empty chart has one empty cell'; its sides are two margins
abbrev unboxed : Sheet
unboxed = record { columns = 1; rows = 1; width = 256; height = 256; cuts = 0; boxes = [] }

without_nodes : sheet_of_dag (record { graph = []; cuts = 0 }) ≡ unboxed
unfolding each shape_of first_columns heights first_moves fold_from average columns sheet_of sheet sheet_of_dag
without_nodes = refl

-- that sheet, or 14 by the origin
pub no_box : (w : Setting) (x y : ℕ) → sheeted w [] x y ≡ cond (within x 256 && within y 256) (ready unboxed) (refusal TooFar)
unfolding sheeted
no_box w x y = ap (drawn x y) (no_node w) ∙ ap (fitted x y) without_nodes

-- no label is there: 15, after 14
pub no_label : (w : Setting) (x y k i : ℕ) → labelled w [] x y k i ≡ cond (within x 256 && within y 256) (unlabelled NotThere) (unlabelled TooFar)
unfolding labelled
no_label w x y k i = ap (label_on k i) (no_box w x y) ∙ pick-through (label_on k i) (within x 256 && within y 256) (ready unboxed) (refusal TooFar)
