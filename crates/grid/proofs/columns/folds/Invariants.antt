-- `columns::folds`: one fold more at each turn.
-- Assumes nothing.
use Rattle.std.proofs.Common.{◌≡◌}
use Rattle.laws.specs.Each.{each}
use Rattle.grid.specs.Columns.{fold_from}
use Rattle.grid.proofs.columns.folds.Given as goal

abbrev pub invariant-loop-start : goal.invariant-loop-start
invariant-loop-start l = l.cols ≡ each l.initial.cols (λ x. fold_from x l.rows) l.start
