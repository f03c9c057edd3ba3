-- `columns::rename`: one box more goes by the table at each turn.
-- Assumes nothing.
use Rattle.std.proofs.Common.{◌≡◌, ◌++◌, map, take, drop}
use Rattle.grid.specs.Columns.{at}
use Rattle.grid.proofs.columns.rename.Given as goal

abbrev pub invariant-loop-x : goal.invariant-loop-x
invariant-loop-x l = l.cols ≡ map (at l.table) (take l.x-index l.initial.cols) ++ drop l.x-index l.initial.cols
