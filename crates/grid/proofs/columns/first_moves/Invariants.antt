-- `columns::first_moves`: one node more at each turn, the columns as moved so far.
-- Assumes nothing.
use Rattle.std.proofs.Common.{◌≡◌}
use Rattle.laws.specs.Each.{each}
use Rattle.grid.specs.Columns.{first_move}
use Rattle.grid.proofs.columns.first_moves.Given as goal

abbrev pub invariant-loop-p : goal.invariant-loop-p
invariant-loop-p l = l.cols ≡ each l.initial.cols (first_move l.leads l.rows) l.p
