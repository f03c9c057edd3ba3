-- `columns::average_all`: one node more at each turn, the columns as moved so far.
-- Assumes nothing.
use Rattle.std.proofs.Common.{◌≡◌}
use Rattle.laws.specs.Each.{each}
use Rattle.grid.specs.Columns.{average_one}
use Rattle.grid.proofs.columns.average_all.Given as goal

abbrev pub invariant-loop-p : goal.invariant-loop-p
invariant-loop-p l = l.cols ≡ each l.initial.cols (average_one l.leads l.rows) l.p
