-- `columns::used_columns`: the boxes met, and those that are left.
-- Assumes nothing.
use Rattle.std.specs.Iterator.Adapters.{zip_first, zip_second}
use Rattle.std.specs.Slice.Iter.{iter_rest}
use Rattle.grid.proofs.UsedLaws.{Whole, Left}
use Rattle.grid.proofs.columns.used_columns.Given as goal

abbrev pub invariant-loop-r : goal.invariant-loop-r
invariant-loop-r l = Whole l.used × Left l.rows l.cols (iter_rest (zip_first l.r-iterator)) (iter_rest (zip_second l.r-iterator)) l.used
