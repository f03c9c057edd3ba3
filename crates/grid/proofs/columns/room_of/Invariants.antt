-- `columns::room_of`: what it has, and what the boxes that are left leave free, is what all do.
-- Assumes nothing.
use Rattle.std.specs.Iterator.Adapters.{zip_first, zip_second}
use Rattle.std.specs.Slice.Iter.{iter_rest}
use Rattle.grid.proofs.AverageLaws.{Open}
use Rattle.grid.proofs.columns.room_of.Given as goal

abbrev pub invariant-loop-y : goal.invariant-loop-y
invariant-loop-y l = Open l.r l.x l.rows l.cols (iter_rest (zip_first l.y-iterator)) (iter_rest (zip_second l.y-iterator)) l.low l.next
