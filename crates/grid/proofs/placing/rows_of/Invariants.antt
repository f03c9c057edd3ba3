-- `placing::rows_of`: the first k boxes are placed.
-- Assumes nothing.
use Rattle.std.proofs.Common.{◌≡◌}
use Rattle.laws.specs.Each.{each}
use Rattle.grid.specs.Cells.{no_cells, placed}
use Rattle.grid.proofs.placing.rows_of.Given as goal

abbrev pub invariant-loop-k : goal.invariant-loop-k
invariant-loop-k l = l.grid ≡ each no_cells (placed l.boxes) l.k
