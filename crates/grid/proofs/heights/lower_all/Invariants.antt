-- `heights::lower_all`: one row more at each turn.
-- Assumes nothing.
use Rattle.std.proofs.Common.{◌≡◌, length, take}
use Rattle.grid.specs.Heights.{lowered}
use Rattle.grid.specs.code.Walk.{raised, reached_in, rows_of}
use Rattle.grid.proofs.heights.lower_all.Given as goal

abbrev pub invariant-loop-k : goal.invariant-loop-k
invariant-loop-k l = rows_of l.rows ≡ lowered (raised (length l.walked) l.m) (reached_in (length l.walked) (take l.k l.walked)) (rows_of l.initial.rows)
