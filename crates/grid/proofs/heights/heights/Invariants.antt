-- `heights::heights`: one node more at each turn.
-- Assumes nothing.
use Rattle.std.proofs.Common.{◌≡◌}
use Rattle.grid.specs.code.Walk.{rows_of}
use Rattle.grid.proofs.LowerLaws.{done}
use Rattle.grid.proofs.heights.heights.Given as goal

abbrev pub invariant-loop-p : goal.invariant-loop-p
invariant-loop-p l = rows_of l.rows ≡ done l.leads l.p
