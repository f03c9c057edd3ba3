-- `Round::run` meets its contract: the rows before a are done.
-- Assumes nothing.
use Rattle.order.specs.code.Sums.{makes, Rows}
use Rattle.order.proofs.weights.Round.run.Given as goal

abbrev pub invariant-loop-a : goal.invariant-loop-a
invariant-loop-a l = Rows (makes l.self) l.n l.a l.initial.sums l.sums
