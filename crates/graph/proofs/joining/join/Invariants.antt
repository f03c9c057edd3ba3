-- `joining::join`: each node keeps what is left to do, by the laws of `Boxes`.
-- Assumes nothing.
use Rattle.graph.proofs.Boxes.{Passing}
use Rattle.graph.proofs.joining.join.Given as goal

abbrev pub invariant-loop-p : goal.invariant-loop-p
invariant-loop-p l = Passing l.initial.t l.t l.p
