-- `completion::complete`: each node keeps what is left to do, by the laws of `Rounds`.
-- Assumes nothing.
use Rattle.graph.proofs.Rounds.{Doing}
use Rattle.graph.proofs.completion.complete.Given as goal

abbrev pub invariant-loop-p : goal.invariant-loop-p
invariant-loop-p l = Doing l.given l.fn.t l.t l.p
