-- `completion::complete_sources`: each turn keeps what is left to do, by the laws of `Sinks`.
-- Assumes nothing.
use Rattle.graph.proofs.Sinks.{Right}
use Rattle.graph.proofs.completion.complete_sources.Given as goal

abbrev pub invariant-loop-k : goal.invariant-loop-k
invariant-loop-k l = Right l.given l.fn.t l.p l.t l.k
