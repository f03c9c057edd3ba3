-- `completion::complete_sinks`: each turn keeps what is left to do, by the laws of `Lefts`. (Of t the sources alone change: the sixth part of `l.t`.)
-- Assumes nothing.
use Rattle.graph.proofs.Turns.{Turn}
use Rattle.graph.proofs.completion.complete_sinks.Given as goal

abbrev pub invariant-loop-i : goal.invariant-loop-i
invariant-loop-i l = Turn (goal.iterator-loop-i).next_gives (λ x. (x.0, x.1.now)) l.given l.fn.t l.fn.p l.t.1.1.1.1.1.0 l.i-iterator
