-- `cutting::cut_cycles` is `cutting`: each step keeps what is left of the walk from a start, and each start what is left of the walks.
-- Assumes nothing.
use Rattle.graph.specs.code.Explore.{state, between, Since, effort}
use Rattle.graph.proofs.Roots.{Started}
use Rattle.graph.proofs.cutting.cut_cycles.Given as goal

abbrev pub invariant-loop-f : goal.invariant-loop-f
invariant-loop-f l = Since (state l.fn.t.n l.initial.t l.initial.seen l.initial.path) (state l.fn.t.n l.t l.seen l.path)

abbrev pub decreases-loop-f : goal.decreases-loop-f
decreases-loop-f l = effort (state l.fn.t.n l.t l.seen l.path)

abbrev pub invariant-loop-p : goal.invariant-loop-p
invariant-loop-p l = Started l.fn.t (between l.fn.t.n l.t l.seen) l.p
