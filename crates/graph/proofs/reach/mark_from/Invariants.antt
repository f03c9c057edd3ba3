-- `reach::mark_from` is the walk of `Cutting`: each step keeps what is left of the walk, and nothing is left of it where the path is empty.
-- Assumes nothing.
use mathlib.Core.Path.{◌≡◌}
use Rattle.graph.specs.code.Path.{state, Good, answer, effort}
use Rattle.graph.proofs.reach.mark_from.Given as goal

abbrev pub invariant-loop-f : goal.invariant-loop-f
invariant-loop-f l = Good l.t (state l.seen l.path) × (answer l.t l.sinks (state l.seen l.path) ≡ answer l.t l.sinks (state l.initial.seen l.initial.path))

abbrev pub decreases-loop-f : goal.decreases-loop-f
decreases-loop-f l = effort l.t (state l.seen l.path)
