-- `heights::walk_from` is the walk of `Heights`: each step keeps what is left of the walk, and nothing is left of it where the path is empty.
-- Assumes nothing.
use Rattle.std.proofs.Common.{◌≡◌, length}
use Rattle.grid.specs.Heights.{reached_from}
use Rattle.grid.specs.code.Walk.{Path, Good, answer, effort}
use Rattle.grid.proofs.heights.walk_from.Given as goal

abbrev pub invariant-loop-f : goal.invariant-loop-f
invariant-loop-f l =
    let s : Path = record { rows = l.rows; frames = l.path } in
    Good (length l.leads) s × (answer l.leads s ≡ reached_from l.leads l.p)

abbrev pub decreases-loop-f : goal.decreases-loop-f
decreases-loop-f l = effort (length l.leads) (record { rows = l.rows; frames = l.path })
