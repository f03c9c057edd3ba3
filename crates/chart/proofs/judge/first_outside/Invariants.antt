-- `judge::first_outside`: what is left to look at gives the answer.
-- Assumes nothing.
use Rattle.std.proofs.Common.{◌≡◌, ◌-◌}
use Rattle.chart.specs.code.Filled.{items_of, lines_of}
use Rattle.chart.proofs.Targets.{searched}
use Rattle.chart.proofs.judge.first_outside.Given as goal

abbrev pub invariant-loop-p : goal.invariant-loop-p
invariant-loop-p l =
    let b = l.board in
    searched (items_of b.sources) (lines_of b.lines) (items_of b.sinks) b.n l.p (b.n - l.p) ≡ searched (items_of b.sources) (lines_of b.lines) (items_of b.sinks) b.n 0 b.n
