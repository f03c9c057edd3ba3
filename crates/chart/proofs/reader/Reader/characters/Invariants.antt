-- `Reader::characters`: what is left to read, with the characters before it, gives the whole answer.
-- Assumes nothing.
use Rattle.std.proofs.Common.{◌≡◌, ◌+◌, ◌≤◌}
use Rattle.chart.specs.Chart.{characters}
use Rattle.chart.proofs.Readers.{skips}
use Rattle.chart.proofs.reader.Reader.characters.Given as goal

abbrev pub invariant-loop-left : goal.invariant-loop-left
invariant-loop-left l =
    let s = l.fn.self.chart.now in
    (skips l.len s l.self.at l.left ≡ characters l.count s l.fn.self.at)
    × (l.self.chart.now ≡ s)
    × (l.len + l.left ≤ l.count)

abbrev pub decreases-loop-left : goal.decreases-loop-left
decreases-loop-left l = l.left
