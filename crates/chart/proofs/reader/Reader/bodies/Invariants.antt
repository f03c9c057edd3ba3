-- `Reader::bodies`: what is left to read, put into the tables so far, gives the whole answer.
-- Assumes nothing.
use Rattle.std.proofs.Common.{◌≡◌, ◌-◌}
use Rattle.chart.specs.code.Steps.{Within}
use Rattle.chart.proofs.Readers.{nodes_in}
use Rattle.chart.proofs.reader.Reader.bodies.Given as goal

abbrev pub invariant-loop-k : goal.invariant-loop-k
invariant-loop-k l =
    let s = l.fn.self.chart.now in
    let b = l.fn.board in
    (nodes_in l.board l.k s l.self.at (b.n - l.k) ≡ nodes_in b 0 s l.fn.self.at b.n)
    × (l.self.chart.now ≡ s)
    × Within l.k l.board
