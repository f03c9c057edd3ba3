-- `Reader::entries`: what is left to read, put into the table so far, gives the whole answer.
-- Assumes nothing.
use Rattle.std.proofs.Common.{◌≡◌, ◌+◌, ◌-◌, ◌≤◌}
use Rattle.chart.proofs.Readers.{left_in}
use Rattle.chart.proofs.reader.Reader.entries.Given as goal

abbrev pub invariant-loop-k : goal.invariant-loop-k
invariant-loop-k g l =
    let s = l.fn.self.chart.now in
    (left_in (g.T.Entry.read_at l.owner s) l.table l.self.at (l.count - l._k) ≡ left_in (g.T.Entry.read_at l.owner s) l.fn.table l.fn.self.at l.count)
    × (l.self.chart.now ≡ s)
    × (l.table.count ≤ l.fn.table.count + l._k)
