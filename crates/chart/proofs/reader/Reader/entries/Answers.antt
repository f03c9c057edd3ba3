-- `Reader::entries`: what is left to read, put into the table so far, gives the whole answer.
-- Assumes nothing.
use Rattle.std.proofs.Common.{rules, ◌≡◌, ◌+◌, ◌-◌, ◌<◌, refl, ◌∙◌, arith}
use Rattle.std.specs.Prelude.{Err}
use Rattle.chart.proofs.Readers.{left_first}
use Rattle.chart.proofs.reader.Reader.entries.Goals as goal

pub returns-in_err-read-clause-entries : goal.returns-in_err-read-clause-entries
returns-in_err-read-clause-entries g c =
    let l = c.loop-k in
    let read = g.T.Entry.read_at c.args.owner c.args.self.now.chart.now in
    let h : l._k < c.args.count = c.loop-k-test.true in
    let is = rw l.invariant.1 at c.in_err-read.ensures.0 in
    let e : c.from_residual.result ≡ Err c.in_err-read.field-0.0 = search rules in
    (rw (e, ← l.invariant.0, left_first read l.table l.self.at (c.args.count - l._k) (omega arith), ← is), c.in_err-read.ensures.1 ∙ l.invariant.1)

pub loop-k-preserved : goal.loop-k-preserved
loop-k-preserved g c =
    let l = c.loop-k in
    let read = g.T.Entry.read_at c.args.owner c.args.self.now.chart.now in
    let h : l._k < c.args.count = c.loop-k-test.true in
    let is = rw l.invariant.1 at c.in_ok-read.ensures.0 in
    let n : c.args.count - (l._k + 1) ≡ c.args.count - l._k - 1 = omega arith in
    let q : c.add.new.table.count ≡ l.table.count + 1 = rw c.add.ensures refl in (
      rw (n, c.add.ensures, ← l.invariant.0, left_first read l.table l.self.at (c.args.count - l._k) (omega arith), ← is),
      c.in_ok-read.ensures.1 ∙ l.invariant.1,
      omega (arith, l.invariant.2),
    )
