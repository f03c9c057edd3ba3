-- `Reader::bodies`: what is left to read, put into the tables so far, gives the whole answer.
-- Assumes nothing.
use Rattle.std.proofs.Common.{rules, ◌≡◌, ◌+◌, ◌-◌, ◌<◌, sym, ◌∙◌, arith}
use Rattle.std.specs.Prelude.{Err}
use Rattle.chart.proofs.Readers.{bodies_misplaced, bodies_first}
use Rattle.chart.proofs.reader.Reader.bodies.Goals as goal

pub returns-then-contents-self : goal.returns-then-contents-self
returns-then-contents-self c =
    let l = c.loop-k in
    let s = c.args.self.now.chart.now in
    let n = c.args.board.now.n in
    let h : l.k < n = c.loop-k-test.true in
    let o = rw l.invariant.1 at c.contents.ensures in
    (rw (← l.invariant.0, bodies_misplaced l.board l.k s l.self.at (n - l.k) (omega arith) (λ e. c.if-contents-self.true (o ∙ e))), l.invariant.1)

pub returns-in_err-body : goal.returns-in_err-body
returns-in_err-body c =
    let l = c.loop-k in
    let s = c.args.self.now.chart.now in
    let n = c.args.board.now.n in
    let h : l.k < n = c.loop-k-test.true in
    let o = rw l.invariant.1 at c.contents.ensures in
    let is = rw l.invariant.1 at c.in_err-body.ensures.node.0 in
    let e : c.from_residual.result ≡ Err c.in_err-body.field-0.0 = search rules in
    (rw (e, ← l.invariant.0, bodies_first l.board l.k s l.self.at (n - l.k) (omega arith) (sym o ∙ c.if-contents-self.false), ← is), c.in_err-body.ensures.node.1 ∙ l.invariant.1)

pub loop-k-preserved : goal.loop-k-preserved
loop-k-preserved c =
    let l = c.loop-k in
    let s = c.args.self.now.chart.now in
    let n = c.args.board.now.n in
    let h : l.k < n = c.loop-k-test.true in
    let o = rw l.invariant.1 at c.contents.ensures in
    let is = rw l.invariant.1 at c.in_ok-body.ensures.node.0 in
    let z : n - (l.k + 1) ≡ n - l.k - 1 = omega arith in (
      rw (z, ← l.invariant.0, bodies_first l.board l.k s l.self.at (n - l.k) (omega arith) (sym o ∙ c.if-contents-self.false), ← is),
      c.in_ok-body.ensures.node.1 ∙ l.invariant.1,
      c.in_ok-body.ensures.within,
    )
