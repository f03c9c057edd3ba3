-- `judge::first_outside`: what is left to look at gives the answer.
-- Assumes nothing.
use Rattle.std.proofs.Common.{◌≡◌, ◌+◌, ◌-◌, ◌<◌, sym, ◌∙◌, ap, arith}
use Rattle.chart.specs.code.Filled.{items_of, lines_of}
use Rattle.chart.proofs.Targets.{or_else, or_first, or_second, searched, searched-on, searched-all}
use Rattle.chart.proofs.judge.first_outside.Goals as goal
use Rattle.chart.proofs.judge.first_outside.Goals.{After-is_some}

-- what is left: this node's targets, or else the others'
left : (c : After-is_some) →
    let b = c.args.board.now in
    let p = c.loop-p.p in
    searched (items_of b.sources) (lines_of b.lines) (items_of b.sinks) b.n p (b.n - p)
    ≡ or_else c.outside_at-here.result (searched (items_of b.sources) (lines_of b.lines) (items_of b.sinks) b.n (p + 1) (b.n - p - 1))
left c =
    let b = c.args.board.now in
    let p = c.loop-p.p in
    let h : p < b.n = c.loop-p-test.true in
    rw c.outside_at-here.ensures (searched-on (items_of b.sources) (lines_of b.lines) (items_of b.sinks) b.n p (b.n - p) (omega arith))

pub loop-p-preserved : goal.loop-p-preserved
loop-p-preserved c =
    let b = c.args.board.now in
    let p = c.loop-p.p in
    let e : b.n - (p + 1) ≡ b.n - p - 1 = omega arith in
    rw e (sym (left (goal.at.loop-p-preserved c).After-is_some ∙ or_second _ _ (sym c.is_some.ensures ∙ c.if-is_some.false)) ∙ c.loop-p.invariant)

pub returns-then-is_some : goal.returns-then-is_some
returns-then-is_some c =
    let b = c.args.board.now in
    sym (left (goal.at.returns-then-is_some c).After-is_some ∙ or_first _ _ (sym c.is_some.ensures ∙ c.if-is_some.true)) ∙ c.loop-p.invariant
    ∙ searched-all (items_of b.sources) (lines_of b.lines) (items_of b.sinks) b.n

pub returns : goal.returns
returns c =
    let b = c.args.board.now in
    let e : 0 ≡ b.n - c.loop-p.p = omega arith in
    ap (searched (items_of b.sources) (lines_of b.lines) (items_of b.sinks) b.n c.loop-p.p) e ∙ c.loop-p.invariant
    ∙ searched-all (items_of b.sources) (lines_of b.lines) (items_of b.sinks) b.n
