-- `read`: the tests, what the bodies and the judging say, and the laws of an accepted chart.
-- Assumes nothing.
use Prim.Native.Nat.{◌+◌, ◌*◌}
use mathlib.Core.Path.{◌≡◌, sym, ap, ◌∙◌}
use lib.ListN.{get_or}
use borrow.Author.Tests.{lt-ltb, le-ltb, le-leb, lt-leb, eq-eqb, ne_eqb}
use borrow.Author.Rules.{rules}
use Rattle.std.specs.Prelude.{Result, Err}
use Rattle.refusals.specs.declared.Refusal.{Refusal}
use Rattle.chart.specs.Chart.{bodies, judged, chart}
use Rattle.chart.specs.declared.Board.{Board as Tables}
use Rattle.chart.specs.code.Filled.{empty_board, with_nodes}
use Rattle.chart.specs.code.Reads.{read_of}
use Rattle.chart.specs.code.Steps.{told, made}
use Rattle.chart.proofs.Gives.{bodies_give}
use Rattle.chart.proofs.Accepts.{is_read, read-refused, read_trailing, read-judged, read-unjudged}
use Rattle.chart.proofs.read.Goals as goal
use Rattle.chart.proofs.read.Goals.{After-bodies}

pub returns-then-chart-lt2 : goal.returns-then-chart-lt2
unfolding chart
returns-then-chart-lt2 c =
    let s = c.args.chart.now in
    let w = c.args.setting in
    is_read w s c.under_two.result (c.under_two.ensures ∙ rw (lt-ltb _ _ c.if-chart-lt2.true))

pub returns-then-chart-ne1 : goal.returns-then-chart-ne1
unfolding chart
returns-then-chart-ne1 c =
    let s = c.args.chart.now in
    let w = c.args.setting in
    is_read w s _ (rw (le-ltb _ _ c.if-chart-lt2.false, ne_eqb _ _ c.if-chart-ne1.true))

pub returns-then-n-gt32 : goal.returns-then-n-gt32
unfolding chart
returns-then-n-gt32 c =
    let s = c.args.chart.now in
    let w = c.args.setting in
    is_read w s _ (rw (le-ltb _ _ c.if-chart-lt2.false, eq-eqb _ _ c.if-chart-ne1.false, lt-leb _ _ c.if-n-gt32.true))

pub returns-then-chart-n : goal.returns-then-chart-n
unfolding chart
returns-then-chart-n c =
    let s = c.args.chart.now in
    let w = c.args.setting in
    is_read w s _ (rw (le-ltb _ _ c.if-chart-lt2.false, eq-eqb _ _ c.if-chart-ne1.false, le-leb _ _ c.if-n-gt32.false, lt-leb _ _ c.if-chart-n.true))

-- the chart is what is judged of its bodies
module _ (c : After-bodies) where
  held : let s = c.args.chart.now in chart c.args.setting s ≡ judged c.args.setting s (get_or s 1 0) (bodies (get_or s 1 0) s 0 (2 + 2 * get_or s 1 0))
  unfolding chart
  held = rw (le-ltb _ _ c.if-chart-lt2.false, eq-eqb _ _ c.if-chart-ne1.false, le-leb _ _ c.if-n-gt32.false, le-leb _ _ c.if-chart-n.false)

  into : let s = c.args.chart.now in
      told (λ u. c.bodies.new.board) c.bodies.result c.bodies.new.self.at ≡ made (with_nodes (empty_board (get_or s 1 0)) 0) (bodies (get_or s 1 0) s 0 (2 + 2 * get_or s 1 0))
  into = rw c.empty-board.ensures at c.bodies.ensures.0

  -- what was answered is the definition's answer
  is : (r : Result Tables Refusal) → (let s = c.args.chart.now in r ≡ read_of (judged c.args.setting s (get_or s 1 0) (bodies (get_or s 1 0) s 0 (2 + 2 * get_or s 1 0)))) → r ≡ read_of (chart c.args.setting c.args.chart.now)
  is r e = e ∙ ap read_of (sym held)

pub returns-in_err-bodies : goal.returns-in_err-bodies
returns-in_err-bodies c =
    let s = c.args.chart.now in
    let w = c.args.setting in
    let p = (goal.at.returns-in_err-bodies c).After-bodies in
    let e : c.from_residual.result ≡ Err c.in_err-bodies.field-0.0 = search rules in
    is_read w s _ (e ∙ is p _ (read-refused w s (get_or s 1 0) _ _ _ _ (into p) _ c.in_err-bodies.was))

pub returns-then-reader-chart : goal.returns-then-reader-chart
returns-then-reader-chart c =
    let s = c.args.chart.now in
    let w = c.args.setting in
    let p = (goal.at.returns-then-reader-chart c).After-bodies in
    is_read w s _ (is p _ (read_trailing w s (get_or s 1 0) _ _ _ c.in_ok-bodies.was _ (into p) c.if-reader-chart.true))

pub returns-in_err-judged : goal.returns-in_err-judged
returns-in_err-judged c =
    let s = c.args.chart.now in
    let w = c.args.setting in
    let n = get_or s 1 0 in
    let p = (goal.at.returns-in_err-judged c).After-bodies in
    let e : c.from_residual-in_err-judged.result ≡ Err c.in_err-judged.field-0.0 = search rules in
    is_read w s _ (e ∙ is p _ (read-unjudged w s n _ _ _ c.in_ok-bodies.was c.if-n-gt32.false c.if-reader-chart.false _ (bodies_give n s 0 (2 + 2 * n)) (into p) _ (sym c.judged.ensures ∙ c.in_err-judged.was)))

pub returns : goal.returns
returns c =
    let s = c.args.chart.now in
    let w = c.args.setting in
    let n = get_or s 1 0 in
    let p = (goal.at.returns c).After-bodies in
    is_read w s _ (is p _ (read-judged w s n _ _ _ c.in_ok-bodies.was c.if-n-gt32.false c.if-reader-chart.false _ (bodies_give n s 0 (2 + 2 * n)) (into p) (sym c.judged.ensures ∙ c.in_ok-judged.was)))
