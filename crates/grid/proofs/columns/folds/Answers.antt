-- `columns::folds`: one fold more at each turn.
-- Assumes nothing.
use Rattle.std.proofs.Common.{ℕ, ◌≡◌, ap, sym, ◌∙◌, refl, arith}
use Rattle.laws.specs.Each.{each}
use Rattle.laws.proofs.Each.{next}
use Rattle.grid.specs.Columns.{fold_from}
use Rattle.grid.proofs.RoundLaws.{folded_boxes}
use Rattle.grid.proofs.columns.folds.Goals as goal

pub loop-start-init : goal.loop-start-init
unfolding each
loop-start-init c = refl

pub fold-requires-clause-boxes : goal.fold-requires-clause-boxes
fold-requires-clause-boxes c = rw c.loop-start.invariant (folded_boxes _ c.args.rows.now c.args.cols.now c.requires c.loop-start.start (omega arith))

pub loop-start-preserved : goal.loop-start-preserved
loop-start-preserved c =
    let f = λ (x : ℕ). fold_from x c.args.rows.now in
    c.fold.ensures ∙ ap (f c.loop-start.start) c.loop-start.invariant ∙ sym (next c.args.cols.now f c.loop-start.start)

pub returns : goal.returns
unfolding each
returns c =
    let e : c.loop-start.start ≡ 2 = omega arith in
    c.loop-start.invariant ∙ ap (each c.args.cols.now (λ x. fold_from x c.args.rows.now)) e
