-- `columns::average_all`: one node more at each turn, the columns as moved so far.
-- Assumes nothing.
use Rattle.std.proofs.Common.{◌≡◌, ap, sym, ◌∙◌, refl, length, arith}
use Rattle.laws.specs.Each.{each}
use Rattle.laws.proofs.Each.{next}
use Rattle.grid.specs.Columns.{average_to, average_one, average}
use Rattle.grid.specs.code.Arrays.{Boxes}
use Rattle.grid.proofs.RoundLaws.{averaged_boxes}
use Rattle.grid.proofs.columns.average_all.Goals as goal
use Rattle.grid.proofs.columns.average_all.Goals.{In-loop-p}

boxes : (c : In-loop-p) → Boxes (length c.args.leads.now) c.args.rows.now c.loop-p.cols
boxes c = rw c.loop-p.invariant (averaged_boxes _ c.args.rows.now c.args.cols.now c.requires c.args.leads.now c.loop-p.p)

pub loop-p-init : goal.loop-p-init
unfolding each
loop-p-init c = refl

pub wanted-w-requires-clause-cols : goal.wanted-w-requires-clause-cols
wanted-w-requires-clause-cols c =
    let b = boxes (goal.at.wanted-w-requires-clause-cols c).In-loop-p in
    (b.cols_long, record { below = λ k h. b.column k (omega (arith, b.cols_long)) })

pub average_to-requires-clause-boxes : goal.average_to-requires-clause-boxes
average_to-requires-clause-boxes c = rw c.requires.rows_long (boxes (goal.at.average_to-requires-clause-boxes c).In-loop-p)

pub loop-p-preserved : goal.loop-p-preserved
loop-p-preserved c =
    let f = average_one c.args.leads.now c.args.rows.now in
    c.average_to.ensures ∙ ap (λ w. average_to c.args.rows.now c.loop-p.p w c.loop-p.cols) c.wanted-w.ensures
    ∙ ap (f c.loop-p.p) c.loop-p.invariant ∙ sym (next c.args.cols.now f c.loop-p.p)

pub returns : goal.returns
unfolding average
returns c =
    let e : c.loop-p.p ≡ length c.args.leads.now = omega (arith, c.nodes-p-end.ensures.0) in
    c.loop-p.invariant ∙ ap (each c.args.cols.now (average_one c.args.leads.now c.args.rows.now)) e
