-- `columns::first_moves`: one node more at each turn, the columns as moved so far.
-- Assumes nothing.
use Rattle.std.proofs.Common.{◌≡◌, ◌≤◌, ap, sym, ◌∙◌, refl, length, arith}
use Rattle.laws.specs.Each.{each}
use Rattle.laws.proofs.Each.{next}
use Rattle.grid.specs.Columns.{first_move, first_moves}
use Rattle.grid.specs.code.Arrays.{Boxes}
use Rattle.grid.proofs.RoundLaws.{moved-boxes}
use Rattle.grid.proofs.columns.first_moves.Goals as goal
use Rattle.grid.proofs.columns.first_moves.Goals.{At-loop-p}

-- the columns of the turn are those of so many boxes
boxes : (c : At-loop-p) → c.loop-p.p ≤ length c.args.leads.now → Boxes (length c.args.leads.now) c.args.rows.now c.loop-p.cols
boxes c h =
    let a = c.args in
    let z = c.requires in
    rw c.loop-p.invariant (moved-boxes (length a.leads.now) a.rows.now a.leads.now refl (omega (arith, c.nodes-p-end.ensures)) z.rows.0 z.rows.1 a.cols.now z.first c.loop-p.p h)

pub loop-p-init : goal.loop-p-init
unfolding each
loop-p-init c = refl

pub first_move-requires-clause-boxes : goal.first_move-requires-clause-boxes
first_move-requires-clause-boxes c = boxes (goal.at.first_move-requires-clause-boxes c).At-loop-p (omega (arith, c.loop-p-test.true, c.nodes-p-end.ensures))

pub loop-p-preserved : goal.loop-p-preserved
loop-p-preserved c =
    let f = first_move c.args.leads.now c.args.rows.now in
    c.first_move.ensures ∙ ap (f c.loop-p.p) c.loop-p.invariant ∙ sym (next c.args.cols.now f c.loop-p.p)

pub returns : goal.returns
unfolding first_moves
returns c =
    let e : c.loop-p.p ≡ length c.args.leads.now = omega (arith, c.nodes-p-end.ensures.0) in
    record {
      moved = c.loop-p.invariant ∙ ap (each c.args.cols.now (first_move c.args.leads.now c.args.rows.now)) e;
      boxes = boxes (goal.at.returns c).At-loop-p (omega (arith, e));
    }
