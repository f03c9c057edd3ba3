-- `columns::columns`: one round more at each turn.
-- Assumes nothing.
use Rattle.std.proofs.Common.{◌≡◌, ap, sym, ◌∙◌, refl, arith}
use Rattle.laws.specs.Each.{each}
use Rattle.laws.proofs.Each.{next}
use Rattle.grid.specs.Columns.{round, columns}
use Rattle.grid.proofs.RoundLaws.{rounds_boxes}
use Rattle.grid.proofs.columns.columns.Goals as goal

pub loop-k-init : goal.loop-k-init
unfolding each
loop-k-init c = refl

pub round-requires : goal.round-requires
round-requires c = rw c.loop-k.invariant (rounds_boxes _ c.args.rows.now c.first_moves.new.cols c.first_moves.ensures.boxes c.args.leads.now c.loop-k._k)

pub loop-k-preserved : goal.loop-k-preserved
loop-k-preserved c =
    let f = round c.args.leads.now c.args.rows.now in
    c.round.ensures ∙ ap f c.loop-k.invariant ∙ sym (next c.first_moves.new.cols (λ k. f) c.loop-k._k)

pub returns : goal.returns
unfolding columns
returns c =
    let f = round c.args.leads.now c.args.rows.now in
    let e : c.loop-k._k ≡ 8 = omega arith in
    c.loop-k.invariant ∙ ap (λ u. each u (λ k. f) c.loop-k._k) c.first_moves.ensures.moved ∙ ap (each _ (λ k. f)) e
