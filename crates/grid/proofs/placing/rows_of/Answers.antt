-- `placing::rows_of`: a turn is a step of the definition.
-- Assumes nothing.
use Rattle.std.proofs.Common.{◌≡◌, refl, ap, sym, ◌∙◌}
use borrow.Author.Tests.{lt-ltb, le-ltb}
use Rattle.laws.specs.Each.{each}
use Rattle.laws.proofs.Each.{next}
use Rattle.grid.specs.Cells.{no_cells, placed}
use Rattle.grid.proofs.placing.rows_of.Goals as goal
use Rattle.grid.proofs.placing.rows_of.Goals.{then-b-lt48+then-b-lt144, else-b-lt48, else-b-lt48-via-then-b-lt48+else-b-lt144, else-b-lt48-via-else-b-lt48}

pub loop-k-init : goal.loop-k-init
unfolding each
loop-k-init c = refl

pub loop-k-preserved : goal.loop-k-preserved
loop-k-preserved c =
    let l = c.loop-k in
    let step = placed c.args.boxes.now in
    let more : step l.k l.grid ≡ step l.k (each no_cells step l.k) = ap (step l.k) l.invariant in
    let e : c.if-b-lt48.grid ≡ step l.k l.grid =
    elim c.if-b-lt48.branch [
      | then-b-lt48+then-b-lt144 w ↦ w.grid-is ∙ w.place-next.ensures ∙ rw (lt-ltb _ _ w.if-b-lt48.true, lt-ltb _ _ w.if-b-lt144.true) refl
      | else-b-lt48 w ↦
          elim w.else-b-lt48.branch [
            | else-b-lt48-via-then-b-lt48+else-b-lt144 v ↦ w.grid-is ∙ rw (lt-ltb _ _ v.if-b-lt48.true, le-ltb _ _ v.if-b-lt144.false) refl
            | else-b-lt48-via-else-b-lt48 v ↦ w.grid-is ∙ rw (le-ltb _ _ v.if-b-lt48.false) refl
          ]
    ]
    in
    e ∙ more ∙ sym (next no_cells step l.k)
