-- `cutting::turn`: the records before the index are turned.
-- Assumes nothing.
use Prim.Native.Nat.{ℕ, ◌+◌, ◌<◌}
use mathlib.Core.Path.{◌≡◌, ◌∙◌}
use mathlib.Core.List.{List, ◌++◌, map}
use lib.ListN.{length, take, drop, get_or, set}
use borrow.Author.Tests.{eq-eqb, ne_eqb}
use native.Mathlib.Omega.{arith}
use Rattle.std.proofs.lemmas.List.Edits.{map_over_more}
use Rattle.laws.proofs.Lists.{get_d_any}
use Rattle.graph.specs.declared.Item.{Item}
use Rattle.graph.specs.code.Tables.{turn_item}
use Rattle.graph.specs.Outcome.{no_item}
use Rattle.graph.proofs.cutting.turn.Goals as goal
use Rattle.graph.proofs.cutting.turn.Goals.{then-e-q+then-e-c, else-e-q, else-e-q-via-then-e-q+else-e-c, else-e-q-via-else-e-q}

module _ (q c to : ℕ) (xs ys : List Item) (k : ℕ) (h : k < length xs) (i : ys ≡ map (turn_item q c to) (take k xs) ++ drop k xs) where
  abbrev x : Item
  x = get_or ys k no_item

  put : (y : Item) → turn_item q c to x ≡ y → k < length ys → set ys k y ≡ map (turn_item q c to) (take (k + 1) xs) ++ drop (k + 1) xs
  put y e m = rw (← e) (map_over_more (turn_item q c to) xs ys k x h i (get_d_any ys k no_item x m))

pub loop-e-preserved : goal.loop-e-preserved
loop-e-preserved c =
    let l = c.loop-e in
    let x = get_or l.e-items l.e-index no_item in
    let xs = c.args.sources.now in
    elim c.if-e-q.branch [
      | then-e-q+then-e-c w ↦
          w.e-items-is ∙ put c.args.q c.args.c c.args.to xs l.e-items l.e-index c.loop-e-test.true l.invariant (record { owner = x.owner; to = c.args.to; mark = w.marked-e.result; at = x.at; len = x.len }) (rw (eq-eqb x.owner c.args.q w.if-e-q.true, eq-eqb x.to c.args.c w.if-e-c.true, w.marked-e.ensures)) (omega (arith, c.loop-e-test.true))
      | else-e-q w ↦
          w.e-items-is
          ∙ elim w.else-e-q.branch [
            | else-e-q-via-then-e-q+else-e-c v ↦
                v.e-items-is ∙ put c.args.q c.args.c c.args.to xs l.e-items l.e-index c.loop-e-test.true l.invariant _ (rw (eq-eqb x.owner c.args.q v.if-e-q.true, ne_eqb x.to c.args.c v.if-e-c.false)) (omega (arith, c.loop-e-test.true))
            | else-e-q-via-else-e-q v ↦ v.e-items-is ∙ put c.args.q c.args.c c.args.to xs l.e-items l.e-index c.loop-e-test.true l.invariant _ (rw (ne_eqb x.owner c.args.q v.if-e-q.false)) (omega (arith, c.loop-e-test.true))
          ]
    ]
