-- `columns::room_of`: what it has, and what the boxes that are left leave free, is what all do.
-- Assumes nothing.
use Rattle.std.proofs.Common.{ℕ, min, ◌+◌, ◌≡◌, ◌≤◌, refl, ap, sym, ◌∙◌, true, false, Option, None, Some, length, rules, arith}
use Rattle.std.proofs.lemmas.Iterator.{empty_from_Zip}
use Rattle.std.specs.Option.{unwrap_or}
use borrow.Author.Tests.{eq-eqb, ne_eqb, lt-ltb, le-ltb}
use Rattle.laws.proofs.Tests.{and_false}
use Rattle.grid.specs.Columns.{at, right_of}
use Rattle.grid.specs.code.Arrays.{held}
use Rattle.grid.proofs.ColumnLaws.{Beyond, right-beyond}
use Rattle.grid.proofs.AverageLaws.{nearest-none, open_first, open_more}
use Rattle.grid.proofs.columns.room_of.Goals as goal
use Rattle.grid.proofs.columns.room_of.Goals.{In-None}

pub loop-y-init : goal.loop-y-init
loop-y-init c = let a = c.args in search (rules, open_first (length a.rows.now) (at a.rows.now a.p) (at a.cols.now a.p) a.rows.now a.cols.now c.requires.boxes)

pub loop-y-preserved : goal.loop-y-preserved
loop-y-preserved c =
    let s = c.in-Some.ensures.steps in
    let far = ne_eqb _ _ c.if-y-r.false in
    open_more _ _ _ _ c.in-Some.y.now c.in-Some.c.now _ _ _ _ (rw (s.0, s.1) at c.loop-y.invariant) false false (rw far refl) (rw far refl) refl refl

pub loop-y-preserved-then-c-x : goal.loop-y-preserved-then-c-x
loop-y-preserved-then-c-x c =
    let s = c.in-Some.ensures.steps in
    let y = c.in-Some.y.now in
    let here = eq-eqb _ _ c.if-y-r.true in
    open_more _ _ _ _ y c.in-Some.c.now _ _ _ _ (rw (s.0, s.1) at c.loop-y.invariant) true false (rw (here, lt-ltb _ _ c.if-c-x.true) refl)
    (rw (le-ltb (at c.args.cols.now c.args.p) c.in-Some.c.now (omega (arith, c.if-c-x.true))) (and_false _)) c.max-low.ensures refl

pub loop-y-preserved-then-x-c : goal.loop-y-preserved-then-x-c
loop-y-preserved-then-x-c c =
    let s = c.in-Some.ensures.steps in
    let here = eq-eqb _ _ c.if-y-r.true in
    open_more _ _ _ _ c.in-Some.y.now c.in-Some.c.now _ _ _ _ (rw (s.0, s.1) at c.loop-y.invariant) false true (rw (le-ltb _ _ c.if-c-x.false) (and_false _))
    (rw (here, lt-ltb _ _ c.if-x-c.true) refl) refl (ap Some (c.min.ensures ∙ ap (λ (o : ℕ). min o c.in-Some.c.now) c.unwrap_or.ensures))

pub loop-y-preserved-else-x-c : goal.loop-y-preserved-else-x-c
loop-y-preserved-else-x-c c =
    let s = c.in-Some.ensures.steps in
    open_more _ _ _ _ c.in-Some.y.now c.in-Some.c.now _ _ _ _ (rw (s.0, s.1) at c.loop-y.invariant) false false (rw (le-ltb _ _ c.if-c-x.false) (and_false _))
    (rw (le-ltb _ _ c.if-x-c.false) (and_false _)) refl refl

-- where all boxes are met
right-is : (c : In-None) → held c.loop-y.next ≡ right_of c.args.rows.now c.args.cols.now (at c.args.rows.now c.args.p) (at c.args.cols.now c.args.p)
right-is c =
    let spent = empty_from_Zip _ c.next.new.self _ c.in-None.is c.next.ensures.steps c.loop-y.invariant.long in
    sym (nearest-none (held c.loop-y.next)) ∙ (rw (spent.0, spent.1) at c.loop-y.invariant).right

some-beyond : (x : ℕ) (o : Option ℕ) → Beyond x (held o) → 1 ≤ unwrap_or o (x + 1)
some-beyond x None h = omega arith
some-beyond x (Some c) h = omega arith

pub overflow_sub-result : goal.overflow_sub-result
overflow_sub-result c =
    let a = c.args in
    let e = right-is (goal.at.overflow_sub-result c).In-None in
    rw c.unwrap_or-2.ensures (some-beyond (at a.cols.now a.p) c.loop-y.next (rw e (right-beyond (at a.rows.now a.p) (at a.cols.now a.p) a.rows.now a.cols.now)))
