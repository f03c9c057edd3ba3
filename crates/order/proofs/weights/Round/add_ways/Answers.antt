-- `Round::add_ways` meets its contract: the ways to the nodes before c are added.
-- Assumes nothing.
use Prim.Native.Nat.{ℕ, ◌+◌, ◌-◌, ◌<◌}
use native.Mathlib.Omega.{arith}
use native.Mathlib.Numerals.{add-one}
use mathlib.Core.Path.{◌≡◌, sym, ap, ◌∙◌}
use lib.ListN.{get_or}
use Rattle.order.specs.code.Sums.{makes, pair_at, raised, way_of}
use Rattle.order.proofs.InPlace.{Going, over-sum, over_stores, over_out, over-missing, over-step}
use Rattle.order.proofs.Triangle.{row_le, pair-below}
use Rattle.order.proofs.weights.Round.add_ways.Goals as goal
use Rattle.order.proofs.weights.Round.add_ways.Goals.{At-loop-c, then-y-gt0+then-takes_part, then-y-gt0+else-takes_part, else-y-gt0}

-- what is known at c
module _ (h : At-loop-c) (l : h.loop-c.c < h.args.n) where
  abbrev i : ℕ
  i = h.pair_at-first.result + (h.loop-c.c - h.args.b)

  abbrev j : ℕ
  j = i + (h.row_at.result - h.row_at-2.result)

  i-is : i ≡ pair_at h.args.a h.loop-c.c
  i-is = omega (arith, h.pair_at-first.ensures.0, h.requires.rising, h.loop-c.auto.c)

  j-is : j ≡ pair_at h.args.b h.loop-c.c
  j-is = omega (arith, h.row_at.ensures.0, h.row_at-2.ensures.0, h.loop-c.auto.c, i-is, row_le h.args.a h.args.b h.requires.rising (omega (arith, h.requires.inside, h.requires.few)))

  j-below : j < 1128
  j-below = omega (arith, j-is, pair-below h.args.b h.loop-c.c (omega (arith, h.loop-c.auto.c)) (omega (arith, h.requires.few)))

  going : Going (makes h.args.self) h.loop-c.c h.args.a h.args.b i j (get_or h.args.sums.now h.pair_at-first.result 0) h.args.sums.now h.loop-c.sums
  going =
      record {
        rising = h.requires.rising;
        next = omega (arith, h.loop-c.auto.c);
        below = omega (arith, h.requires.few);
        long = h.loop-c.invariant.1.long ∙ h.requires.long;
        over = h.loop-c.invariant.1;
        here = i-is;
        there = j-is;
        first = ap (λ (i : ℕ). get_or h.args.sums.now i 0) h.pair_at-first.ensures.0;
        some = h.loop-c.invariant.0;
      }

pub overflow_sub-apart : goal.overflow_sub-apart
overflow_sub-apart c = omega (arith, c.row_at-2.ensures.0, c.row_at.ensures.0, row_le c.args.a c.args.b c.requires.rising (omega (arith, c.requires.inside, c.requires.few)))

pub bounds-sums-i : goal.bounds-sums-i
bounds-sums-i c = j-below (goal.at.bounds-sums-i c).At-loop-c c.loop-c-test.true

pub overflow_add-sums : goal.overflow_add-sums
overflow_add-sums c =
    let g = going (goal.at.overflow_add-sums c).At-loop-c c.loop-c-test.true in
    omega (arith, over-sum g c.if-y-gt0.true (sym c.takes_part.ensures ∙ c.if-takes_part.true), c.requires.fits c.loop-c.c (omega (arith, c.loop-c.auto.c)) c.loop-c-test.true)

pub overflow_add-sums-then-takes_part : goal.overflow_add-sums-then-takes_part
overflow_add-sums-then-takes_part c =
    let g = going (goal.at.overflow_add-sums-then-takes_part c).At-loop-c c.loop-c-test.true in
    omega (arith, over-sum g c.if-y-gt0.true (sym c.takes_part.ensures ∙ c.if-takes_part.true), c.requires.fits c.loop-c.c (omega (arith, c.loop-c.auto.c)) c.loop-c-test.true)

pub loop-c-preserved : goal.loop-c-preserved
loop-c-preserved c =
    let g = going (goal.at.loop-c-preserved c).At-loop-c c.loop-c-test.true in
    let e : c.if-y-gt0.sums ≡ raised c.loop-c.sums c.args.a c.loop-c.c (way_of (makes c.args.self) c.args.sums.now c.args.a c.loop-c.c c.args.b) = elim c.if-y-gt0.branch [
      | then-y-gt0+then-takes_part w ↦ w.sums-is ∙ over_stores g w.if-y-gt0.true (sym w.takes_part.ensures ∙ w.if-takes_part.true)
      | then-y-gt0+else-takes_part w ↦ w.sums-is ∙ over_out g (sym w.takes_part.ensures ∙ w.if-takes_part.false)
      | else-y-gt0 w ↦ w.sums-is ∙ over-missing g w.if-y-gt0.false
    ] in
    (c.loop-c.invariant.0, rw (add-one, e) (over-step g))
