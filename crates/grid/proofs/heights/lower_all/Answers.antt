-- `heights::lower_all`: one row more at each turn.
-- Assumes nothing.
use Rattle.std.proofs.Common.{ℤ, nat_abs, ◌-ℤ◌, ◌≡◌, length, Some, set, ap, sym, ◌∙◌, refl, arith}
use mathlib.Core.Option.{some}
use Rattle.std.proofs.lemmas.List.{map-set}
use mir.Syntax.{w8}
use mir.Val.{to_z, of_z}
use Rattle.grid.specs.code.Arrays.{held}
use Rattle.grid.specs.code.Walk.{rows_of}
use Rattle.grid.proofs.SignedLaws.{back}
use Rattle.grid.proofs.LowerLaws.{near-at, lower-none, lower-some}
use Rattle.grid.proofs.heights.lower_all.Goals as goal
use Rattle.grid.proofs.heights.lower_all.Goals.{Start, in-Some, in_default}

-- the least row is read back
least-is : (c : Start) → to_z w8 (of_z w8 c.args.m) ≡ c.args.m
least-is c = back c.args.m (omega (arith, c.requires.walk.1.near, c.requires.long.0))

pub loop-k-preserved : goal.loop-k-preserved
loop-k-preserved c =
    let zs = c.args.walked.now in
    let n = length zs in
    let l = c.loop-k in
    let m : ℤ = c.args.m in
    let h = c.loop-k-test.true in
    let a = c.requires.walk in
    let ys = rows_of c.args.rows.now in
    let em = least-is (goal.at.loop-k-preserved c).Start in
    let i = rw em at l.invariant in
    rw em
    (elim c.match-row.branch [
      | in-Some w ↦
          let z : ℤ = w.in-Some.r in
          let ez = back z (omega (arith, near-at n zs l.k z h a.0 w.in-Some.is, c.requires.long.0)) in
          ap rows_of w.rows-is ∙ map-set held l.rows l.k (Some w.abs_diff.result)
          ∙ ap (λ d. set (rows_of l.rows) l.k (some d)) (w.abs_diff.ensures ∙ rw (ez, em) refl)
          ∙ ap (λ v. set v l.k (some (nat_abs (z -ℤ m)))) i ∙ sym (lower-some n zs a.0 m a.1 l.k h ys z w.in-Some.is)
      | in_default w ↦ ap rows_of w.rows-is ∙ i ∙ sym (lower-none n zs a.0 m a.1 l.k h ys w.in_default.is)
    ])
