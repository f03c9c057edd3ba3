-- `Axis::lay`: each turn stores where the next line begins.
-- Assumes nothing.
use Rattle.std.proofs.Common.{◌≡◌, ◌+◌, ◌≤◌, ℕ, List, map, ap, sym, ◌∙◌, arith, add-one}
use Rattle.laws.proofs.Lists.{all_made}
use Rattle.grid.specs.declared.BoxRecord.{BoxRecord}
use Rattle.grid.specs.RenderGrid.{begins, extent}
use Rattle.grid.specs.code.Laid.{line_of, size_of, gap_of}
use Rattle.grid.proofs.Arrays.{filled_next}
use Rattle.grid.proofs.LaidLaws.{extent_le, gap_most}
use Rattle.grid.proofs.render_grid.Axis.lay.Goals as goal
use Rattle.grid.proofs.render_grid.Axis.lay.Goals.{Start}

-- no line is large
module _ (z : Start) where
  abbrev ps : List ℕ
  ps = map (line_of z.args.self) z.args.boxes.now

  abbrev ss : List ℕ
  ss = map (size_of z.args.self) z.args.boxes.now

  extent-most : (c : ℕ) → extent ps ss c ≤ 8389000
  extent-most c =
      extent_le 8389000 ps ss c (all_made (λ (b : BoxRecord). size_of z.args.self b ≤ 8389000) (λ (s : ℕ). s ≤ 8389000) (size_of z.args.self) (λ b h. h) z.args.boxes.now z.requires.small)

pub overflow_add-at : goal.overflow_add-at
overflow_add-at c = omega (arith, c.extent.ensures, extent-most (goal.at.overflow_add-at c).Start c.loop-c.c, c.gap.ensures, gap_most c.args.self)

pub overflow_add-at-in-loop-c : goal.overflow_add-at-in-loop-c
overflow_add-at-in-loop-c c = omega (arith, c.extent.ensures, extent-most (goal.at.overflow_add-at-in-loop-c c).Start c.loop-c.c, c.gap.ensures, gap_most c.args.self)

pub loop-c-preserved : goal.loop-c-preserved
loop-c-preserved c =
    let z = (goal.at.loop-c-preserved c).Start in
    let l = c.loop-c in
    let gap = gap_of c.args.self in
    let b = begins gap (ps z) (ss z) in
    let e : l.at + (c.extent.result + c.gap.result) ≡ b l.c + extent (ps z) (ss z) l.c + gap = omega (arith, c.extent.ensures, c.gap.ensures) in (
      omega (arith, c.extent.ensures, extent-most z l.c, c.gap.ensures, gap_most c.args.self),
      e ∙ sym (ap b (add-one l.c)),
      rw (l.invariant.2, l.invariant.1) (filled_next b 144 0 l.c),
    )

pub overflow_add-result : goal.overflow_add-result
overflow_add-result c = omega (arith, c.requires.last_bound, c.extent-2.ensures, extent-most (goal.at.overflow_add-result c).Start c.args.last)

pub overflow_add-result-2 : goal.overflow_add-result-2
overflow_add-result-2 c = omega (arith, c.requires.last_bound, c.extent-2.ensures, extent-most (goal.at.overflow_add-result-2 c).Start c.args.last)

pub returns-clause-starts : goal.returns-clause-starts
returns-clause-starts c =
    let z = (goal.at.returns-clause-starts c).Start in
    let l = c.loop-c in
    let e : l.c ≡ c.args.last = omega arith in
    let b = rw e at l.invariant.1 in
    let s = rw e at l.invariant.2 in
    rw (s, b) (filled_next (begins (gap_of c.args.self) (ps z) (ss z)) 144 0 c.args.last)
