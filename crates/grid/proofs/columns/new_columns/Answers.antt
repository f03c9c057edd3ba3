-- `columns::new_columns`: what the search yields is `collided`; each turn of the outer loop adds one pair to the table.
-- Assumes nothing.
use Rattle.std.proofs.Common.{◌≡◌, ◌≤◌, ◌+◌, ◌*◌, Bool, true, false, cond, set, refl, ap, sym, ◌∙◌, length-set, arith}
use mir.Val.{bool_byte}
use Rattle.grid.specs.code.Arrays.{collision_in, extra_in}
use Rattle.grid.proofs.ColumnLaws.{extra_le}
use Rattle.grid.proofs.FoldLaws.{table_more, next-next}
use Rattle.grid.proofs.UsedLaws.{found_in}
use Rattle.grid.proofs.columns.new_columns.Goals as goal
use Rattle.grid.proofs.columns.new_columns.Goals.{After-from-more, then-loop-row-test+then-is_used+then-is_used-2, else-loop-row-test}

-- by the first row that uses both columns, or by the last row
collided : (c : After-from-more) → c.loop-row-test.collision ≡ collision_in c.args.used.now (c.args.start + 2 * c.loop-p.p) c.args.height
collided c =
    let u = c.args.used.now in
    let x = c.args.start + 2 * c.loop-p.p in
    let r = c.loop-row.row in
    elim c.loop-row-test.branch [
      | then-loop-row-test+then-is_used+then-is_used-2 w ↦
          w.collision-is ∙ sym (found_in u x r c.args.height w.loop-row-test.true (sym w.is_used.ensures ∙ w.if-is_used.true) (sym w.is_used-then-is_used.ensures ∙ w.if-is_used-2.true))
      | else-loop-row-test w ↦ let e : r ≡ c.args.height = omega arith in w.collision-is ∙ sym c.loop-row.invariant ∙ ap (collision_in u x) e
    ]

byte : (b : Bool) → bool_byte b ≡ cond b 1 0
byte true = refl
byte false = refl

pub loop-p-preserved : goal.loop-p-preserved
loop-p-preserved c =
    let a = c.args in
    let l = c.loop-p in
    let x = a.start + 2 * l.p in
    let more = extra_in a.used.now a.height in
    let m = c.from-more.result in
    let e : m ≡ more x = c.from-more.ensures ∙ byte c.loop-row-test.collision ∙ ap (λ b. cond b 1 0) (collided (goal.at.loop-p-preserved c).After-from-more) in
    let h : m ≤ 1 = rw e (extra_le (collision_in a.used.now x a.height)) in (
      omega arith,
      next-next more a.start l.p l.new m l.invariant.1 e,
      table_more more a.start l.p l.table l.new (l.new + m) (omega (arith, c.requires.1, c.requires.2)) l.invariant.2 l.invariant.1 (ap (λ y. l.new + y) e),
      length-set (set l.table x l.new) (x + 1) (l.new + m) ∙ length-set l.table x l.new ∙ l.invariant.3,
    )
