-- `columns::fold`: the table covers every column that is used.
-- Assumes nothing.
use Rattle.std.proofs.Common.{ℕ, suc, ◌≡◌, ◌<◌, ◌-◌, ◌+◌, ◌/◌, ap, ◌∙◌, arith, rules}
use Rattle.grid.specs.Lists.{largest}
use Rattle.grid.specs.Columns.{pairs_from}
use Rattle.grid.proofs.ListLaws.{largest-below}
use Rattle.grid.proofs.FoldLaws.{fold_is}
use Rattle.grid.proofs.UsedLaws.{table_same}
use Rattle.grid.proofs.columns.fold.Goals as goal
use Rattle.grid.proofs.columns.fold.Goals.{Start}

-- the last row and the last column
last_row : (z : Start) → largest z.args.rows.now < 48
last_row z = largest-below z.args.rows.now 48 (omega arith) z.requires.boxes.row

last-column : (z : Start) → largest z.args.cols.now < 144
last-column z = let b = z.requires.boxes in largest-below z.args.cols.now 144 (omega arith) (λ k h. b.column k (omega (arith, b.cols_long)))

pub overflow_add-height : goal.overflow_add-height
overflow_add-height c = let h = last_row (goal.at.overflow_add-height c).Start in let e = c.largest_of-height.ensures in search rules

pub overflow_add-pairs : goal.overflow_add-pairs
overflow_add-pairs c = let h = last-column (goal.at.overflow_add-pairs c).Start in let e = c.largest_of-last.ensures in search rules

pub new_columns-table-requires : goal.new_columns-table-requires
new_columns-table-requires c =
    let r = last_row (goal.at.new_columns-table-requires c).Start in
    let l = last-column (goal.at.new_columns-table-requires c).Start in
    (omega (arith, c.largest_of-height.ensures), c.requires.start_bound, omega (arith, c.largest_of-last.ensures))

pub returns : goal.returns
returns c =
    let a = c.args in
    let R = a.rows.now in
    let C = a.cols.now in
    let pairs = (c.largest_of-last.result + 2 - a.start) / 2 in
    let r = last_row (goal.at.returns c).Start in
    let l = last-column (goal.at.returns c).Start in
    let e : pairs ≡ pairs_from a.start C = ap (λ (m : ℕ). (m + 2 - a.start) / 2) c.largest_of-last.ensures in
    let h : c.largest_of-height.result + 1 ≡ suc (largest R) = omega (arith, c.largest_of-height.ensures) in
    let same = table_same R C c.used_columns-used.result c.used_columns-used.ensures.tells (c.largest_of-height.result + 1) a.start pairs h (omega arith) (omega (arith, c.requires.start_bound, c.largest_of-last.ensures)) in
    c.rename.ensures ∙ fold_is R C a.start pairs c.new_columns-table.result c.requires.start_bound e (c.new_columns-table.ensures ∙ same)
