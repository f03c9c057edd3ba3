-- `columns::used_columns`: one box more at each turn.
-- Assumes nothing.
use Rattle.std.proofs.Common.{◌%◌, length, rules, arith}
use Rattle.std.proofs.lemmas.Iterator.{empty_from_Zip}
use Rattle.grid.proofs.UsedLaws.{bit_at, none-whole, left_first, left_more, used_all}
use Rattle.grid.proofs.columns.used_columns.Goals as goal

pub loop-r-init : goal.loop-r-init
loop-r-init c = let a = c.args in (none-whole, search (rules, left_first (length a.rows.now) a.rows.now a.cols.now c.requires))

pub loop-r-preserved : goal.loop-r-preserved
loop-r-preserved c =
    let s = c.in-Some.ensures.steps in
    let i = rw (s.0, s.1) at c.loop-r.invariant in
    left_more c.args.rows.now c.args.cols.now c.loop-r.used c.in-Some.r.now c.in-Some.x.now _ _ i.0 i.1 (bit_at (c.in-Some.x.now % 32) (omega arith))

pub returns : goal.returns
returns c =
    let l = c.loop-r in
    let spent = empty_from_Zip _ c.next.new.self _ c.in-None.is c.next.ensures.steps l.invariant.1.long in
    used_all c.args.rows.now c.args.cols.now l.used c.requires.cols_long (rw (spent.0, spent.1) at l.invariant.1)
