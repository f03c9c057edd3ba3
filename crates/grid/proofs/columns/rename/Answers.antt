-- `columns::rename`: each turn takes the next box by the table.
-- Assumes nothing.
use Rattle.std.proofs.Common.{get_or, arith}
use Rattle.std.proofs.lemmas.List.Edits.{map_over_more}
use Rattle.laws.proofs.Lists.{get_d_any}
use Rattle.grid.specs.Columns.{at}
use Rattle.grid.proofs.columns.rename.Goals as goal

pub loop-x-preserved : goal.loop-x-preserved
loop-x-preserved c =
    let l = c.loop-x in
    map_over_more (at c.args.table.now) c.args.cols.now l.cols l.x-index (get_or l.cols l.x-index 0) c.loop-x-test.true l.invariant
    (get_d_any l.cols l.x-index 0 (get_or l.cols l.x-index 0) (omega (arith, c.loop-x-test.true)))
