-- `columns::first_move`: the lowest and the highest column of the incidents, and whether the place is free.
-- Assumes nothing.
use Rattle.std.proofs.Common.{◌<◌, arith}
use Rattle.grid.specs.Lists.{largest}
use Rattle.grid.specs.Columns.{columns_of}
use Rattle.grid.proofs.ListLaws.{smallest_le}
use Rattle.grid.proofs.AverageLaws.{columns-below}
use Rattle.grid.proofs.columns.first_move.Goals as goal

pub target_of-goal-requires : goal.target_of-goal-requires
target_of-goal-requires c =
    let cols = c.args.cols.now in
    let nodes = c.incidents-nodes.result.now in
    let high = c.largest_end-high in
    let b = c.requires.boxes in
    let h : largest (columns_of cols nodes) < 144 =
    columns-below cols nodes 144 (omega arith) (record { below = λ k l. omega (arith, c.incidents-nodes.ensures.nodes.below k l, b.cols_long) }) (record { below = λ k l. b.column k (omega (arith, b.cols_long)) }) in
    (b.column c.args.p c.requires.p_lt_n, omega (arith, c.smallest_end-low.ensures, high.ensures, smallest_le high.result (columns_of cols nodes)), omega (arith, high.ensures))
