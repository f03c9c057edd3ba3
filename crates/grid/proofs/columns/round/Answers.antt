-- `columns::round`: two folds and the averaging.
-- Assumes nothing.
use Rattle.grid.proofs.RoundLaws.{twice_boxes}
use Rattle.grid.proofs.columns.round.Goals as goal

pub average_all-requires : goal.average_all-requires
average_all-requires c = rw c.folds.ensures (twice_boxes _ c.args.rows.now c.args.cols.now c.requires)
