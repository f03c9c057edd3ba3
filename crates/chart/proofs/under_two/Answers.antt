-- `under_two`: the empty board.
-- Assumes nothing.
use borrow.Author.Tests.{eq-eqb}
use Rattle.chart.specs.code.Filled.{tables_of}
use Rattle.chart.proofs.under_two.Goals as goal

pub returns : goal.returns
unfolding tables_of
returns c = rw (c.empty.ensures, eq-eqb _ _ c.if-len-ne0.false)
