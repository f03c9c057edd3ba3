-- `push` sets the place of the count, and counts one more.
-- Assumes nothing.
use mathlib.Core.Path.{refl}
use Rattle.tables.proofs.Table.push.Goals as goal

pub returns-clause-table : goal.returns-clause-table
returns-clause-table g c = refl
