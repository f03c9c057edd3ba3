-- `columns::new_columns`: no row so far uses both, and one pair more at each turn of the outer loop.
-- Assumes nothing.
use Rattle.std.proofs.Common.{◌≡◌, ◌≤◌, ◌+◌, ◌*◌, false, length, take}
use Rattle.grid.specs.code.Arrays.{collision_in, extra_in, table_to, next_new}
use Rattle.grid.proofs.columns.new_columns.Given as goal

abbrev pub invariant-loop-row : goal.invariant-loop-row
invariant-loop-row l = collision_in l.used l.x l.row ≡ false

abbrev pub invariant-loop-p : goal.invariant-loop-p
invariant-loop-p l = (l.new ≤ l.start + 2 * l.p) × (l.new ≡ next_new (extra_in l.used l.height) l.p l.start l.start)
    × (take (l.start + 2 * l.p) l.table ≡ table_to l.start l.p (extra_in l.used l.height)) × (length l.table ≡ 146)
