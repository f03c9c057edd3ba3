-- `columns::columns`: one round more at each turn.
-- Assumes nothing.
use Rattle.std.proofs.Common.{◌≡◌}
use Rattle.laws.specs.Each.{each}
use Rattle.grid.specs.Columns.{round}
use Rattle.grid.proofs.columns.columns.Given as goal

abbrev pub invariant-loop-k : goal.invariant-loop-k
invariant-loop-k l = l.cols ≡ each l.initial.cols (λ i. round l.leads l.rows) l._k
