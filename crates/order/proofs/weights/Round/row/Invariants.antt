-- `Round::row` meets its contract: as b falls, the ways over the nodes from b on are added.
-- Assumes nothing.
use Prim.Native.Nat.{◌<◌, ◌-◌}
use Rattle.order.specs.code.Sums.{makes, Row}
use Rattle.order.proofs.weights.Round.row.Given as goal

abbrev pub invariant-loop-b : goal.invariant-loop-b
invariant-loop-b l = (l.a < l.b) × Row (makes l.self) l.n l.a (l.b - 1) l.initial.sums l.sums
