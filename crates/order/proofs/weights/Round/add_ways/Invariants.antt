-- `Round::add_ways` meets its contract: the ways to the nodes before c are added.
-- Assumes nothing.
use Prim.Native.Nat.{◌<◌}
use Rattle.order.specs.code.Sums.{makes, at, Over}
use Rattle.order.proofs.weights.Round.add_ways.Given as goal

abbrev pub invariant-loop-c : goal.invariant-loop-c
invariant-loop-c l = (0 < at l.initial.sums l.a l.b) × Over (makes l.self) l.c l.a l.b l.initial.sums l.sums
