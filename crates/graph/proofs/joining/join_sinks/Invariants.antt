-- `joining::join_sinks`: each turn keeps what is left to do, by the laws of `BoxTurns`.
-- Assumes nothing.
use Prim.Native.Nat.{ℕ}
use mathlib.Core.Path.{◌≡◌}
use lib.ListN.{length}
use Rattle.graph.specs.Joining.{join_sink, join_sinks}
use Rattle.graph.proofs.Boxes.{Going}
use Rattle.graph.proofs.joining.join_sinks.Given as goal

abbrev pub invariant-loop-k : goal.invariant-loop-k
invariant-loop-k l = (length l.t.names ≡ 48) × ((i : ℕ) × Going (λ u. u.sinks) (join_sink l.n) (join_sinks l.n) l.initial.t l.p l.t i l.k)
