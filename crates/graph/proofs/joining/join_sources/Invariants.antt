-- `joining::join_sources`: each turn keeps what is left to do, by the laws of `BoxTurns`.
-- Assumes nothing.
use Prim.Native.Nat.{ℕ}
use mathlib.Core.Path.{◌≡◌}
use lib.ListN.{length}
use Rattle.graph.specs.Joining.{join_source, join_sources}
use Rattle.graph.proofs.Boxes.{Going}
use Rattle.graph.proofs.joining.join_sources.Given as goal

abbrev pub invariant-loop-k : goal.invariant-loop-k
invariant-loop-k l = (length l.t.names ≡ 48) × ((i : ℕ) × Going (λ u. u.sources) (join_source l.n) (join_sources l.n) l.initial.t l.p l.t i l.k)
