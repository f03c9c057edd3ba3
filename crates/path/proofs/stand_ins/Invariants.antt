-- `stand_ins` meets its contract: after j turns the first j texts are put. Assumes nothing.
use Prim.Native.Nat.{ℕ}
use mathlib.Core.Path.{◌≡◌}
use mathlib.Core.List.{List}
use lib.ListN.{replicate}
use Rattle.path.specs.Writer.{put}
use Rattle.path.specs.Label.{stand_ins_to}
use Rattle.path.proofs.stand_ins.Given as goal

abbrev pub zeros : List ℕ
zeros = replicate 3293 0

abbrev pub invariant-loop-j : goal.invariant-loop-j
invariant-loop-j l = l.table ≡ put zeros 0 (stand_ins_to l.j)
