-- `StandIn::put` meets its contract: after i turns the first i bytes of the text are put. Assumes nothing.
use mathlib.Core.Path.{◌≡◌}
use lib.ListN.{take}
use Rattle.path.specs.Writer.{put}
use Rattle.path.specs.Label.{stand_in}
use Rattle.path.proofs.stand_in.StandIn.put.Given as goal

abbrev pub invariant-loop-i : goal.invariant-loop-i
invariant-loop-i l = l.table ≡ put l.initial.table l.s.start (take l.i (stand_in l.self.number))
