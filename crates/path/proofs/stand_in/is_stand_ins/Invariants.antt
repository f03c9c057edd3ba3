-- `stand_in::is_stand_ins` meets its contract: after j turns the table begins with the first j texts. Assumes nothing.
use mathlib.Core.Path.{◌≡◌}
use lib.ListN.{length, take}
use Rattle.path.specs.Label.{stand_ins_to}
use Rattle.path.proofs.stand_in.is_stand_ins.Given as goal

abbrev pub invariant-loop-j : goal.invariant-loop-j
invariant-loop-j l = take (length (stand_ins_to l.j)) l.table ≡ stand_ins_to l.j
