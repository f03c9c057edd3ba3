-- `cutting::turn`: the records before the index are turned.
-- Assumes nothing.
use mathlib.Core.Path.{◌≡◌}
use mathlib.Core.List.{◌++◌, map}
use lib.ListN.{take, drop}
use Rattle.graph.specs.code.Tables.{turn_item}
use Rattle.graph.proofs.cutting.turn.Given as goal

abbrev pub invariant-loop-e : goal.invariant-loop-e
invariant-loop-e l = l.e-items ≡ map (turn_item l.q l.c l.to) (take l.e-index l.initial.e-items) ++ drop l.e-index l.initial.e-items
