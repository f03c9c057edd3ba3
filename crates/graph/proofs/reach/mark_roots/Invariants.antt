-- `reach::mark_roots`: what is left to mark gives the whole.
-- Assumes nothing.
use mathlib.Core.Path.{◌≡◌}
use lib.ListN.{take}
use Rattle.graph.proofs.Roots.{rooted}
use Rattle.graph.proofs.reach.mark_roots.Given as goal

abbrev pub invariant-loop-p : goal.invariant-loop-p
invariant-loop-p l = take l.t.n l.seen ≡ rooted l.t l.p
