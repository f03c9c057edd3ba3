-- `leads::put_ends`: what is put, and the ends that are left.
-- Assumes nothing.
use Rattle.std.proofs.Common.{◌≡◌, drop}
use Rattle.graph.specs.Ends.{targets_of}
use Rattle.grid.specs.code.Leads.{with_all}
use Rattle.grid.proofs.leads.put_ends.Given as goal

abbrev pub invariant-loop-l : goal.invariant-loop-l
invariant-loop-l l = with_all l.to (targets_of l.p (drop l.l-index l.leads)) ≡ with_all l.initial.to (targets_of l.p l.leads)
