-- `leads::leads_of`: after p turns the ends of the first p nodes are put, and their bounds.
-- Assumes nothing.
use Rattle.std.proofs.Common.{◌≡◌}
use Rattle.grid.proofs.LeadLaws.{table_to, Bounds}
use Rattle.grid.proofs.leads.leads_of.Given as goal

abbrev pub invariant-loop-p : goal.invariant-loop-p
invariant-loop-p l = (l.to ≡ table_to l.sources l.sinks l.p) × Bounds l.sources l.sinks l.p l.bounds
