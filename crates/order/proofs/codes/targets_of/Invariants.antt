-- `codes::targets_of` meets its contract: after k turns the table holds the targets among the first k leads.
-- Assumes nothing.
use Rattle.std.proofs.Common.{◌≡◌, take}
use Rattle.graph.specs.Ends.{targets_of}
use Rattle.order.specs.code.Codes.{held}
use Rattle.order.proofs.codes.targets_of.Given as goal

abbrev pub invariant-loop-e : goal.invariant-loop-e
invariant-loop-e l = l.to ≡ held (targets_of l.p (take l.e-index l.leads))
