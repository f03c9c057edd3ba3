-- `list`: after each turn the table holds the list so far.
-- Assumes nothing.
use Rattle.signal.specs.code.Nodes.{sources_of}
use Rattle.signal.proofs.Codes.{Lists}
use Rattle.signal.proofs.Sources.list.Given as goal

abbrev pub invariant-loop : goal.invariant-loop
invariant-loop l = Lists l.self.n (sources_of l.self.leads.now) l.nodes l.counter
