-- `find_cycle`: what is left of the walk at the path so far is the whole walk.
-- Assumes nothing.
use Rattle.signal.specs.code.Nodes.{sources_of}
use Rattle.signal.proofs.Codes.{Back}
use Rattle.signal.proofs.Sources.find_cycle.Given as goal

abbrev pub invariant-loop : goal.invariant-loop
invariant-loop l = Back (sources_of l.self.leads.now) l.done l.self.n l.path l.counter l.q
