-- `LinkedEnds::push_all` meets its contract: after p turns the codes of the first p nodes are pushed.
-- Assumes nothing.
use Rattle.order.specs.code.Codes.{Pushed}
use Rattle.order.proofs.Pushed.{codes_to}
use Rattle.order.proofs.codes.LinkedEnds.push_all.Given as goal

abbrev pub invariant-loop-p : goal.invariant-loop-p
invariant-loop-p l = Pushed l.initial.codes l.codes (codes_to l.self.sources.now l.self.sinks.now l.p)
