-- `cut_at`: the nodes written so far and what is left of the path.
-- Assumes nothing.
use Rattle.signal.proofs.Codes.{Cut}
use Rattle.signal.proofs.cut_at.Given as goal

abbrev pub invariant-loop-node : goal.invariant-loop-node
invariant-loop-node l = Cut l.path l.q l.nodes l.node-iterator.iter.rest.now
