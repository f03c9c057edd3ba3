-- `codes::push_pairs` meets its contract: the codes from number k on are still to be pushed.
-- Assumes nothing.
use Rattle.std.proofs.Common.{map, drop}
use Rattle.order.specs.code.Sums.{code_of}
use Rattle.order.specs.code.Codes.{with_from}
use Rattle.order.proofs.Pushed.{Left}
use Rattle.order.proofs.codes.push_pairs.Given as goal

abbrev pub invariant-loop-k : goal.invariant-loop-k
invariant-loop-k l = Left l.initial.codes l.codes (map code_of (with_from l.p l.turn 0 l.to)) (map code_of (with_from l.p l.turn l.k (drop l.k l.to)))
