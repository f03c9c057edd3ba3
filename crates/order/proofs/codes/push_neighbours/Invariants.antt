-- `codes::push_neighbours` meets its contract: the codes of the neighbours that are left are still to be pushed.
-- Assumes nothing.
use Rattle.std.proofs.Common.{◌≡◌, map}
use Rattle.order.specs.Against.{neighbours}
use Rattle.order.specs.code.Sums.{code_of}
use Rattle.order.proofs.Pushed.{Left}
use Rattle.order.proofs.codes.push_neighbours.Given as goal

abbrev pub invariant-loop-pair : goal.invariant-loop-pair
invariant-loop-pair l = (l.pair-iterator.size ≡ 2) × Left l.initial.codes l.codes (map code_of (neighbours l.to)) (map code_of (neighbours l.pair-iterator.rest.now))
