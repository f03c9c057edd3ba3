-- `weights::tally` meets its contract: after k turns the table has the first k codes.
-- Assumes nothing.
use mathlib.Core.Path.{◌≡◌}
use Rattle.order.specs.code.Sums.{tallied}
use Rattle.order.proofs.weights.tally.Given as goal

abbrev pub invariant-loop-code : goal.invariant-loop-code
invariant-loop-code l = l.sums ≡ tallied l.codes l.initial.sums l.code-index
