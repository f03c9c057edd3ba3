-- `weights::tally` meets its contract: after k turns the table has the first k codes.
-- Assumes nothing.
use native.Mathlib.Omega.{arith}
use mathlib.Core.Path.{refl}
use Rattle.order.specs.code.Sums.{tallied}
use Rattle.order.proofs.Start.{tallied-next, tallied-most}
use Rattle.order.proofs.weights.tally.Goals as goal

pub loop-code-init : goal.loop-code-init
unfolding tallied
loop-code-init c = refl

pub against-requires-clause-by_index : goal.against-requires-clause-by_index
against-requires-clause-by_index c = λ i. rw c.loop-code.invariant (omega (arith, tallied-most c.args.codes.now c.args.sums.now c.requires.by_index c.loop-code.code-index i))

pub loop-code-preserved : goal.loop-code-preserved
loop-code-preserved c = rw (tallied-next, c.against.ensures, c.loop-code.invariant)
