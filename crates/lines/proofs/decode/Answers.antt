-- `decode`: the bytes so far are decoded.
-- Assumes nothing.
use mathlib.Core.Path.{refl}
use Rattle.laws.specs.Each.{each}
use Rattle.lines.proofs.Laws.{decoded-next}
use Rattle.lines.proofs.decode.Goals as goal

pub loop-k-init : goal.loop-k-init
unfolding each
loop-k-init c = refl

pub loop-k-preserved : goal.loop-k-preserved
loop-k-preserved c = rw (decoded-next, c.digit.ensures, c.digit-in-loop-k.ensures, ← c.loop-k.invariant)
