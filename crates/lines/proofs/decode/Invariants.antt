-- `decode`: the bytes so far are decoded.
-- Assumes nothing.
use mathlib.Core.Path.{◌≡◌}
use Rattle.lines.specs.Lines.{decoded}
use Rattle.lines.proofs.decode.Given as goal

abbrev pub invariant-loop-k : goal.invariant-loop-k
invariant-loop-k l = l.out ≡ decoded l.text l.k l.initial.out
