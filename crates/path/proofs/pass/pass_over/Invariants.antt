-- `pass::pass_over` meets its contract: after i turns the pass is `pass_to` i. Assumes nothing.
use mathlib.Core.Path.{◌≡◌}
use Rattle.path.specs.code.Pass.{pass_to}
use Rattle.path.proofs.pass.pass_over.Given as goal

abbrev pub invariant-loop-i : goal.invariant-loop-i
invariant-loop-i l = l.m ≡ pass_to l.k l.text l.i
