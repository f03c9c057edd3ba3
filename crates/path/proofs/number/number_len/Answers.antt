-- `number::number_len` meets its contract: by the parity. Assumes nothing.
use mathlib.Core.Path.{sym, ◌∙◌}
use Prim.Native.Nat.{◌/◌}
use native.Mathlib.Omega.{arith}
use Rattle.path.proofs.Numbers.{length-even, length_odd, length_bound}
use Rattle.path.proofs.number.number_len.Goals as goal

pub returns-then-h-eq0 : goal.returns-then-h-eq0
returns-then-h-eq0 c = c.digits_len-n.ensures ∙ sym (length-even c.args.h c.if-h-eq0.true)

pub overflow_add-result : goal.overflow_add-result
overflow_add-result c = omega (arith, c.digits_len-n.ensures, length_bound (c.args.h / 2))

pub returns : goal.returns
returns c = omega (arith, c.digits_len-n.ensures, length_odd c.args.h c.if-h-eq0.false)
