-- `number::digits_len` meets its contract: a power of ten has one digit more than its exponent. Assumes nothing.
use mathlib.Core.Path.{sym}
use native.Mathlib.Omega.{arith}
use Rattle.path.proofs.Numbers.{length-one, length_from}
use Rattle.path.proofs.number.digits_len.Goals as goal

pub returns-in-Some : goal.returns-in-Some
returns-in-Some c = omega (arith, length_from c.in-Some.power c.args.n c.in-Some.ensures.power_le (omega (arith, c.in-Some.ensures.next_power_gt)))

pub returns-in-None : goal.returns-in-None
returns-in-None c = sym (length-one _ (omega (arith, c.in-None.ensures)))
