-- `writer::pair_len` meets its contract. Assumes nothing.
use native.Mathlib.Omega.{arith}
use Rattle.path.proofs.Numbers.{number_bound}
use Rattle.path.proofs.writer.pair_len.Goals as goal

pub overflow_add-result : goal.overflow_add-result
overflow_add-result c = omega (arith, c.number_len.ensures, c.number_len-2.ensures, number_bound c.args.x, number_bound c.args.y)

pub overflow_add-result-2 : goal.overflow_add-result-2
overflow_add-result-2 c = omega (arith, c.number_len.ensures, c.number_len-2.ensures, number_bound c.args.x, number_bound c.args.y)
