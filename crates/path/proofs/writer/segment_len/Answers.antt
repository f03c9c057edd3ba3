-- `writer::segment_len` meets its contract: the lengths of the parts. Assumes nothing.
use native.Mathlib.Omega.{arith}
use Rattle.path.proofs.Words.{pair_bound}
use Rattle.path.proofs.writer.segment_len.Goals as goal

pub overflow_add-result : goal.overflow_add-result
overflow_add-result c = omega (arith, c.pair_len.ensures, pair_bound c.in-Move.x c.in-Move.y)

pub overflow_add-result-in-Line : goal.overflow_add-result-in-Line
overflow_add-result-in-Line c = omega (arith, c.pair_len-in-Line.ensures, pair_bound c.in-Line.x c.in-Line.y)

pub overflow_add-result-in-Cubic : goal.overflow_add-result-in-Cubic
overflow_add-result-in-Cubic c = omega (arith, c.pair_len-in-Cubic.ensures, pair_bound c.in-Cubic.a c.in-Cubic.b, c.pair_len-in-Cubic-2.ensures, pair_bound c.in-Cubic.c c.in-Cubic.d)

pub overflow_add-result-in-Cubic-2 : goal.overflow_add-result-in-Cubic-2
overflow_add-result-in-Cubic-2 c = omega (arith, c.pair_len-in-Cubic.ensures, pair_bound c.in-Cubic.a c.in-Cubic.b, c.pair_len-in-Cubic-2.ensures, pair_bound c.in-Cubic.c c.in-Cubic.d, c.pair_len-in-Cubic-3.ensures, pair_bound c.in-Cubic.x c.in-Cubic.y)

pub overflow_add-result-in-Cubic-3 : goal.overflow_add-result-in-Cubic-3
overflow_add-result-in-Cubic-3 c = omega (arith, c.pair_len-in-Cubic.ensures, pair_bound c.in-Cubic.a c.in-Cubic.b, c.pair_len-in-Cubic-2.ensures, pair_bound c.in-Cubic.c c.in-Cubic.d, c.pair_len-in-Cubic-3.ensures, pair_bound c.in-Cubic.x c.in-Cubic.y)
