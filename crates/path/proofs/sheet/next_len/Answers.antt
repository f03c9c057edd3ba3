-- `sheet::next_len` meets its contract. Assumes nothing.
use native.Mathlib.Omega.{arith}
use Rattle.path.proofs.Sheets.{range_bound}
use Rattle.path.proofs.sheet.next_len.Goals as goal

pub overflow_add-result : goal.overflow_add-result
overflow_add-result c = omega (arith, c.segment_len-n.ensures, range_bound c.args.d c.requires)
