-- `halves::whole` meets its contract. Assumes nothing.
use Rattle.path.proofs.Exact.{of_int_lem}
use Rattle.path.proofs.halves.whole.Goals as goal

pub returns : goal.returns
returns c = of_int_lem c.args.n
