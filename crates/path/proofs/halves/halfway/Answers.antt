-- `halves::halfway` meets its contract: neither the sum nor the half is rounded (`halfway_at`). Assumes nothing.
use native.Mathlib.Omega.{arith}
use Rattle.path.proofs.Exact.{halfway_at}
use Rattle.path.proofs.halves.halfway.Goals as goal

pub returns : goal.returns
returns c = halfway_at c.args.a c.args.b (omega arith)
