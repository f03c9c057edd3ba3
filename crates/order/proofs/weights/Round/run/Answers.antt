-- `Round::run` meets its contract: the rows before a are done.
-- Assumes nothing.
use Rattle.order.specs.code.Sums.{makes}
use Rattle.order.proofs.InPlace.{rows_step, rows_fit}
use native.Mathlib.Numerals.{add-one}
use native.Mathlib.Omega.{arith}
use Rattle.order.proofs.weights.Round.run.Goals as goal

pub row-requires : goal.row-requires
row-requires c =
    let l = c.loop-a in
    rows_fit (makes c.args.self) c.args.n _ c.args.sums.now l.sums l.invariant.long (λ x y i j k. l.invariant.same x y i j (omega arith)) c.requires (omega arith)

pub loop-a-preserved : goal.loop-a-preserved
loop-a-preserved c = let l = c.loop-a in rw (add-one l.a) (rows_step (makes c.args.self) c.args.n l.a c.requires.few c.args.sums.now l.sums l.invariant c.row.new.sums c.row.ensures)
