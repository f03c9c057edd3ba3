-- `Round::row` meets its contract: as b falls, the ways over the nodes from b on are added.
-- Assumes nothing.
use Prim.Native.Nat.{suc, ◌-◌}
use native.Mathlib.Omega.{arith}
use mathlib.Core.Path.{◌≡◌}
use Rattle.order.specs.code.Sums.{makes}
use Rattle.order.proofs.InPlace.{row-start, row_step, row_fits}
use Rattle.order.proofs.weights.Round.row.Goals as goal

pub loop-b-init : goal.loop-b-init
loop-b-init c = (c.requires.inside, row-start (makes c.args.self) c.args.n c.args.a (c.args.n - 1) c.args.sums.now (omega arith))

pub add_ways-requires : goal.add_ways-requires
add_ways-requires c =
    let l = c.loop-b in
    row_fits (makes c.args.self) c.args.n c.args.a c.requires.few c.args.sums.now l.sums (l.b - 1) (omega arith) l.invariant.1 c.requires (omega arith)

pub loop-b-preserved : goal.loop-b-preserved
loop-b-preserved c =
    let l = c.loop-b in
    let e : suc (l.b - 1 - 1) ≡ l.b - 1 = omega arith in
    (omega arith, row_step (makes c.args.self) c.args.n c.args.a c.requires.few c.args.sums.now l.sums (l.b - 1) (omega arith) l.invariant.1 c.add_ways.new.sums c.add_ways.ensures (l.b - 1 - 1) e)
