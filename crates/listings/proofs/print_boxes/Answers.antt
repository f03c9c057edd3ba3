-- `print_boxes`: one box more.
-- Assumes nothing.
use Rattle.std.proofs.Common.{◌+◌, ◌≡◌}
use native.Mathlib.Omega.{arith}
use Rattle.std.proofs.KnownBytes.{Appends-trans}
use Rattle.grid.specs.Record.{no_box}
use Rattle.listings.proofs.Laws.{one-more}
use Rattle.listings.proofs.print_boxes.Goals as goal

pub loop-k-preserved : goal.loop-k-preserved
loop-k-preserved g c =
    let k = c.loop-k.k in
    let z : 0 + k ≡ k = omega arith in
    rw (one-more 0 k c.args.boxes.now no_box c.loop-k-test.true, z) (Appends-trans _ _ _ _ _ c.loop-k.invariant c.in_ok-print_box.ensures)
