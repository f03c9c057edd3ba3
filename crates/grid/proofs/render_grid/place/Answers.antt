-- `render_grid::place`: each turn places the next box.
-- Assumes nothing.
use Rattle.std.proofs.Common.{get_or, arith}
use Rattle.std.proofs.lemmas.List.Edits.{map_over_more}
use Rattle.laws.proofs.Lists.{get_d_any}
use Rattle.grid.specs.Record.{no_box}
use Rattle.grid.specs.code.Laid.{placed_at}
use Rattle.grid.proofs.render_grid.place.Goals as goal

pub loop-b-preserved : goal.loop-b-preserved
loop-b-preserved c =
    let l = c.loop-b in
    map_over_more (placed_at c.args.xs.now c.args.ys.now) c.args.boxes.now l.boxes l.b-index (get_or l.boxes l.b-index no_box) c.loop-b-test.true l.invariant
    (get_d_any l.boxes l.b-index no_box (get_or l.boxes l.b-index no_box) (omega (arith, c.loop-b-test.true)))
