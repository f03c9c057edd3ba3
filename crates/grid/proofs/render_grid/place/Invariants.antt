-- `render_grid::place`: each turn places the next box.
-- Assumes nothing.
use Rattle.std.proofs.Common.{◌≡◌, ◌++◌, map, take, drop}
use Rattle.grid.specs.code.Laid.{placed_at}
use Rattle.grid.proofs.render_grid.place.Given as goal

abbrev pub invariant-loop-b : goal.invariant-loop-b
invariant-loop-b l = l.boxes ≡ map (placed_at l.xs l.ys) (take l.b-index l.initial.boxes) ++ drop l.b-index l.initial.boxes
