-- `Axis::lay`: each turn stores where the next line begins.
-- Assumes nothing.
use Rattle.std.proofs.Common.{◌≡◌, ◌+◌, ◌*◌, ◌≤◌, map}
use Rattle.grid.specs.RenderGrid.{begins}
use Rattle.grid.specs.code.Laid.{line_of, size_of, gap_of, begins_to}
use Rattle.grid.proofs.render_grid.Axis.lay.Given as goal

abbrev pub invariant-loop-c : goal.invariant-loop-c
invariant-loop-c l =
    (l.at ≤ 128 + 8391048 * l.c)
    × (l.at ≡ begins (gap_of l.self) (map (line_of l.self) l.boxes) (map (size_of l.self) l.boxes) l.c)
    × (l.starts ≡ begins_to (gap_of l.self) (map (line_of l.self) l.boxes) (map (size_of l.self) l.boxes) l.c)
