-- `render_grid::render_nodes`: each turn stores the next box and its ends.
-- Assumes nothing.
use Rattle.std.proofs.Common.{◌≡◌, ℕ, ◌<◌}
use Rattle.laws.specs.Lists.{tabulate, padded}
use Rattle.graph.specs.Graph.{node_at}
use Rattle.graph.specs.code.Tables.{graph_of}
use Rattle.grid.specs.Record.{no_box}
use Rattle.grid.specs.code.Rendered.{render_of, Modest}
use Rattle.grid.specs.code.Laid.{sized, no_sides, sides_of}
use Rattle.grid.proofs.render_grid.render_nodes.Given as goal

abbrev pub invariant-loop-k : goal.invariant-loop-k
invariant-loop-k l =
    (l.boxes ≡ padded 48 no_box (tabulate (sized l.g l.rows l.cols) 0 l.k))
    × (l.sides ≡ padded 48 no_sides (tabulate (λ k. sides_of (node_at (graph_of l.g) k)) 0 l.k))
    × ((k : ℕ) → k < l.k → Modest (render_of (node_at (graph_of l.g) k)))
