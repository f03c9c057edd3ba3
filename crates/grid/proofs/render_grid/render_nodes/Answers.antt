-- `render_grid::render_nodes`: each turn stores the next box and its ends.
-- Assumes nothing.
use Rattle.std.proofs.Common.{ℕ}
use borrow.Author.Count.{below_more}
use Rattle.graph.specs.Graph.{node_at}
use Rattle.graph.specs.code.Tables.{graph_of}
use Rattle.grid.specs.Record.{no_box}
use Rattle.grid.specs.code.Rendered.{render_of, Modest}
use Rattle.grid.specs.code.Laid.{sized, no_sides, sides_of}
use Rattle.grid.proofs.Arrays.{filled_next}
use Rattle.grid.proofs.render_grid.render_nodes.Goals as goal

pub loop-k-preserved : goal.loop-k-preserved
unfolding render_of
loop-k-preserved c =
    let a = c.args in
    let l = c.loop-k in
    let n = node_at (graph_of a.g.now) l.k in
    let e = c.node_of-node.ensures.0 in (
      rw (l.invariant.0, e, c.owner_of.ensures) (filled_next (sized a.g.now a.rows.now a.cols.now) 48 no_box l.k),
      rw (l.invariant.1, e) (filled_next (λ (k : ℕ). sides_of (node_at (graph_of a.g.now) k)) 48 no_sides l.k),
      below_more (λ (k : ℕ). Modest (render_of (node_at (graph_of a.g.now) k))) l.k l.invariant.2 (rw (← e) c.node_of-node.ensures.1),
    )
