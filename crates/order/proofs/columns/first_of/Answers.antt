-- `columns::first_of` meets its contract: the codes are those of the shape.
-- Assumes nothing.
use Rattle.graph.specs.Ends.{shape_from}
use Rattle.order.proofs.Pushed.{shape_size}
use Rattle.order.specs.code.Sums.{Codes}
use Rattle.order.proofs.columns.first_of.Goals as goal
use Rattle.order.proofs.columns.first_of.Goals.{After-as_slice}

-- the codes of the shape
codes : (z : After-as_slice) → Codes (shape_from z.args.nodes.now.n z.args.nodes.now.sources.now z.args.nodes.now.sinks.now) z.as_slice.result.now
codes z = rw z.as_slice.ensures.items z.push_all.ensures

pub first_columns-requires : goal.first_columns-requires
first_columns-requires c =
    record {
      graph = shape_from c.args.nodes.now.n c.args.nodes.now.sources.now c.args.nodes.now.sinks.now;
      size = shape_size c.args.nodes.now.n c.args.nodes.now.sources.now c.args.nodes.now.sinks.now c.args.nodes.now.sources_linked c.args.nodes.now.sinks_linked;
      codes = codes (goal.at.first_columns-requires c).After-as_slice;
    }

pub returns : goal.returns
returns c =
    c.first_columns.ensures (shape_from c.args.nodes.now.n c.args.nodes.now.sources.now c.args.nodes.now.sinks.now) (codes (goal.at.returns c).After-as_slice) (shape_size c.args.nodes.now.n c.args.nodes.now.sources.now c.args.nodes.now.sinks.now c.args.nodes.now.sources_linked c.args.nodes.now.sinks_linked)
