-- `render_node::node_of`: its ends and its lines are those of the graph's node.
-- Assumes nothing.
use Rattle.std.proofs.Common.{◌∙◌}
use Rattle.grid.proofs.NodeLaws.{rendered_is}
use Rattle.grid.proofs.render_node.node_of.Goals as goal

pub returns : goal.returns
returns c =
    let e = c.render_node.ensures.0 ∙ cc (c.ends_of-sources.ensures, c.center_of-lines.ensures, c.ends_of-sinks.ensures) ∙ rendered_is c.args.g.now c.args.p c.requires.p_lt_n in
    (e, c.render_node.ensures.1)
