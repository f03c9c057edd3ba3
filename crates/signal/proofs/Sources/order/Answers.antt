-- `order`: the list has all nodes, or the walk back ends in a cycle.
-- Assumes nothing.
use Rattle.std.proofs.Common.{◌∙◌, ap}
use Rattle.signal.specs.Signal.{back_from}
use Rattle.signal.specs.code.Nodes.{sources_of}
use Rattle.signal.specs.Outcome.{nodes_held}
use Rattle.signal.proofs.Codes.{answer-cycle}
use Rattle.signal.proofs.Sources.order.Goals as goal

pub returns : goal.returns
returns c =
    let a = c.args in
    let s = sources_of a.self.now.leads.now in
    answer-cycle a.self.now.n s c.list-all.result c.list-all.ensures.whole c.list-all.ensures.few c.if-all-self.false c.find_cycle.result
    (c.find_cycle.ensures ∙ ap (λ d. nodes_held (back_from a.self.now.n s d)) c.as_slice.ensures.items)
