-- `ordered_of`: the leads of the sources are those of the graph.
-- Assumes nothing.
use Rattle.std.proofs.Common.{ap, ◌∙◌, take}
use Rattle.graph.specs.Items.{Ends}
use Rattle.signal.specs.Signal.{signalled_by}
use Rattle.signal.specs.Outcome.{answer_of}
use Rattle.signal.specs.code.Nodes.{sources_of}
use Rattle.signal.proofs.Graphs.{leads_hold}
use Rattle.signal.proofs.ordered_of.Goals as goal

pub returns : goal.returns
returns c =
    let t = c.args.g in
    c.order.ensures
    ∙ ap (λ x. answer_of (signalled_by t.n (sources_of x))) c.as_slice.ensures.items
    ∙ ap (λ (x : Ends). answer_of (signalled_by t.n (sources_of (take x.count x.items)))) c.ends_of-ends.ensures
    ∙ ap answer_of (leads_hold t c.requires.linked)
