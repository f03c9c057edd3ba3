-- `joining::count_far`: the filter keeps what `far` does.
-- Assumes nothing.
use mathlib.Core.Path.{ap, ◌∙◌}
use lib.Dec.{leb}
use lib.ListN.{length}
use Rattle.std.proofs.Common.{rules, tests}
use Rattle.std.proofs.lemmas.Iterator.{YieldsList-from_slice}
use Rattle.std.proofs.lemmas.Iterator.Consumers.{YieldsList-at, YieldsList-from_filter, count_from_yields_List}
use Rattle.graph.specs.declared.Item.{Item}
use Rattle.graph.proofs.Boxes.{filter-far}
use Rattle.graph.proofs.joining.count_far.Goals as goal

pub returns : goal.returns
returns c =
    count_from_yields_List c.filter.result _ c.count.ensures.ran
    (YieldsList-from_filter _ (λ (e : Item). leb c.args.n e.to) (YieldsList-at c.filter.ensures.source (YieldsList-from_slice c.args.items.now cc)) c.filter.ensures.closure (λ x r q k. search (rules, tests)))
    ∙ ap (length {A = Item}) (filter-far c.args.n c.args.items.now)
