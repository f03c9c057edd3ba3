-- `completion::count_owned`: what `count` answers, and the records that are owned.
-- Assumes nothing.
use Rattle.std.proofs.Common.{rules, tests, ◌∙◌, eqb}
use Rattle.std.proofs.lemmas.Iterator.{YieldsList-from_slice}
use Rattle.std.proofs.lemmas.Iterator.Consumers.{YieldsList-from_filter, count_from_yields_List}
use Rattle.graph.specs.declared.Item.{Item}
use Rattle.graph.proofs.Lists.{filter-owned}
use Rattle.graph.proofs.completion.count_owned.Goals as goal

pub returns : goal.returns
returns c =
    count_from_yields_List c.filter.result _ c.count.ensures.ran
    (YieldsList-from_filter _ (λ (e : Item). eqb e.owner c.args.q) (YieldsList-from_slice c.args.items.now cc) c.filter.ensures.closure (λ x b q k. search (rules, tests)))
    ∙ filter-owned c.args.q c.args.items.now
