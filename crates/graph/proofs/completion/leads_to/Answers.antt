-- `completion::leads_to`: what `any` answers, and the records that are owned.
-- Assumes nothing.
use Rattle.std.proofs.Common.{rules, tests, ◌∙◌, ◌&&◌, eqb}
use Rattle.std.proofs.lemmas.Iterator.{YieldsList-from_slice}
use Rattle.std.proofs.lemmas.Iterator.Search.{any_from_yields_List}
use Rattle.graph.specs.declared.Item.{Item}
use Rattle.graph.proofs.Lists.{any-leads}
use Rattle.graph.proofs.completion.leads_to.Goals as goal

pub returns : goal.returns
returns c =
    any_from_yields_List (λ (e : Item). eqb e.owner c.args.q && eqb e.to c.args.p) _ _ _ c.any.ensures.ran (YieldsList-from_slice c.args.items.now cc) (λ x b q k. search (rules, tests))
    ∙ any-leads c.args.q c.args.p c.args.items.now
