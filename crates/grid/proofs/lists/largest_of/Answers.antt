-- `lists::largest_of`: the chain folds from the first on.
-- Assumes nothing.
use Rattle.std.proofs.Common.{ap, sym, ◌∙◌}
use Rattle.std.specs.Option.{unwrap_or}
use Rattle.std.proofs.lemmas.Iterator.Adapters.{option_map_id}
use Rattle.std.proofs.lemmas.Iterator.{YieldsList-from_slice}
use Rattle.std.proofs.lemmas.Iterator.Consumers.{YieldsList-from_copied, YieldsList-at, max_from_yields_List}
use Rattle.grid.proofs.ListLaws.{largest-reduced}
use Rattle.grid.proofs.lists.largest_of.Goals as goal

pub returns : goal.returns
returns c =
    let xs = c.args.xs.now in
    let road = YieldsList-from_copied (YieldsList-at c.copied.ensures.source (YieldsList-from_slice xs c.iter.ensures.rest)) in
    c.unwrap_or.ensures ∙ ap (λ o. unwrap_or o 0) (sym (option_map_id c.max.result) ∙ max_from_yields_List _ c.max.result c.max.ensures.ran road) ∙ largest-reduced xs
