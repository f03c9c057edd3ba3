-- `columns::largest_end`: the chain folds from the first on.
-- Assumes nothing.
use Rattle.std.proofs.Common.{ap, sym, ◌∙◌, rules, tests}
use Rattle.std.specs.Option.{unwrap_or}
use Rattle.std.proofs.lemmas.Iterator.Adapters.{option_map_id, serves_from_places}
use Rattle.std.proofs.lemmas.Iterator.{YieldsList-from_slice, YieldsList-from_map}
use Rattle.std.proofs.lemmas.Iterator.Consumers.{max_from_yields_List}
use Rattle.grid.specs.Columns.{at, columns_of}
use Rattle.grid.proofs.ListLaws.{largest-reduced, item-below}
use Rattle.grid.proofs.columns.largest_end.Goals as goal

pub max-requires-clause-can : goal.max-requires-clause-can
max-requires-clause-can c =
    let a = c.args in
    (tt, serves_from_places (YieldsList-from_slice a.nodes.now cc) (λ x q r. search rules) (λ q k h e. let b = item-below c.requires k h q.now e in search rules))

pub returns : goal.returns
returns c =
    let a = c.args in
    c.unwrap_or.ensures ∙ ap (λ o. unwrap_or o 0) (sym (option_map_id c.max.result) ∙ max_from_yields_List _ c.max.result c.max.ensures.ran (YieldsList-from_map _ (at a.cols.now) (YieldsList-from_slice a.nodes.now cc) c.map.ensures.closure (λ q x f k. search (rules, tests)))) ∙ largest-reduced (columns_of a.cols.now a.nodes.now)
