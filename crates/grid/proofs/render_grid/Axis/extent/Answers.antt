-- `Axis::extent`: the largest of those that the chain passes.
-- Assumes nothing.
use Rattle.std.proofs.Common.{rules, tests, ap, sym, ◌∙◌, eqb, map}
use Rattle.std.specs.List.{filter}
use Rattle.std.specs.Option.{unwrap_or}
use Rattle.std.proofs.lemmas.Iterator.{YieldsList-from_slice, YieldsList-from_map}
use Rattle.std.proofs.lemmas.Iterator.Adapters.{option_map_id}
use Rattle.std.proofs.lemmas.Iterator.Consumers.{YieldsList-from_filter, YieldsList-at, max_from_yields_List}
use Rattle.grid.specs.declared.BoxRecord.{BoxRecord}
use Rattle.grid.specs.code.Laid.{line_of, size_of}
use Rattle.grid.proofs.ListLaws.{largest-reduced}
use Rattle.grid.proofs.LaidLaws.{extent-is}
use Rattle.grid.proofs.render_grid.Axis.extent.Goals as goal

pub returns : goal.returns
returns c =
    let a = c.args in
    let bs = a.boxes.now in
    c.unwrap_or.ensures
    ∙ ap (λ o. unwrap_or o 0)
    (sym (option_map_id c.max.result)
    ∙ max_from_yields_List _ c.max.result c.max.ensures.ran
    (YieldsList-from_map _ (size_of a.self) (YieldsList-at c.map.ensures.source (YieldsList-from_filter _ (λ (b : BoxRecord). eqb (line_of a.self b) a.c) (YieldsList-at c.filter.ensures.source (YieldsList-from_slice bs c.iter.ensures.rest)) c.filter.ensures.closure (λ x r q k. search (rules, tests)))) c.map.ensures.closure (λ x r q k. search (rules, tests))))
    ∙ largest-reduced (map (size_of a.self) (filter (λ b. eqb (line_of a.self b) a.c) bs))
    ∙ extent-is a.self a.c bs
