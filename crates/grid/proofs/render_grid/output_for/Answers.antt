-- `render_grid::output_for`: what `find`, and `nth`, give.
-- Assumes nothing.
use Rattle.std.proofs.Common.{rules, tests, refl, sym, ◌∙◌, eqb}
use Rattle.std.proofs.lemmas.Iterator.Search.{find_from_yields_List}
use Rattle.std.proofs.lemmas.Iterator.Adapters.{option_map_id}
use Rattle.std.proofs.lemmas.Iterator.Consumers.{YieldsList-from_first, nth_from_yields_List}
use Rattle.grid.specs.declared.render_node.row.End.{End}
use Rattle.grid.specs.code.Row.{ends_left}
use Rattle.grid.proofs.render_grid.output_for.Goals as goal

pub returns-in-None : goal.returns-in-None
returns-in-None c =
    let a = c.args in
    let found =
    find_from_yields_List (λ (e : End). eqb e.item.to a.k) c.find.new.self _ c.find.result c.find.ensures.ran (YieldsList-from_first (λ (e : End). e) ends_left (ends_left a.sinks) refl) (λ x b q k. search (rules, tests)) in
    rw c.in-None.is (sym (option_map_id c.find.result) ∙ found)

pub returns-in-Some : goal.returns-in-Some
returns-in-Some c =
    let found = nth_from_yields_List c.nth.result c.nth.new.self _ c.nth.ensures.ran (YieldsList-from_first (λ (e : End). e) ends_left (ends_left c.args.sinks) refl) in
    rw c.in-Some.is (sym (option_map_id c.nth.result) ∙ found)
