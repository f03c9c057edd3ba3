-- `first_out`: what `find` finds, and its target.
-- Assumes nothing.
use mathlib.Core.Bool.{◌&&◌, not}
use lib.Dec.{eqb}
use Rattle.std.proofs.Common.{rules, tests, ap, ◌∙◌}
use Rattle.std.specs.List.{list_any}
use Rattle.std.specs.Option.{option_map}
use Rattle.std.proofs.lemmas.Iterator.{YieldsList-from_slice}
use Rattle.std.proofs.lemmas.Iterator.Search.{find_from_yields_List}
use Rattle.graph.specs.declared.Lead.{Lead}
use Rattle.signal.proofs.Codes.{found-out, mapped-found}
use Rattle.signal.proofs.Sources.first_out.Goals as goal

pub returns : goal.returns
returns c =
    let a = c.args in
    let found = find_from_yields_List (λ (e : Lead). eqb e.owner a.p && not (list_any (λ y. eqb y e.to) a.done.now)) c.find.new.self _ c.find.result c.find.ensures.ran (YieldsList-from_slice a.self.now.leads.now c.iter.ensures.rest) (λ x b q k. search (rules, tests)) in
    mapped-found c.find.result c.map.result _ c.map.ensures.cases (λ x t p. search (rules))
    ∙ ap (option_map (λ (e : Lead). e.to)) found
    ∙ found-out a.done.now a.p a.self.now.leads.now
