-- `judge::outside_of`: what `find` finds, and its target.
-- Assumes nothing.
use mathlib.Core.Bool.{◌&&◌}
use lib.Dec.{eqb, leb}
use Rattle.std.proofs.Common.{rules, tests, ap, ◌∙◌}
use Rattle.std.specs.Option.{option_map}
use Rattle.std.proofs.lemmas.Iterator.{YieldsList-from_slice}
use Rattle.std.proofs.lemmas.Iterator.Search.{find_from_yields_List}
use Rattle.chart.specs.declared.Item.{Item}
use Rattle.chart.proofs.Targets.{found-outside, mapped-found}
use Rattle.chart.proofs.judge.outside_of.Goals as goal

pub returns : goal.returns
returns c =
    let a = c.args in
    let found = find_from_yields_List (λ (e : Item). eqb e.owner a.owner && leb a.n e.to) c.find.new.self _ c.find.result c.find.ensures.ran (YieldsList-from_slice a.items.now c.iter.ensures.rest) (λ x b q k. search (rules, tests)) in
    mapped-found c.find.result c.map.result _ c.map.ensures.cases (λ x t p. search (rules))
    ∙ ap (option_map (λ (e : Item). e.to)) found
    ∙ found-outside a.owner a.n a.items.now
