-- `record::boxes_near`: `all`'s answer.
-- Assumes nothing.
use Rattle.std.proofs.Common.{rules, tests, ◌∙◌}
use Rattle.std.proofs.lemmas.Iterator.{YieldsList-from_slice}
use Rattle.std.proofs.lemmas.Iterator.Search.{all_from_yields_List}
use Rattle.grid.specs.Record.{box_near}
use Rattle.grid.proofs.RecordLaws.{all-is}
use Rattle.grid.proofs.record.boxes_near.Goals as goal

pub returns : goal.returns
returns c =
    let a = c.args in
    all_from_yields_List (box_near a.x a.y) _ _ _ c.all.ensures.ran (YieldsList-from_slice a.boxes.now cc) (λ x b q k. search (rules, tests))
    ∙ all-is (box_near a.x a.y) a.boxes.now
