-- `columns::smallest_end`: the chain folds from the bound on.
-- Assumes nothing.
use Rattle.std.proofs.Common.{min, ◌∙◌, rules, tests}
use Rattle.std.proofs.lemmas.Iterator.Adapters.{serves_from_places}
use Rattle.std.proofs.lemmas.Iterator.{YieldsList-from_slice, YieldsList-from_map}
use Rattle.std.proofs.lemmas.Iterator.Consumers.{fold_from_yields_List}
use Rattle.grid.specs.Columns.{at, columns_of}
use Rattle.grid.proofs.ListLaws.{smallest-folded, item-below}
use Rattle.grid.proofs.columns.smallest_end.Goals as goal

pub fold-requires-clause-can : goal.fold-requires-clause-can
fold-requires-clause-can c =
    (tt, serves_from_places (YieldsList-from_slice c.args.nodes.now cc) (λ x q r. search rules) (λ q k h e. let b = item-below c.requires k h q.now e in search rules))

pub returns : goal.returns
returns c =
    let a = c.args in
    fold_from_yields_List _ min a.most c.fold.result c.fold.ensures.ran (YieldsList-from_map _ (at a.cols.now) (YieldsList-from_slice a.nodes.now cc) c.map.ensures.closure (λ q x f k. search (rules, tests))) (λ m x b q k. search (rules, tests)) ∙ smallest-folded a.most (columns_of a.cols.now a.nodes.now)
