-- `columns::sum_of`: the sum of the chain.
-- Assumes nothing.
use Rattle.std.proofs.Common.{◌∙◌, rules, tests, arith}
use Rattle.std.proofs.lemmas.Iterator.Adapters.{serves_from_places}
use Rattle.std.proofs.lemmas.Iterator.{YieldsList-from_slice, YieldsList-from_map}
use Rattle.std.proofs.lemmas.Iterator.Consumers.{sum_from_yields_List}
use Rattle.grid.specs.Columns.{at, columns_of}
use Rattle.grid.proofs.AverageLaws.{columns-total}
use Rattle.grid.proofs.ListLaws.{item-below, total-summed}
use Rattle.grid.proofs.columns.sum_of.Goals as goal

pub sum-requires-clause-can : goal.sum-requires-clause-can
sum-requires-clause-can c =
    (tt, serves_from_places (YieldsList-from_slice c.args.nodes.now cc) (λ x q r. search rules) (λ q k h e. let b = item-below c.requires.inside.0 k h q.now e in search rules))

pub returns : goal.returns
returns c =
    let a = c.args in
    let e =
    sum_from_yields_List _ c.sum.result c.sum.ensures.ran (YieldsList-from_map _ (at a.cols.now) (YieldsList-from_slice a.nodes.now cc) c.map.ensures.closure (λ q x f k. search (rules, tests)))
    ∙ total-summed (columns_of a.cols.now a.nodes.now) in
    (e, omega (arith, e, columns-total a.cols.now a.nodes.now 144 c.requires.inside.0 c.requires.inside.1))
