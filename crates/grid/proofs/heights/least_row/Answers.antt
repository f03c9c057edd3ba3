-- `heights::least_row`: the chain folds from 0 on.
-- Assumes nothing.
use Rattle.std.proofs.Common.{rules, tests, pos, option_to_list, length, arith}
use Rattle.std.specs.Int.{int_min}
use Rattle.std.proofs.lemmas.Iterator.Adapters.{YieldsList-from_once, YieldsList-from_flatten}
use Rattle.std.proofs.lemmas.Iterator.{YieldsList-from_slice}
use Rattle.std.proofs.lemmas.Iterator.Consumers.{YieldsList-at, YieldsList-from_copied, fold_from_yields_List}
use Rattle.grid.proofs.SignedLaws.{back}
use Rattle.grid.proofs.LowerLaws.{least_is}
use Rattle.grid.proofs.heights.least_row.Goals as goal

pub returns : goal.returns
returns c =
    let zs = c.args.walked.now in
    let e =
    fold_from_yields_List _ int_min (pos 0) c.fold.result c.fold.ensures.ran
    (YieldsList-from_flatten _ _ (λ x. x) option_to_list (λ x j b. YieldsList-from_once x b.0)
    (YieldsList-at c.flatten.ensures.source (YieldsList-from_copied (YieldsList-at c.copied.ensures.source (YieldsList-from_slice zs cc))))
    c.flatten.ensures.front c.flatten.ensures.back c.flatten.ensures.done)
    (λ m z b q k. search (rules, tests)) in
    let w = rw (← e) at (least_is (length zs) zs c.requires.1) in
    rw (back c.fold.result (omega (arith, w.near, c.requires.0))) w
