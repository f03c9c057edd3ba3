-- `first_left`: what the search over the numbers finds.
-- Assumes nothing.
use Rattle.std.proofs.Common.{◌≡◌, ℕ, ap, ◌∙◌, not, eqb, arith, rules, tests}
use mathlib.Core.Path.{fun_ext}
use Rattle.std.specs.List.{list_any}
use Rattle.std.specs.Option.{unwrap_or}
use Rattle.std.proofs.lemmas.Iterator.{YieldsList-from_range}
use Rattle.std.proofs.lemmas.Iterator.Search.{find_from_yields_List}
use Rattle.signal.specs.Signal.{is_left, lowest}
use Rattle.signal.proofs.Codes.{has-any, found-lowest, lowest_or}
use Rattle.signal.proofs.Sources.first_left.Goals as goal

pub returns : goal.returns
returns c =
    let n = c.args.self.now.n in
    let d = c.args.done.now in
    let test = λ (q : ℕ). not (list_any (λ y. eqb y q) d) in
    let f = find_from_yields_List test _ _ c.find.result c.find.ensures.ran (YieldsList-from_range 0 n n (cc) (omega arith)) (λ x b q k. search (rules, tests)) in
    let e : test ≡ is_left d = fun_ext (λ q. ap not (has-any q d)) in
    c.unwrap_or.ensures ∙ ap (λ o. unwrap_or o n) (found-lowest test n c.find.result f) ∙ lowest_or test n ∙ ap (λ t. lowest n t 0) e
