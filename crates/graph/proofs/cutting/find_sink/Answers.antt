-- `cutting::find_sink`: what `nth` answers.
-- Assumes nothing.
use Rattle.std.proofs.Common.{ℕ, rules, tests, ◌≡◌, eqb, Some, None, MatchOption}
use Rattle.std.proofs.lemmas.Iterator.{YieldsList-from_slice}
use Rattle.std.proofs.lemmas.Iterator.Consumers.{YieldsList-from_filter, YieldsList-from_enumerate, YieldsList-at, nth_from_yields_List}
use Rattle.graph.specs.declared.Item.{Item}
use Rattle.graph.proofs.Finds.{found-is}
use Rattle.graph.proofs.cutting.find_sink.Goals as goal

pub returns : goal.returns
returns c =
    let found = nth_from_yields_List c.nth.result _ c.args.s c.nth.ensures.ran
    (YieldsList-from_filter _ (λ (p : ℕ × Item). eqb p.1.owner c.args.c) (YieldsList-at c.filter.ensures.source (YieldsList-from_enumerate (YieldsList-at c.enumerate.ensures.source (YieldsList-from_slice c.args.items.now cc)) c.enumerate.ensures.count)) c.filter.ensures.closure (λ x b q k. search (rules, tests))) in
    let picked : MatchOption c.nth.result (c.map.result ≡ None) (λ x. c.map.result ≡ Some x.0) = search (rules, tests) in
    found-is c.args.c c.args.s c.args.items.now _ c.nth.result found c.map.result picked
