-- `StandIn::is_same` meets its contract: what `all` answers. Assumes nothing.
use Rattle.std.proofs.Common.{ℕ, ◌∙◌, ap, eqb, rules, tests}
use native.Mathlib.Nat.{zero-add}
use lib.ListN.{get_or}
use Rattle.std.proofs.lemmas.Iterator.{YieldsList-from_slice}
use Rattle.std.proofs.lemmas.Iterator.Consumers.{YieldsList-from_enumerate}
use Rattle.std.proofs.lemmas.Iterator.Search.{all_from_yields_List}
use Rattle.path.specs.Label.{stand_in}
use Rattle.path.proofs.Labels.{all-enumerated}
use Rattle.path.proofs.stand_in.StandIn.is_same.Goals as goal

pub returns : goal.returns
returns c =
    let part = c.args.part.now in
    let t = stand_in c.args.self.number in
    all_from_yields_List (λ (p : ℕ × ℕ). eqb p.1 (get_or t p.0 0)) _ _ c.all.result c.all.ensures.ran (YieldsList-from_enumerate (YieldsList-from_slice part cc) cc) (λ x b q k. search (rules, tests))
    ∙ all-enumerated t part t 0 c.requires (λ i. ap (λ (k : ℕ). get_or t k 0) (zero-add i))
