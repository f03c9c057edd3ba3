-- `is_free`: p is listed; or it is not, and `first_out` says whether each of its sources is.
-- Assumes nothing.
use Rattle.std.proofs.Common.{◌≡◌, refl, sym, ◌∙◌, Bool, true, false, not}
use Rattle.graph.specs.Ends.{targets_of}
use Rattle.signal.proofs.Codes.{has-any, out-all}
use Rattle.signal.proofs.Sources.is_free.Goals as goal

twice : (b : Bool) → b ≡ not (not b)
twice true = refl
twice false = refl

pub returns-then-not-contains : goal.returns-then-not-contains
returns-then-not-contains c =
    let a = c.args in
    let e = sym (has-any a.p a.done.now) ∙ sym c.contains.ensures.value ∙ c.if-not-contains.true in
    rw (e, out-all a.done.now (targets_of a.p a.self.now.leads.now), ← c.first_out.ensures, c.is_none.ensures) (twice _)
