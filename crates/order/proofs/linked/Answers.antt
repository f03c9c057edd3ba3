-- `linked` meets its contract: what `all` answers is the test.
-- Assumes nothing.
use Rattle.std.proofs.Common.{◌≡◌, sym, ◌∙◌, rules, tests, take}
use Rattle.std.proofs.lemmas.Iterator.{YieldsList-from_slice}
use Rattle.std.proofs.lemmas.Iterator.Search.{all_from_yields_List}
use mathlib.Core.Bool.{false≢true}
use borrow.Author.Tests.{le-leb, lt-leb}
use Rattle.order.specs.Ordered.{linked_of}
use Rattle.order.proofs.Links.{inside, all-is, yes_linked}
use Rattle.order.proofs.linked.Goals as goal
use Rattle.order.proofs.linked.Goals.{After-all, then-n-le48, else-n-le48}

-- what is asked of the leads, where n and the count are within bounds
tested : (c : After-all) → c.all.result ≡ linked_of c.args.n c.args.e.now
tested c =
    let n = c.args.n in
    let e = c.args.e.now in
    let es = take e.count e.items in
    let a = all_from_yields_List (inside n) _ _ c.all.result c.all.ensures.ran (YieldsList-from_slice es (c.iter.ensures.rest ∙ c.as_slice-leads.ensures.items)) (λ x b q k. search (rules, tests)) in
    elim c.if-n-le48.branch [
      | then-n-le48 w ↦ rw (le-leb n 48 w.if-n-le48.true, sym w.value-is ∙ c.if-e-le88.true) (a ∙ all-is (inside n) es)
      | else-n-le48 w ↦ absurd (false≢true (sym (lt-leb n 48 w.if-n-le48.false) ∙ sym w.value-is ∙ c.if-e-le88.true))
    ]

pub returns-then-e-le88 : goal.returns-then-e-le88
returns-then-e-le88 c =
    let t = tested (goal.at.returns-then-e-le88 c).After-all in
    record { test = t; linked = λ e. yes_linked c.args.n c.args.e.now c.as_slice-leads.ensures.long (sym t ∙ e) }
