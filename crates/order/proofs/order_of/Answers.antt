-- `order_of` meets its contract: the ends are linked where it asks for the columns.
-- Assumes nothing.
use Rattle.std.proofs.Common.{◌≡◌, Bool, false, ap, sym, ◌∙◌, ◌&&◌}
use Rattle.laws.proofs.Tests.{and_false}
use Rattle.order.specs.Ordered.{linked_of}
use Rattle.order.proofs.Links.{columns-none}
use Rattle.order.proofs.Graphs.{columns-are}
use Rattle.order.proofs.order_of.Goals as goal
use Rattle.order.proofs.order_of.Goals.{then-not-linked-via-then-not-linked, then-not-linked-via-else-not-linked+then-not-linked-2}

pub returns-then-not-linked : goal.returns-then-not-linked
returns-then-not-linked c =
    let n = c.args.n in
    let s = c.args.sources.now in
    let k = c.args.sinks.now in
    let e : (linked_of n s && linked_of n k) ≡ false = elim c.then-not-linked.branch [
      | then-not-linked-via-then-not-linked w ↦ ap (λ (b : Bool). b && linked_of n k) (sym c.linked.ensures.test ∙ w.if-not-linked.true)
      | then-not-linked-via-else-not-linked+then-not-linked-2 w ↦ ap (λ (b : Bool). linked_of n s && b) (sym w.linked-else-not-linked.ensures.test ∙ w.if-not-linked-2.true) ∙ and_false (linked_of n s)
    ] in
    columns-none n s k e

pub returns : goal.returns
returns c =
    columns-are c.args.n c.args.sources.now c.args.sinks.now (c.linked.ensures.linked c.if-not-linked.false) (c.linked-else-not-linked.ensures.linked c.if-not-linked-2.false)
    c.first_of.result c.first_of.ensures
