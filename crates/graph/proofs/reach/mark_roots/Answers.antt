-- `reach::mark_roots`: what is left to mark gives the whole.
-- Assumes nothing.
use mathlib.Core.Path.{◌≡◌, sym, ◌∙◌, ap}
use native.Mathlib.Omega.{arith}
use lib.ListN.{take}
use Rattle.graph.proofs.Roots.{rooted, roots-look, roots-first, roots-last}
use Rattle.graph.proofs.reach.mark_roots.Goals as goal
use Rattle.graph.proofs.reach.mark_roots.Goals.{then-owns_none, else-owns_none}

pub loop-p-init : goal.loop-p-init
loop-p-init c = roots-first c.args.t.now c.requires.nodes

pub loop-p-preserved : goal.loop-p-preserved
loop-p-preserved c =
    let look = roots-look c.args.t.now c.loop-p.p c.loop-p-test.true in
    let e = rw c.as_slice.ensures.items at c.owns_none.ensures in
    elim c.if-owns_none.branch [
      | then-owns_none w ↦ ap (take c.args.t.now.n) w.seen-is ∙ w.mark_from.ensures ∙ sym (look ∙ rw (← e, w.if-owns_none.true, ← c.loop-p.invariant))
      | else-owns_none w ↦ ap (take c.args.t.now.n) w.seen-is ∙ c.loop-p.invariant ∙ sym (look ∙ rw (← e, w.if-owns_none.false))
    ]

pub returns : goal.returns
returns c =
    let t = c.args.t.now in
    let z : c.loop-p.p ≡ t.n = omega arith in
    c.loop-p.invariant ∙ ap (rooted t) z ∙ roots-last t
