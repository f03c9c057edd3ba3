-- `codes::targets_of` meets its contract: after k turns the table holds the targets among the first k leads.
-- Assumes nothing.
use Rattle.std.proofs.Common.{ap, sym, ◌∙◌, arith, take}
use lib.Seq.{length-take-le}
use Rattle.graph.specs.Ends.{targets_of}
use Rattle.order.specs.code.Codes.{held}
use Rattle.order.proofs.Pushed.{held-one, targets-own, targets-other, targets-few}
use Rattle.order.proofs.codes.targets_of.Goals as goal
use Rattle.order.proofs.codes.targets_of.Goals.{then-e-p, else-e-p}

pub loop-e-preserved : goal.loop-e-preserved
loop-e-preserved c =
    let l = c.loop-e in
    let p = c.args.p in
    let es = c.args.leads.now in
    let h = c.loop-e-test.true in
    let ts = targets_of p (take l.e-index es) in
    elim c.if-e-p.branch [
      | then-e-p w ↦
          w.to-is
          ∙ held-one 88 ts _ l.to w.push.new.self w.push.result l.invariant (omega (arith, targets-few p (take l.e-index es), length-take-le l.e-index es (omega arith))) w.push.ensures.room w.push.ensures.table
          ∙ ap held (sym (targets-own p es l.e-index h w.if-e-p.true))
      | else-e-p w ↦ w.to-is ∙ l.invariant ∙ ap held (sym (targets-other p es l.e-index h w.if-e-p.false))
    ]
