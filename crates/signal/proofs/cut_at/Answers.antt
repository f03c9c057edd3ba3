-- `cut_at`: the nodes written so far and what is left of the path.
-- Assumes nothing.
use Rattle.signal.proofs.Codes.{cut-here, cut-next}
use Rattle.signal.proofs.cut_at.Goals as goal

pub loop-node-preserved : goal.loop-node-preserved
loop-node-preserved c =
    let l = c.loop-node in
    cut-next c.args.path.now c.requires c.args.q l.nodes c.next.new.self.iter.rest.now c.in-Some.field-0.now (rw (← c.in-Some.ensures.steps) l.invariant) c.push.new.self c.push.result c.push.ensures.room c.push.ensures.table c.if-node-q.false

pub returns-then-node-q : goal.returns-then-node-q
returns-then-node-q c =
    let l = c.loop-node in
    cut-here c.args.path.now c.requires c.args.q l.nodes c.next.new.self.iter.rest.now c.in-Some.field-0.now (rw (← c.in-Some.ensures.steps) l.invariant) c.push.new.self c.push.result c.push.ensures.room c.push.ensures.table c.if-node-q.true
