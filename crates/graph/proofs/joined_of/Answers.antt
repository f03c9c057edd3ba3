-- `joined_of`: the promises of its callees, put together by the laws of `Begins`.
-- Assumes nothing.
use native.Mathlib.Omega.{arith}
use Rattle.graph.proofs.Begins.{joined-many, joined-fits, joined-holds}
use Rattle.graph.proofs.joined_of.Goals as goal

pub returns-then-whole-leads-gt-NODES : goal.returns-then-whole-leads-gt-NODES
returns-then-whole-leads-gt-NODES c =
    joined-many c.args.board.now c.requires c.begin-whole.result c.complete.new.t c.begin-whole.ensures c.complete.ensures
    (omega (arith, c.if-whole-leads-gt-NODES.true, c.count_leads-leads.ensures.0))

pub join-requires-clause-fits : goal.join-requires-clause-fits
join-requires-clause-fits c =
    joined-fits c.args.board.now c.requires c.begin-whole.result c.complete.new.t c.begin-whole.ensures c.complete.ensures (omega (arith, c.if-whole-leads-gt-NODES.false, c.count_leads-leads.ensures.0))

pub returns : goal.returns
returns c = joined-holds c.args.board.now c.requires c.begin-whole.result c.complete.new.t c.begin-whole.ensures c.complete.ensures c.join.new.t c.join.ensures
