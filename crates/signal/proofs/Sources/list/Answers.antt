-- `list`: after each turn the table holds the list so far.
-- Assumes nothing.
use Rattle.std.proofs.Common.{◌≡◌, ◌∙◌, ap, take}
use Rattle.signal.specs.Signal.{free}
use Rattle.signal.specs.code.Nodes.{sources_of, lowest_of}
use Rattle.signal.proofs.Codes.{lists-none, lists-put, lists-stuck}
use Rattle.signal.proofs.Sources.list.Goals as goal
use Rattle.signal.proofs.Sources.list.Goals.{After-lowest_free}

-- what is looked for is the lowest free number after the list so far
found : (z : After-lowest_free) → z.lowest_free.result ≡ lowest_of z.args.self.now.n (free (sources_of z.args.self.now.leads.now) (take z.loop.nodes.count z.loop.nodes.items))
found z = z.lowest_free.ensures ∙ ap (λ d. lowest_of z.args.self.now.n (free (sources_of z.args.self.now.leads.now) d)) z.as_slice.ensures.items

pub loop-init : goal.loop-init
loop-init c = lists-none c.args.self.now.n (sources_of c.args.self.now.leads.now) c.empty-nodes.result c.empty-nodes.ensures

pub loop-preserved : goal.loop-preserved
loop-preserved c =
    let l = c.loop in
    lists-put c.args.self.now.n (sources_of c.args.self.now.leads.now) l.nodes l.counter l.invariant c.args.self.now.few c.loop-test.true c.lowest_free.result (found (goal.at.loop-preserved c).After-lowest_free) c.in-Some.p c.in-Some.is c.push.new.self c.push.result
    c.push.ensures.room c.push.ensures.table

pub returns-in_default : goal.returns-in_default
returns-in_default c =
    let l = c.loop in
    let e = lists-stuck c.args.self.now.n (sources_of c.args.self.now.leads.now) l.nodes l.counter l.invariant c.args.self.now.few c.loop-test.true c.lowest_free.result (found (goal.at.returns-in_default c).After-lowest_free) (cc) in
    record { whole = e.0; few = e.1 }
