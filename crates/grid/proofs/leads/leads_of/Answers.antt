-- `leads::leads_of`: after p turns the ends of the first p nodes are put, and their bounds.
-- Assumes nothing.
use Rattle.std.proofs.Common.{◌≡◌, ◌+◌, ◌≤◌, length, ap, ◌∙◌, arith}
use Rattle.graph.specs.Ends.{ends_of}
use Rattle.grid.specs.code.Leads.{with_all}
use Rattle.grid.proofs.LeadLaws.{ends_to, table_to, table-count, ends-put, ends-room, bounds_none, bounds_next, leads-shape, leads-led}
use Rattle.grid.proofs.leads.leads_of.Goals as goal
use Rattle.grid.proofs.leads.leads_of.Goals.{At-loop-p, After-put_ends, After-put_ends-in-loop-p}

-- there is room for node p's ends, after those of the nodes before it
start : (c : At-loop-p) → c.loop-p.to.count ≡ length (ends_to c.args.sources.now c.args.sinks.now c.loop-p.p)
start c = ap (λ t. t.count) c.loop-p.invariant.0 ∙ table-count c.args.sources.now c.args.sinks.now c.loop-p.p

room : (c : At-loop-p) → c.loop-p.to.count + length (ends_of c.args.sources.now c.loop-p.p) + length (ends_of c.args.sinks.now c.loop-p.p) ≤ 176
room c = omega (arith, start c, ends-room c.args.n c.args.sources.now c.args.sinks.now c.requires.0 c.requires.1 c.loop-p.p)

-- its sources are put, and then its sinks
mid : (c : After-put_ends) → c.put_ends.new.to ≡ with_all c.loop-p.to (ends_of c.args.sources.now c.loop-p.p)
mid c = rw c.as_slice.ensures.items at c.put_ends.ensures

end : (c : After-put_ends-in-loop-p) → c.put_ends-in-loop-p.new.to ≡ with_all c.put_ends.new.to (ends_of c.args.sinks.now c.loop-p.p)
end c = rw c.as_slice-in-loop-p.ensures.items at c.put_ends-in-loop-p.ensures

pub loop-p-init : goal.loop-p-init
unfolding ends_to table_to
loop-p-init c = (c.empty-to.ensures, bounds_none c.args.sources.now c.args.sinks.now)

pub put_ends-requires : goal.put_ends-requires
put_ends-requires c = rw c.as_slice.ensures.items (omega (arith, room (goal.at.put_ends-requires c).At-loop-p))

pub overflow_cast-bounds : goal.overflow_cast-bounds
overflow_cast-bounds c = omega (arith, ap (λ t. t.count) (mid (goal.at.overflow_cast-bounds c).After-put_ends), room (goal.at.overflow_cast-bounds c).At-loop-p)

pub put_ends-requires-in-loop-p : goal.put_ends-requires-in-loop-p
put_ends-requires-in-loop-p c =
    rw c.as_slice-in-loop-p.ensures.items
    (omega (arith, ap (λ t. t.count) (mid (goal.at.put_ends-requires-in-loop-p c).After-put_ends), room (goal.at.put_ends-requires-in-loop-p c).At-loop-p))

pub overflow_cast-bounds-in-loop-p : goal.overflow_cast-bounds-in-loop-p
overflow_cast-bounds-in-loop-p c =
    let h = goal.at.overflow_cast-bounds-in-loop-p c in
    omega (arith, ap (λ t. t.count) (mid h.After-put_ends), ap (λ t. t.count) (end h.After-put_ends-in-loop-p), room h.At-loop-p)

pub loop-p-preserved : goal.loop-p-preserved
loop-p-preserved c =
    let h = goal.at.loop-p-preserved c in
    let s = c.args.sources.now in
    let k = c.args.sinks.now in
    let p = c.loop-p.p in
    let m = mid h.After-put_ends in
    let e = end h.After-put_ends-in-loop-p in (
      e ∙ rw (m, c.loop-p.invariant.0) (ends-put s k p),
      bounds_next s k p c.loop-p.bounds _ _ (omega (arith, c.loop-p-test.true, c.requires.0.nodes)) c.loop-p.invariant.1 (omega (arith, ap (λ t. t.count) m, start h.At-loop-p)) (ap (λ t. t.count) e),
    )

pub invariant_of-result : goal.invariant_of-result
invariant_of-result c =
    let n = c.args.n in
    let e : c.loop-p.p ≡ n = omega arith in
    let b = rw e at c.loop-p.invariant.1 in
    rw (c.loop-p.invariant.0, e) (leads-led n c.args.sources.now c.args.sinks.now c.requires.0 c.requires.1 c.loop-p.bounds b)

pub returns : goal.returns
returns c =
    let n = c.args.n in
    let e : c.loop-p.p ≡ n = omega arith in
    let b = rw e at c.loop-p.invariant.1 in
    rw (c.loop-p.invariant.0, e) (leads-shape n c.args.sources.now c.args.sinks.now c.requires.0 c.requires.1 c.loop-p.bounds b)
