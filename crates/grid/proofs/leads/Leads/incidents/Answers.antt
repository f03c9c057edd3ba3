-- `leads::Leads::incidents`: the part of the array that is node p's.
-- Assumes nothing.
use Rattle.std.proofs.Common.{◌<◌, ap, sym, ◌∙◌, length, arith, rules}
use Rattle.grid.specs.Columns.{incidents}
use Rattle.grid.proofs.LeadLaws.{leads-long}
use Rattle.grid.proofs.PartLaws.{rise, few, are, to-nodes}
use Rattle.grid.proofs.leads.Leads.incidents.Goals as goal
use Rattle.grid.proofs.leads.Leads.incidents.Goals.{After-self}

-- node p is one of the nodes held, of which there are at most 48
node : (c : After-self) → c.args.p < c.self.inside.nodes
node c = let i = c.self.inside in omega (arith, c.requires, ap length c.self.view_is, leads-long i.nodes i.to.items i.bounds)

below : (c : After-self) → c.args.p < 48
below c = omega (arith, node c, c.self.invariant.nodes)

pub overflow_mul-from : goal.overflow_mul-from
overflow_mul-from c = let h = below (goal.at.overflow_mul-from c).After-self in search rules

pub bounds-bounds-p : goal.bounds-bounds-p
bounds-bounds-p c = omega (arith, below (goal.at.bounds-bounds-p c).After-self)

pub overflow_mul-end : goal.overflow_mul-end
overflow_mul-end c = let h = below (goal.at.overflow_mul-end c).After-self in search rules

pub overflow_add-end : goal.overflow_add-end
overflow_add-end c = let h = below (goal.at.overflow_add-end c).After-self in search rules

pub bounds-bounds-p-2 : goal.bounds-bounds-p-2
bounds-bounds-p-2 c = omega (arith, below (goal.at.bounds-bounds-p-2 c).After-self)

pub slice_bounds-result-count : goal.slice_bounds-result-count
slice_bounds-result-count c =
    let i = c.self.inside in
    rise i.nodes i.to.items i.bounds c.self.invariant.rising c.args.p (node (goal.at.slice_bounds-result-count c).After-self)

pub slice_bounds-result-start : goal.slice_bounds-result-start
slice_bounds-result-start c =
    let i = c.self.inside in
    rise i.nodes i.to.items i.bounds c.self.invariant.rising c.args.p (node (goal.at.slice_bounds-result-start c).After-self)

pub slice_bounds-result-end : goal.slice_bounds-result-end
slice_bounds-result-end c =
    let i = c.self.inside in
    few i.nodes i.to.items i.bounds c.self.invariant.rising c.args.p (node (goal.at.slice_bounds-result-end c).After-self) c.self.invariant.few

pub returns-clause-are : goal.returns-clause-are
returns-clause-are c =
    let i = c.self.inside in
    sym (are i.nodes i.to.items i.bounds c.self.invariant.rising c.args.p (node (goal.at.returns-clause-are c).After-self)) ∙ ap (λ g. incidents g c.args.p) c.self.view_is

pub returns-clause-nodes : goal.returns-clause-nodes
returns-clause-nodes c =
    let i = c.self.inside in
    let e = sym (leads-long i.nodes i.to.items i.bounds) ∙ ap length c.self.view_is in
    rw (← e) (to-nodes i.nodes i.to.items i.bounds c.self.invariant.rising c.args.p (node (goal.at.returns-clause-nodes c).After-self) c.self.invariant.node)
