-- `leads::Leads::sources`: how far its sources stand.
-- Assumes nothing.
use Rattle.std.proofs.Common.{◌<◌, ap, sym, ◌∙◌, length, arith, rules}
use Rattle.graph.specs.Shape.{incidents_at}
use Rattle.grid.proofs.LeadLaws.{leads-long, led-sources}
use Rattle.grid.proofs.PartLaws.{sources-long}
use Rattle.grid.proofs.leads.Leads.sources.Goals as goal
use Rattle.grid.proofs.leads.Leads.sources.Goals.{After-self}

-- node p is one of the nodes held, of which there are at most 48
node : (c : After-self) → c.args.p < c.self.inside.nodes
node c = let i = c.self.inside in omega (arith, c.requires, ap length c.self.view_is, leads-long i.nodes i.to.items i.bounds)

below : (c : After-self) → c.args.p < 48
below c = omega (arith, node c, c.self.invariant.nodes)

pub overflow_mul-result : goal.overflow_mul-result
overflow_mul-result c = let h = below (goal.at.overflow_mul-result c).After-self in search rules

pub overflow_add-result : goal.overflow_add-result
overflow_add-result c = let h = below (goal.at.overflow_add-result c).After-self in search rules

pub bounds-bounds-p : goal.bounds-bounds-p
bounds-bounds-p c = omega (arith, below (goal.at.bounds-bounds-p c).After-self)

pub overflow_mul-result-2 : goal.overflow_mul-result-2
overflow_mul-result-2 c = let h = below (goal.at.overflow_mul-result-2 c).After-self in search rules

pub bounds-bounds-p-2 : goal.bounds-bounds-p-2
bounds-bounds-p-2 c = omega (arith, below (goal.at.bounds-bounds-p-2 c).After-self)

pub overflow_sub-result : goal.overflow_sub-result
overflow_sub-result c =
    let i = c.self.inside in
    led-sources i.nodes i.to.items i.bounds c.self.invariant.rising c.args.p (node (goal.at.overflow_sub-result c).After-self)

pub returns : goal.returns
returns c =
    let i = c.self.inside in
    sym (sources-long i.nodes i.to.items i.bounds c.self.invariant.rising c.args.p (node (goal.at.returns c).After-self) c.self.invariant.few c.self.invariant.long) ∙ ap (λ g. length (incidents_at g c.args.p).sources) c.self.view_is
