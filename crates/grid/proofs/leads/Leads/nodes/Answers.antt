-- `leads::Leads::nodes`: what it holds, of the shape that a contract sees.
-- Assumes nothing.
use Rattle.std.proofs.Common.{ap, sym, ◌∙◌, length}
use Rattle.grid.proofs.LeadLaws.{leads-long}
use Rattle.grid.proofs.leads.Leads.nodes.Goals as goal

pub returns : goal.returns
returns c = let i = c.self.inside in (sym (leads-long i.nodes i.to.items i.bounds) ∙ ap length c.self.view_is, c.self.invariant.nodes)
