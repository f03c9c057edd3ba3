-- `drawn`: the first columns of the leads are those of the graph.
-- Assumes nothing.
use mathlib.Core.Path.{◌≡◌}
use lib.ListN.{length}
use Rattle.laws.proofs.Lists.{mapped_long}
use Rattle.order.proofs.Graphs.{sources-linked, sinks-linked}
use Rattle.graph.proofs.EndsLaws.{shape-held}
use borrow.Author.Rules.{rules}
use Rattle.order.proofs.drawn.Goals as goal
use Rattle.order.proofs.drawn.Goals.{Start}

sources-long : (c : Start) → length c.args.g.sources.items ≡ 88
sources-long c = search (rules, mapped_long)

sinks-long : (c : Start) → length c.args.g.sinks.items ≡ 88
sinks-long c = search (rules, mapped_long)

pub invariant_of-first_of : goal.invariant_of-first_of
invariant_of-first_of c =
    let t = c.args.g in
    let s = (goal.at.invariant_of-first_of c).Start in
    record {
      sources_linked = rw c.ends_of-sources.ensures (sources-linked t (sources-long s) (sinks-long s) c.requires);
      sinks_linked = rw c.ends_of-sinks.ensures (sinks-linked t (sources-long s) (sinks-long s) c.requires);
    }

pub returns : goal.returns
returns c =
    cc (shape-held c.args.g, c.first_of.ensures, c.ends_of-sources.ensures, c.ends_of-sinks.ensures)
