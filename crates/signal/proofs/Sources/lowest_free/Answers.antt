-- `lowest_free`: what the search over the numbers finds.
-- Assumes nothing.
use Rattle.std.proofs.Common.{arith, rules, tests}
use Rattle.std.proofs.lemmas.Iterator.{YieldsList-from_range}
use Rattle.std.proofs.lemmas.Iterator.Search.{find_from_yields_List}
use Rattle.signal.specs.Signal.{free}
use Rattle.signal.specs.code.Nodes.{sources_of}
use Rattle.signal.proofs.Codes.{found-lowest}
use Rattle.signal.proofs.Sources.lowest_free.Goals as goal

pub returns : goal.returns
returns c =
    let n = c.args.self.now.n in
    let test = free (sources_of c.args.self.now.leads.now) c.args.done.now in
    found-lowest test n c.find.result
    (find_from_yields_List test _ _ c.find.result c.find.ensures.ran (YieldsList-from_range 0 n n (cc) (omega arith)) (λ x b q k. search (rules, tests)))
