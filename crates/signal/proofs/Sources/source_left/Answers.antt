-- `source_left`: the first source that is left.
-- Assumes nothing.
use Rattle.std.proofs.Common.{sym, ◌∙◌, ap}
use Rattle.std.specs.Option.{unwrap_or}
use Rattle.graph.specs.Ends.{targets_of}
use Rattle.signal.proofs.Codes.{out-first}
use Rattle.signal.proofs.Sources.source_left.Goals as goal

pub returns : goal.returns
returns c =
    let a = c.args in
    c.unwrap_or.ensures ∙ ap (λ o. unwrap_or o 0) c.first_out.ensures ∙ sym (out-first a.done.now (targets_of a.p a.self.now.leads.now))
