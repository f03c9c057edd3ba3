-- `is_default`: the test of the first byte.
-- Assumes nothing.
use Rattle.std.proofs.Common.{◌∙◌}
use Rattle.lines.proofs.Laws.{starts}
use Rattle.lines.proofs.is_default.Goals as goal

pub returns : goal.returns
returns c = c.starts_with.ensures.value ∙ starts c.args.line.now
