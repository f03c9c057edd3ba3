-- `copy`: after i turns the first i bytes are written.
-- Assumes nothing.
use mathlib.Core.Path.{◌≡◌}
use lib.ListN.{take}
use Rattle.path.specs.Writer.{put}
use Rattle.path.proofs.copy.Given as goal

abbrev pub invariant-loop-i : goal.invariant-loop-i
invariant-loop-i l = l.buf ≡ put l.initial.buf 0 (take l.i l.text)
