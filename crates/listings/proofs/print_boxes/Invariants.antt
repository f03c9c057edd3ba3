-- `print_boxes`: the lines of the boxes so far are written.
-- Assumes nothing.
use Rattle.std.proofs.Common.{take}
use Rattle.std.specs.Io.KnownBytes.{Appends}
use Rattle.listings.specs.Listings.{box_lines}
use Rattle.listings.proofs.print_boxes.Given as goal

abbrev pub invariant-loop-k : goal.invariant-loop-k
invariant-loop-k g l = Appends (g.W.Write.contents l.initial.out) (g.W.Write.contents l.out) (box_lines 0 (take l.k l.boxes))
