-- `Sound::put_text` meets its contract: after k turns the text of the first k segments is written. Assumes nothing.
use lib.ListN.{take}
use Rattle.path.specs.Text.{text_of}
use Rattle.path.specs.Segments.{drawn_of}
use Rattle.path.specs.code.Writers.{Writes}
use Rattle.path.proofs.sheet.Sound.put_text.Given as goal

abbrev pub invariant-loop-k : goal.invariant-loop-k
invariant-loop-k l = Writes l.initial.w (text_of (take l.k (drawn_of l.self.sheet.now))) l.w
