-- `record::box_of`: a sound sheet's boxes are within their array.
-- Assumes nothing.
use Rattle.std.proofs.Common.{refl, sym, ◌∙◌, arith}
use borrow.Author.Tests.{lt-ltb}
use Rattle.grid.proofs.RecordLaws.{sound-room}
use Rattle.grid.proofs.record.box_of.Goals as goal

pub bounds-s-k : goal.bounds-s-k
bounds-s-k c = omega (arith, sound-room c.args.s.now (sym c.sound.ensures ∙ c.if-not-sound.false))

pub returns : goal.returns
returns c = rw (sym c.sound.ensures ∙ c.if-not-sound.false, lt-ltb _ _ c.if-k-s.false) refl
