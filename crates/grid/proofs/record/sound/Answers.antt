-- `record::sound`: each way out rewrites with what led there.
-- Assumes nothing.
use Rattle.std.proofs.Common.{sym, ◌∙◌}
use borrow.Author.Tests.{le-leb, lt-leb}
use Rattle.grid.specs.Record.{sound_of}
use Rattle.grid.proofs.record.sound.Goals as goal
use Rattle.grid.proofs.record.sound.Goals.{then-s-gt48-via-then-s-gt48, then-s-gt48-via-else-s-gt48+then-s-gt88}

pub returns-then-s-gt48 : goal.returns-then-s-gt48
unfolding sound_of
returns-then-s-gt48 c =
    elim c.then-s-gt48.branch [
      | then-s-gt48-via-then-s-gt48 w ↦ rw (lt-leb _ _ w.if-s-gt48.true)
      | then-s-gt48-via-else-s-gt48+then-s-gt88 w ↦ rw (le-leb _ _ w.if-s-gt48.false, lt-leb _ _ w.if-s-gt88.true)
    ]

pub returns-then-boxes_near : goal.returns-then-boxes_near
unfolding sound_of
returns-then-boxes_near c = rw (le-leb _ _ c.if-s-gt48.false, le-leb _ _ c.if-s-gt88.false, sym c.boxes_near.ensures ∙ c.if-boxes_near.true) c.curves_near.ensures

pub returns-else-boxes_near : goal.returns-else-boxes_near
unfolding sound_of
returns-else-boxes_near c = rw (le-leb _ _ c.if-s-gt48.false, le-leb _ _ c.if-s-gt88.false, sym c.boxes_near.ensures ∙ c.if-boxes_near.false) c.if-boxes_near.false
