-- `Reader::characters`: what is left to read, with the characters before it, gives the whole answer.
-- Assumes nothing.
use Rattle.std.proofs.Common.{◌∙◌, arith}
use Rattle.chart.proofs.Readers.{character_sized, skip_first}
use Rattle.chart.proofs.reader.Reader.characters.Goals as goal

pub loop-left-preserved : goal.loop-left-preserved
loop-left-preserved c =
    let l = c.loop-left in
    let s = c.args.self.now.chart.now in
    let is = rw l.invariant.1 at c.in_ok-bytes.ensures.0 in
    let i = character_sized s l.self.at l.left c.loop-left-test.true _ _ is in (
      rw (← l.invariant.0, skip_first l.len s l.self.at l.left c.loop-left-test.true, ← is),
      c.in_ok-bytes.ensures.1 ∙ l.invariant.1,
      omega (arith, i.some, i.fits),
    )
