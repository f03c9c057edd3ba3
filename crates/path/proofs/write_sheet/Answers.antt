-- `write_sheet` meets its contract: by the tests (`Drawings`). Assumes nothing.
use native.Mathlib.Omega.{arith}
use Rattle.path.proofs.Drawings.{written-done}
use Rattle.path.proofs.Promises.{is-written}
use Rattle.path.proofs.write_sheet.Goals as goal

pub returns : goal.returns
returns c =
    let z = c.in_ok-sheet.sheet in
    let t = written-done z.sheet.now c.args.buf.now z.sound.0 c.text_len-n.result c.text_len-n.ensures c.put_text.new.buf (omega arith) c.put_text.ensures in
    is-written _ _ _ _ (rw c.in_ok-sheet.ensures at t)
