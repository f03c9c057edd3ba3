-- `sheet_segment` meets its contract: by the tests (`Drawings`). Assumes nothing.
use native.Mathlib.Omega.{arith}
use Rattle.path.proofs.Drawings.{given-there}
use Rattle.path.proofs.Promises.{is-sheet-segment}
use Rattle.path.proofs.sheet_segment.Goals as goal

pub returns-then-k-sheet : goal.returns-then-k-sheet
returns-then-k-sheet c =
    let z = c.in_ok-sheet.sheet in
    let t = given-there z.sheet.now c.args.k z.sound.0 (omega (arith, z.whole)) c.stroke_at.result c.stroke_at.ensures.same c.pens_of.result c.pens_of.ensures in
    is-sheet-segment _ _ _ (rw c.in_ok-sheet.ensures at t)
