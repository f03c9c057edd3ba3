-- `write_text`: a sound sheet's text has at most 9,887 bytes, so none is refused.
use native.Mathlib.Omega.{arith}
use Rattle.path.proofs.OwnSheets.{sound-written}
use Rattle.path.proofs.TextSizes.{sound-text-most}
use Rattle.draw.proofs.write_text.Goals as goal

pub unreachable-requires : goal.unreachable-requires
unreachable-requires c =
    let most = sound-text-most c.args.s.now c.requires.s_value in
    c.in_default.not-Ok _ (sound-written c.requires.s_value (omega arith) c.write_sheet.ensures)
