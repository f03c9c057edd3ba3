-- `sheet_of`: the test.
-- Assumes nothing.
use Rattle.std.proofs.Common.{sym, ◌∙◌}
use Rattle.grid.proofs.Sheets.{arranged_fits, arranged_past}
use Rattle.grid.proofs.sheet_of.Goals as goal

pub returns-then-not-fits : goal.returns-then-not-fits
returns-then-not-fits c = arranged_past _ c.args.x c.args.y c.lay_out-s.result c.lay_out-s.ensures (sym c.fits.ensures ∙ c.if-not-fits.true)

pub returns : goal.returns
returns c = arranged_fits _ c.args.x c.args.y c.lay_out-s.result c.lay_out-s.ensures (sym c.fits.ensures ∙ c.if-not-fits.false)
