-- `draw`: the sheet of a chart is sound.
use Rattle.draw.proofs.draw.Goals as goal

pub draw_sheet-requires : goal.draw_sheet-requires
draw_sheet-requires g c = (c.sheet.ensures.laid c.in-Ok.sheet c.in-Ok.is).sound
