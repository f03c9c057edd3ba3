-- `placing::cells`: by whether the sheet is sound.
-- Assumes nothing.
use Rattle.std.proofs.Common.{rules, sym, ◌∙◌}
use Rattle.laws.proofs.Lists.{mapped_long}
use Rattle.grid.proofs.RecordLaws.{sound-room}
use Rattle.grid.proofs.CellLaws.{cells-placed}
use Rattle.grid.proofs.placing.cells.Goals as goal

pub shared_ref_as_front-boxes : goal.shared_ref_as_front-boxes
shared_ref_as_front-boxes c = sound-room c.args.s.now (sym c.sound.ensures ∙ c.if-not-sound.false)

pub returns-clause-grid_after : goal.returns-clause-grid_after
returns-clause-grid_after c =
    let e = sym c.sound.ensures ∙ c.if-not-sound.false in
    rw e (c.rows_of.ensures ∙ cells-placed c.args.s.now (sound-room c.args.s.now e) (search (rules, mapped_long)))
