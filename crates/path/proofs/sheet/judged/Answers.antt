-- `sheet::judged` meets its contract: five segments a box, two a curve (`drawn-long`). Assumes nothing.
use mathlib.Core.Path.{◌≡◌, sym, ◌∙◌}
use lib.ListN.{length}
use borrow.Author.Rules.{rules}
use Rattle.laws.proofs.Lists.{mapped_long}
use Rattle.path.proofs.Sheets.{sound-is, drawn-long}
use Rattle.path.proofs.sheet.judged.Goals as goal

pub invariant_of-result : goal.invariant_of-result
invariant_of-result c =
    let s = c.args.s.now in
    let e = sym c.sound.ensures ∙ c.if-not-sound.false in
    let boxes : length s.boxes ≡ 48 = search (rules, mapped_long) in
    let curves : length s.curves ≡ 88 = search (rules, mapped_long) in
    record { sound = (e, boxes, curves); whole = sym (drawn-long s boxes curves (sound-is s e)) }
