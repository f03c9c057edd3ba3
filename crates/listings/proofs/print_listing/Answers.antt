-- `print_listing`: by what `sheet` answers.
-- Assumes nothing.
use Rattle.std.proofs.Common.{◌∙◌, sym}
use Rattle.listings.proofs.Laws.{ready-lines, refusal-line}
use Rattle.listings.specs.Listings.{listing_of}
use Rattle.grid.specs.Sheeted.{sheeted}
use Rattle.listings.proofs.print_listing.Goals as goal

pub returns-in-Ok : goal.returns-in-Ok
unfolding listing_of
returns-in-Ok g c =
    rw (ready-lines (sheeted c.args.setting c.args.chart.now 0 0) _ (sym c.in-Ok.is ∙ c.sheet.ensures.whole)) c.print_sheet.ensures

pub returns-in-Err : goal.returns-in-Err
unfolding listing_of
returns-in-Err g c =
    rw (refusal-line (sheeted c.args.setting c.args.chart.now 0 0) _ (sym c.in-Err.is ∙ c.sheet.ensures.whole), ← c.numbers.ensures) c.writeln.ensures.bytes
