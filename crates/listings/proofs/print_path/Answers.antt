-- `print_path`: the text that was written, or the refusal.
-- Assumes nothing.
use native.Mathlib.Omega.{arith}
use Rattle.listings.proofs.Laws.{text-line, refused-line}
use Rattle.listings.proofs.print_path.Goals as goal

pub returns-in-Ok : goal.returns-in-Ok
returns-in-Ok g c = rw (text-line c.write_sheet.ensures c.in-Ok.is) c.print_text.ensures

pub returns-in-Err : goal.returns-in-Err
returns-in-Err g c = rw (refused-line (omega arith) c.write_sheet.ensures c.in-Err.is, ← c.numbers.ensures) c.writeln.ensures.bytes
