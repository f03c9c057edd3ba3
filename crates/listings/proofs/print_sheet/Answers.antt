-- `print_sheet`: its three parts, one after the other.
-- Assumes nothing.
use Rattle.std.proofs.Common.{◌≡◌, take}
use Rattle.std.proofs.lemmas.List.{take_min}
use Rattle.std.proofs.KnownBytes.{Appends-trans}
use Rattle.std.proofs.lemmas.Result.{on_ok_weaker}
use Rattle.listings.specs.Listings.{sheet_lines}
use Rattle.listings.proofs.print_sheet.Goals as goal

pub returns : goal.returns
unfolding sheet_lines
returns g c =
    let s = c.args.s.now in
    let n : take c.min-count.result s.boxes ≡ take s.count s.boxes = rw c.min-count.ensures (take_min s.count s.boxes) in
    rw (← n) (on_ok_weaker c.print_path.result (λ last. Appends-trans _ _ _ _ _ (Appends-trans _ _ _ _ _ c.in_ok-print_size.ensures c.in_ok-print_boxes.ensures) last) c.print_path.ensures)
