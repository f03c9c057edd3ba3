-- `add`: a write past the array changes nothing.
-- Assumes nothing.
use Rattle.std.proofs.Common.{◌≤◌, sym, length, arith}
use borrow.Author.Tests.{ltb-false}
use Rattle.std.proofs.lemmas.List.{set_past}
use Rattle.chart.proofs.reader.add.Goals as goal

pub returns-then-not-push : goal.returns-then-not-push
returns-then-not-push g c =
    let p = c.if-not-push.ensures in
    let t = c.args.table.now in
    let past : length t.items ≤ t.count = omega (arith, p.long, ltb-false _ _ (sym p.room)) in
    rw (p.table, set_past t.items t.count c.args.entry past)
