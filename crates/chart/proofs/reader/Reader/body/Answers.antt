-- `Reader::body`: the counts, and then each list in turn.
-- Assumes nothing.
use Rattle.std.proofs.Common.{rules, ◌≡◌, refl}
use Rattle.std.specs.Prelude.{Err}
use Rattle.chart.proofs.Readers.{told_on, body_in}
use Rattle.chart.proofs.reader.Reader.body.Goals as goal

pub returns-in_err-entries-clause-node : goal.returns-in_err-entries-clause-node
returns-in_err-entries-clause-node c =
    let a = c.args in
    let e : c.from_residual-in_err-entries.result ≡ Err c.in_err-entries.field-0.0 = search rules in
    let i = c.in_ok-counts.ensures in
    let j = rw i.1 at c.in_err-entries.ensures.entries in
    (rw (e, body_in a.board.now a.node a.self.now.chart.now a.self.now.at _ _ i.0, ← j.0) refl, j.1)

pub returns-in_err-entries-2-clause-node : goal.returns-in_err-entries-2-clause-node
returns-in_err-entries-2-clause-node c =
    let a = c.args in
    let e : c.from_residual-in_err-entries-2.result ≡ Err c.in_err-entries-2.field-0.0 = search rules in
    let i = c.in_ok-counts.ensures in
    let j = rw i.1 at c.in_ok-entries.ensures.entries in
    let k = rw j.1 at c.in_err-entries-2.ensures.entries in
    (rw (e, body_in a.board.now a.node a.self.now.chart.now a.self.now.at _ _ i.0, ← j.0, ← k.0) refl, k.1)

pub returns-clause-node : goal.returns-clause-node
returns-clause-node c =
    let a = c.args in
    let i = c.in_ok-counts.ensures in
    let j = rw i.1 at c.in_ok-entries.ensures.entries in
    let k = rw j.1 at c.in_ok-entries-2.ensures.entries in
    let m = rw k.1 at c.entries-3.ensures.entries in
    (rw (body_in a.board.now a.node a.self.now.chart.now a.self.now.at _ _ i.0, ← j.0, ← k.0, ← m.0) (told_on c.entries-3.result _ _ _), m.1)
