-- `sheet`: the promises of the crates below and of the stages, by the laws of `Sheets`.
-- Assumes nothing.
use Rattle.grid.proofs.Sheets.{seated, firsts-are, sheet-is, sheet-refused}
use Rattle.grid.proofs.GivenLaws.{is-sheet}
use Rattle.graph.proofs.Tabled.{is-answer}
use Rattle.grid.proofs.sheet.Goals as goal

pub sheet_of-requires : goal.sheet_of-requires
sheet_of-requires c =
    let w = c.args.setting in
    let s = c.args.chart.now in
    let a = is-answer _ _ _ c.graph.ensures in
    record {
      seated = seated w s c.graph.result a c.in-Ok.g c.in-Ok.is c.first_in.result c.first_in.ensures;
      first_columns = firsts-are w s c.graph.result a c.in-Ok.g c.in-Ok.is c.first_in.result c.first_in.ensures;
    }

pub returns-in-Err : goal.returns-in-Err
returns-in-Err c =
    let a = c.args in
    is-sheet a.setting a.chart.now a.x a.y _ (sheet-refused a.setting a.chart.now a.x a.y c.graph.result (is-answer _ _ _ c.graph.ensures) _ c.in-Err.is)

pub returns-in-Ok : goal.returns-in-Ok
returns-in-Ok c =
    let f = c.first_in in
    let a = c.args in
    is-sheet a.setting a.chart.now a.x a.y c.sheet_of.result
    (sheet-is a.setting a.chart.now a.x a.y c.graph.result (is-answer _ _ _ c.graph.ensures) c.in-Ok.g c.in-Ok.is f.result f.ensures c.sheet_of.result c.sheet_of.ensures)
