-- `margalhosa_sheet`: the answer of `grid::sheet`, with its box theorem.
-- Assumes nothing.
use mathlib.Core.Path.{◌∙◌, sym, ap}
use Rattle.grid.specs.LaidOut.{IsSheet}
use Rattle.margalhosa.specs.Results.{setting_of, sheet_result}
use Rattle.margalhosa.proofs.Results.{sheet-is}
use Rattle.margalhosa.proofs.margalhosa_sheet.Goals as goal

pub returns-in-Ok : goal.returns-in-Ok
returns-in-Ok c =
    let a = c.args in
    let w = setting_of a.setting in
    let is : IsSheet w a.chart.now a.x a.y c.sheet.result = rw c.setting_of.ensures at c.sheet.ensures in
    sheet-is w a.chart.now a.x a.y c.sheet.result is _ (sym (ap sheet_result c.in-Ok.is))

pub returns-in-Err : goal.returns-in-Err
returns-in-Err c =
    let a = c.args in
    let w = setting_of a.setting in
    let is : IsSheet w a.chart.now a.x a.y c.sheet.result = rw c.setting_of.ensures at c.sheet.ensures in
    sheet-is w a.chart.now a.x a.y c.sheet.result is _ (rw (c.first_of.ensures, c.second_of.ensures, c.no_sheet.ensures, c.in-Err.is))
