-- `label_part`: the part of the numbers that `label_span` answers, by the laws of `LabelCalls`. Assumes nothing.
use Rattle.path.proofs.LabelCalls.{found_part, no_part}
use Rattle.grid.specs.Labelled.{labelled}
use Rattle.path.proofs.label_part.Goals as goal

pub returns-in-Ok : goal.returns-in-Ok
returns-in-Ok c =
    let a = c.args in
    found_part a.chart a.table (labelled a.setting a.chart.now a.x a.y a.k a.i) c.label_span.result c.label_span.ensures c.part_of.result c.in-Ok.span c.in-Ok.is c.part_of.ensures

pub returns-in-Err : goal.returns-in-Err
returns-in-Err c =
    let a = c.args in
    no_part a.chart a.table (labelled a.setting a.chart.now a.x a.y a.k a.i) c.label_span.result c.label_span.ensures c.part_of-in-Err.result c.in-Err.field-0 c.in-Err.is c.part_of-in-Err.ensures
