-- `label::span_of`: the numbers of a place fit. Assumes nothing.
use Prim.Native.Nat.{◌≤◌, ◌<◌}
use native.Mathlib.Omega.{arith}
use borrow.Author.Rules.{rules}
use Rattle.chart.proofs.Gives.{ending-from}
use Rattle.path.proofs.Labels.{span-rises, span-within, ending-most}
use Rattle.path.proofs.label.span_of.Goals as goal
use Rattle.path.proofs.label.span_of.Goals.{After-text_end, After-range-part}

pub overflow_sub-result : goal.overflow_sub-result
overflow_sub-result c = rw c.text_end.ensures (ending-from c.in-InChart.len c.args.chart.now c.in-InChart.at)

pub overflow_cast-result-in-InChart-2 : goal.overflow_cast-result-in-InChart-2
overflow_cast-result-in-InChart-2 c =
    let short : c.in-InChart.len < 256 = search rules in
    omega (arith, short, c.text_end.ensures, ending-most c.in-InChart.len c.args.chart.now c.in-InChart.at)

-- text q lies within the table
within : (c : After-range-part) → c.range-part.result.end ≤ 3293
within c = span-within c.in-InTable.q c.range-part.result c.range-part.ensures (c.requires.number c.in-InTable.q c.in-InTable.is)

pub overflow_cast-result-in-InTable : goal.overflow_cast-result-in-InTable
overflow_cast-result-in-InTable c =
    omega (arith, within (goal.at.overflow_cast-result-in-InTable c).After-range-part, span-rises c.in-InTable.q c.range-part.result c.range-part.ensures)

pub overflow_cast-result-in-InTable-2 : goal.overflow_cast-result-in-InTable-2
overflow_cast-result-in-InTable-2 c = omega (arith, within (goal.at.overflow_cast-result-in-InTable-2 c).After-range-part)
