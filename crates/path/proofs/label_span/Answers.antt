-- `label_span`: where the label's text stands, by the laws of `LabelCalls`.
-- Assumes nothing.
use lib.ListN.{get_or}
use Prim.Native.Nat.{ℕ}
use mir.Syntax.{w8}
use mir.Val.{Fits}
use native.Mathlib.Omega.{arith}
use mathlib.Core.Path.{◌≡◌, ◌∙◌}
use mathlib.Core.List.{List}
use borrow.Author.Rules.{rules}
use Rattle.std.specs.Prelude.{Err}
use Rattle.grid.specs.Labelled.{labelled}
use Rattle.graph.proofs.Gathers.{Bytes}
use Rattle.path.specs.Label.{tabled}
use Rattle.path.proofs.LabelCalls.{refusal-is, number_small, span-is, is_label_span}
use Rattle.path.proofs.label_span.Goals as goal
use Rattle.path.proofs.label_span.Goals.{After-label_place}

-- the chart is made of bytes
bytes_of : (s : List ℕ) → ((i : ℕ) → Fits w8 (get_or s i 0)) → Bytes s
bytes_of s h i = omega (arith, h i)

bytes : (c : After-label_place) → Bytes c.args.chart.now
bytes c = bytes_of c.args.chart.now c.type_inv.chart

pub returns-in_err-place : goal.returns-in_err-place
returns-in_err-place c =
    let a = c.args in
    let e : c.from_residual.result ≡ Err c.in_err-place.field-0.0 = search rules in
    let l = tabled a.table.now (labelled a.setting a.chart.now a.x a.y a.k a.i) in
    is_label_span a.setting a.chart.now a.table.now (bytes (goal.at.returns-in_err-place c).After-label_place) a.x a.y a.k a.i c.from_residual.result
    (e ∙ rw (refusal-is l c.label_place.result c.in_err-place.field-0.0 c.label_place.ensures c.in_err-place.was))

pub span_of-requires : goal.span_of-requires
span_of-requires c =
    let a = c.args in
    record { number = number_small a.setting a.chart.now a.table.now (bytes (goal.at.span_of-requires c).After-label_place) a.x a.y a.k a.i c.label_place.result c.label_place.ensures c.in_ok-place.place c.in_ok-place.was }

pub returns : goal.returns
returns c =
    let a = c.args in
    let b = bytes (goal.at.returns c).After-label_place in
    is_label_span a.setting a.chart.now a.table.now b a.x a.y a.k a.i _
    (span-is a.setting a.chart.now a.table.now b a.x a.y a.k a.i c.label_place.result c.label_place.ensures c.in_ok-place.place c.in_ok-place.was c.span_of.result c.span_of.ensures)
