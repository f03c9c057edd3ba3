-- `label_place`: the promises of `graph`, `sheet_of` and `label_at`, by the laws of `Sheets` and `LabelPlaces`.
-- Assumes nothing.
use Rattle.std.proofs.Common.{◌≡◌, ◌<◌, refl, ◌∙◌, arith, rules, Option}
use Rattle.std.specs.Prelude.{Some, None}
use Rattle.std.specs.Option.{ok_or}
use Rattle.refusals.specs.declared.Refusal.TheVariants.{NotThere}
use Rattle.grid.specs.declared.LabelPlace.{LabelPlace}
use Rattle.grid.specs.code.Rendered.{Seated}
use Rattle.grid.specs.Labelled.{ready_or_15, labelled, label_place_of}
use Rattle.grid.proofs.Sheets.{Made, seated, firsts-are, sheet-is, sheet-refused}
use Rattle.grid.proofs.LabelPlaces.{sited, place-past, place_answer, place-refused}
use Rattle.graph.proofs.Tabled.{is-answer}
use Rattle.grid.proofs.label_place.Goals as goal
use Rattle.grid.proofs.label_place.Goals.{After-sheet_of-sheet, After-label_at, Else-g-k}

-- what `sheet_of` answers is the chart's sheet
laid : (c : After-sheet_of-sheet) → let a = c.args in Made a.setting a.chart.now a.x a.y c.sheet_of-sheet.result
laid c =
    let f = c.first_in-first in
    let a = c.args in
    sheet-is a.setting a.chart.now a.x a.y c.graph-graphed.result (is-answer _ _ _ c.graph-graphed.ensures) c.in-Ok.g c.in-Ok.is f.result f.ensures c.sheet_of-sheet.result c.sheet_of-sheet.ensures

pub sheet_of-sheet-requires : goal.sheet_of-sheet-requires
sheet_of-sheet-requires c =
    let w = c.args.setting in
    let s = c.args.chart.now in
    let a = is-answer _ _ _ c.graph-graphed.ensures in
    record {
      seated = seated w s c.graph-graphed.result a c.in-Ok.g c.in-Ok.is c.first_in-first.result c.first_in-first.ensures;
      first_columns = firsts-are w s c.graph-graphed.result a c.in-Ok.g c.in-Ok.is c.first_in-first.result c.first_in-first.ensures;
    }

pub returns-in-Err : goal.returns-in-Err
returns-in-Err c =
    let a = c.args in
    place-refused a.setting a.chart.now a.x a.y _ (sheet-refused a.setting a.chart.now a.x a.y c.graph-graphed.result (is-answer _ _ _ c.graph-graphed.ensures) _ c.in-Err.is) a.k a.i _ refl

pub returns-in-Err-sheet : goal.returns-in-Err-sheet
returns-in-Err-sheet c =
    let a = c.args in
    place-refused a.setting a.chart.now a.x a.y c.sheet_of-sheet.result (laid (goal.at.returns-in-Err-sheet c).After-sheet_of-sheet) a.k a.i _ c.in-Err-sheet.is

pub returns-then-g-k : goal.returns-then-g-k
returns-then-g-k c =
    let a = c.args in
    place-past a.setting a.chart.now a.x a.y c.sheet_of-sheet.result (laid (goal.at.returns-then-g-k c).After-sheet_of-sheet) c.graph-graphed.result (is-answer _ _ _ c.graph-graphed.ensures) c.in-Ok.g c.in-Ok.is c.in-Ok-sheet.laid c.in-Ok-sheet.is a.k a.i
    c.if-g-k.true

-- the graph can be laid out, and a box of it is one of 48
seat : (c : Else-g-k) → Seated c.in-Ok.g
seat c = seated c.args.setting c.args.chart.now c.graph-graphed.result (is-answer _ _ _ c.graph-graphed.ensures) c.in-Ok.g c.in-Ok.is c.first_in-first.result c.first_in-first.ensures

few : (c : Else-g-k) → c.args.k < 48
few c = omega (arith, c.if-g-k.false, (seat c).linked.nodes)

pub bounds-laid-k : goal.bounds-laid-k
bounds-laid-k c = few (goal.at.bounds-laid-k c).Else-g-k

pub offset_bounds-laid-k : goal.offset_bounds-laid-k
offset_bounds-laid-k c = let h = few (goal.at.offset_bounds-laid-k c).Else-g-k in omega (arith, h)

pub label_at-requires : goal.label_at-requires
label_at-requires c =
    let a = c.args in
    let p = goal.at.label_at-requires c in
    let z = sited a.setting a.chart.now a.x a.y c.sheet_of-sheet.result (laid p.After-sheet_of-sheet) c.graph-graphed.result (is-answer _ _ _ c.graph-graphed.ensures) c.in-Ok.g c.in-Ok.is c.in-Ok-sheet.laid c.in-Ok-sheet.is a.k c.if-g-k.false in
    record { seated = seat p.Else-g-k; p_lt_n = c.if-g-k.false; x_bound = z.0; y_bound = z.1 }

-- what `label_at` finds is the label, or that there is none
found : (c : After-label_at) → let a = c.args in label_place_of (ready_or_15 c.label_at.result) ≡ label_place_of (labelled a.setting a.chart.now a.x a.y a.k a.i)
found c =
    let a = c.args in
    let f = c.first_in-first in
    let g = is-answer _ _ _ c.graph-graphed.ensures in
    let m = sheet-is a.setting a.chart.now a.x a.y c.graph-graphed.result g c.in-Ok.g c.in-Ok.is f.result f.ensures c.sheet_of-sheet.result c.sheet_of-sheet.ensures in
    place_answer a.setting a.chart.now a.x a.y c.sheet_of-sheet.result m c.graph-graphed.result (is-answer _ _ _ c.graph-graphed.ensures) c.in-Ok.g c.in-Ok.is c.in-Ok-sheet.laid c.in-Ok-sheet.is a.k a.i c.if-g-k.false
    c.label_at.result c.label_at.ensures

pub returns : goal.returns
returns c = let e : c.ok_or.result ≡ ok_or c.label_at.result NotThere = search rules in e ∙ given c.label_at.result ∙ found (goal.at.returns c).After-label_at
  where
    given : (o : Option LabelPlace) → ok_or o NotThere ≡ label_place_of (ready_or_15 o)
    given (Some p) = refl
    given None = refl
