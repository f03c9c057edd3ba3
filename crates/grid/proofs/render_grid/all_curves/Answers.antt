-- `render_grid::all_curves`: after k turns the curves are those of the first k boxes; within a turn, what is drawn and what is left make up those of box k.
-- Assumes nothing.
use Rattle.std.proofs.Common.{◌≡◌, length, ap, sym, ◌∙◌, arith}
use Rattle.laws.specs.Each.{each}
use Rattle.laws.proofs.Each.{next}
use Rattle.graph.specs.code.Tables.{owned, items_of}
use Rattle.grid.specs.declared.render_node.Run.{Run}
use Rattle.grid.specs.Curves.{output_for, curve_if}
use Rattle.grid.specs.code.Laid.{inputs_in, outputs_in, laid_inputs, laid_outputs, add_all, no_curves, curves_over, curves_at}
use Rattle.grid.specs.code.Row.{ends_left}
use Rattle.grid.proofs.CurveLaws.{curve_of, curve-is}
use Rattle.grid.proofs.RowLaws.{input_of, outputs-are, inputs-are, ends-aimed}
use Rattle.grid.proofs.render_grid.all_curves.Goals as goal
use Rattle.grid.proofs.render_grid.all_curves.Goals.{After-moved-into, After-next, After-output_for}

pub loop-k-init : goal.loop-k-init
unfolding each
loop-k-init c = c.requires.none

pub loop-e-init : goal.loop-e-init
loop-e-init c =
    let a = c.args in
    let l = c.loop-k in
    let into = c.moved-into.result in
    let xs = items_of a.sources.now in
    rw (c.into_iter-e-iterator.ensures.into_iter_gives, c.ends-e-items.ensures) (
      ends-aimed (length a.boxes.now) l.k into.gap xs into.x c.requires.aimed,
      ap (λ is. add_all l.all (curves_over (items_of a.sinks.now) (outputs_in a.sides.now a.boxes.now) l.k is)) (sym (inputs-are l.k into.gap into.y xs into.x)),
    )

pub bounds-sides-from : goal.bounds-sides-from
bounds-sides-from c = let a = rw c.in-Some.ensures.steps at c.loop-e.invariant.0 in omega (arith, a.0, c.requires.same)

pub bounds-boxes-from : goal.bounds-boxes-from
bounds-boxes-from c = let a = rw c.in-Some.ensures.steps at c.loop-e.invariant.0 in a.0

-- what is drawn of the end at hand
drawn : (c : After-output_for) →
    let i = input_of c.moved-into.result.y c.in-Some.e in
    curve_if (output_for i.mark (laid_outputs (outputs_in c.args.sides.now c.args.boxes.now i.from) (owned i.from (items_of c.args.sinks.now))) c.loop-k.k) i
    ≡ curve_of c.output_for.result c.moved-run.result.y i
drawn c =
    let i = input_of c.moved-into.result.y c.in-Some.e in
    let run = c.moved-run.result in
    let xs = items_of c.args.sinks.now in
    ap (λ (v : Run). curve_if (output_for i.mark (laid_outputs v (owned i.from xs)) c.loop-k.k) i) (sym c.moved-run.ensures)
    ∙ rw (outputs-are i.from run.gap run.y xs run.x, ← c.ends-ends.ensures) (curve-is run.y c.loop-k.k i i.mark c.number.result c.number.ensures (ends_left c.ends-ends.result))
    ∙ ap (λ o. curve_of o run.y i) (sym c.output_for.ensures)

pub loop-e-preserved-in-Some-output_for : goal.loop-e-preserved-in-Some-output_for
loop-e-preserved-in-Some-output_for c =
    let l = rw c.in-Some.ensures.steps at c.loop-e.invariant in
    let d = rw c.in-Some-output_for.is at (drawn (goal.at.loop-e-preserved-in-Some-output_for c).After-output_for) in
    (l.0.1, rw (c.push.ensures.table, c.push.ensures.room) (rw d at l.1))

pub loop-e-preserved : goal.loop-e-preserved
loop-e-preserved c =
    let l = rw c.in-Some.ensures.steps at c.loop-e.invariant in
    let d = rw c.in_default.is at (drawn (goal.at.loop-e-preserved c).After-output_for) in
    (l.0.1, rw d at l.1)

pub loop-k-preserved : goal.loop-k-preserved
loop-k-preserved c =
    let a = c.args in
    let l = c.loop-k in
    let us = items_of a.sources.now in
    let vs = items_of a.sinks.now in
    let ins = inputs_in a.sides.now a.boxes.now in
    let outs = outputs_in a.sides.now a.boxes.now in
    rw c.in-None.ensures.steps.0 at c.loop-e.invariant.1
    ∙ ap (λ (v : Run). add_all l.all (curves_over vs outs l.k (laid_inputs v (owned l.k us)))) c.moved-into.ensures
    ∙ ap (curves_at us vs ins outs l.k) l.invariant ∙ sym (next no_curves (curves_at us vs ins outs) l.k)
