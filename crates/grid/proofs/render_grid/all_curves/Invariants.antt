-- `render_grid::all_curves`: after k turns the curves are those of the first k boxes; within a turn, what is drawn and what is left make up those of box k.
-- Assumes nothing.
use Rattle.std.proofs.Common.{◌≡◌, ◌<◌, map, length}
use Rattle.laws.specs.Lists.{All}
use Rattle.laws.specs.Each.{each}
use Rattle.graph.specs.code.Tables.{owned, items_of}
use Rattle.grid.specs.code.Laid.{inputs_in, outputs_in, laid_inputs, add_all, no_curves, curves_over, curves_at}
use Rattle.grid.specs.code.Row.{ends_left}
use Rattle.grid.proofs.RowLaws.{input_of}
use Rattle.grid.proofs.render_grid.all_curves.Given as goal

abbrev pub invariant-loop-e : goal.invariant-loop-e
invariant-loop-e l =
    All (λ e. e.item.to < length l.boxes) (ends_left l.e-iterator)
    × (add_all l.all (curves_over (items_of l.sinks) (outputs_in l.sides l.boxes) l.k (map (input_of l.into.y) (ends_left l.e-iterator)))
    ≡ add_all l.initial.all (curves_over (items_of l.sinks) (outputs_in l.sides l.boxes) l.k (laid_inputs l.into (owned l.k (items_of l.sources)))))

abbrev pub invariant-loop-k : goal.invariant-loop-k
invariant-loop-k l = l.all ≡ each no_curves (curves_at (items_of l.sources) (items_of l.sinks) (inputs_in l.sides l.boxes) (outputs_in l.sides l.boxes)) l.k
