-- `signal_order`: the graph crate's promise and that of `ordered_of`, and the laws of the definition.
-- Assumes nothing.
use Rattle.std.proofs.Common.{◌≡◌, ◌∙◌, rules}
use Rattle.std.specs.Prelude.{Err}
use Rattle.signal.specs.declared.NoOrder.TheVariants.{Refused}
use Rattle.graph.proofs.Tabled.{completed-answers, completed-few}
use Rattle.signal.proofs.SignalLaws.{is-signal-order}
use Rattle.signal.proofs.Graphs.{signal-ready, signal-refused}
use Rattle.signal.proofs.signal_order.Goals as goal

pub ordered_of-requires : goal.ordered_of-requires
ordered_of-requires c =
    let s = c.args.chart.now in
    record { linked = (completed-answers s c.completed.result c.completed.ensures).linked c.in_ok-g.g c.in_ok-g.was; n_bound = completed-few s c.completed.result c.completed.ensures c.in_ok-g.g c.in_ok-g.was }

pub returns-in_err-g : goal.returns-in_err-g
returns-in_err-g c =
    let s = c.args.chart.now in
    let e : c.from_residual.result ≡ Err (Refused c.in_err-g.field-0.0) = search rules in
    is-signal-order s _ (e ∙ signal-refused s c.completed.result (completed-answers s c.completed.result c.completed.ensures) _ c.in_err-g.was)

pub returns : goal.returns
returns c =
    let s = c.args.chart.now in
    is-signal-order s c.ordered_of.result (signal-ready s c.completed.result (completed-answers s c.completed.result c.completed.ensures) c.in_ok-g.g c.in_ok-g.was c.ordered_of.result c.ordered_of.ensures)
