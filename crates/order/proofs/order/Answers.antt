-- `order`: the graph crate's promise and that of `drawn`, by the laws of `Graphs`.
-- Assumes nothing.
use Rattle.std.proofs.Common.{◌≡◌, rules}
use Rattle.std.specs.Prelude.{Err}
use Rattle.order.proofs.Graphs.{order-ready, order-refused}
use Rattle.graph.proofs.Tabled.{is-answer}
use Rattle.order.proofs.order.Goals as goal

pub drawn-requires : goal.drawn-requires
drawn-requires c = (is-answer c.args.setting c.args.chart.now c.graph.result c.graph.ensures).linked c.in_ok-g.g c.in_ok-g.was

pub returns-in_err-g : goal.returns-in_err-g
returns-in_err-g c =
    let e : c.from_residual.result ≡ Err c.in_err-g.field-0.0 = search rules in
    rw e (order-refused c.args.setting c.args.chart.now c.graph.result (is-answer c.args.setting c.args.chart.now c.graph.result c.graph.ensures) _ c.in_err-g.was)

pub returns : goal.returns
returns c = order-ready c.args.setting c.args.chart.now c.graph.result (is-answer c.args.setting c.args.chart.now c.graph.result c.graph.ensures) c.in_ok-g.g c.in_ok-g.was c.drawn.result c.drawn.ensures
