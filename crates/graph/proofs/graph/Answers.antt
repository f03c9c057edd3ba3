-- `graph`: the promises of its steps, by the laws of `Stages`.
-- Assumes nothing.
use Rattle.std.proofs.Common.{◌≡◌, rules}
use Rattle.std.specs.Prelude.{Err}
use Rattle.graph.proofs.Begins.{read_held}
use Rattle.graph.proofs.Stages.{graph-unread, graph-unjoined, graph-uncut, graph-cut}
use Rattle.graph.proofs.graph.Goals as goal

pub returns-in_err-board : goal.returns-in_err-board
returns-in_err-board c =
    let e : c.from_residual.result ≡ Err c.in_err-board.field-0.0 = search rules in
    rw e (graph-unread c.args.setting c.args.chart.now (λ i. search rules) c.read.result c.read.ensures _ c.in_err-board.was)

pub joined_of-requires : goal.joined_of-requires
joined_of-requires c = read_held c.args.setting c.args.chart.now c.read.result c.read.ensures _ c.in_ok-board.was

pub returns-in_err-dag : goal.returns-in_err-dag
returns-in_err-dag c =
    let e : c.from_residual-in_err-dag.result ≡ Err c.in_err-dag.field-0.0 = search rules in
    rw e (graph-unjoined c.args.setting c.args.chart.now (λ i. search rules) c.read.result c.read.ensures _ c.in_ok-board.was _ c.in_err-dag.ensures)

pub returns-in_err-cut_cycles : goal.returns-in_err-cut_cycles
returns-in_err-cut_cycles c =
    let e : c.from_residual-in_err-cut_cycles.result ≡ Err c.in_err-cut_cycles.field-0.0 = search rules in
    rw e (graph-uncut c.args.setting c.args.chart.now (λ i. search rules) c.read.result c.read.ensures _ c.in_ok-board.was _ c.in_ok-dag.ensures _ c.cut_cycles.new.t c.in_err-cut_cycles.ensures)

pub returns : goal.returns
returns c =
    graph-cut c.args.setting c.args.chart.now (λ i. search rules) c.read.result c.read.ensures _ c.in_ok-board.was _ c.in_ok-dag.ensures c.cut_cycles.new.t c.in_ok-cut_cycles.ensures
    c.finished.new.t c.finished.ensures
