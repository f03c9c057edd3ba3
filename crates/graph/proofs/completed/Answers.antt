-- `completed`: the promises of its steps, by the laws of `Stages`.
-- Assumes nothing.
use Rattle.std.proofs.Common.{◌≡◌, rules}
use Rattle.std.specs.Prelude.{Err}
use Rattle.chart.specs.declared.Setting.TheVariants.{Strict}
use Rattle.graph.proofs.Begins.{read_held}
use Rattle.graph.proofs.Stages.{completed-unread, completed-joined, completed-ready}
use Rattle.graph.proofs.completed.Goals as goal

pub returns-in_err-board : goal.returns-in_err-board
returns-in_err-board c =
    let e : c.from_residual.result ≡ Err c.in_err-board.field-0.0 = search rules in
    rw e (completed-unread c.args.chart.now c.read.result c.read.ensures _ c.in_err-board.was)

pub joined_of-requires : goal.joined_of-requires
joined_of-requires c = read_held Strict c.args.chart.now c.read.result c.read.ensures _ c.in_ok-board.was

pub returns-in_err-whole : goal.returns-in_err-whole
returns-in_err-whole c =
    let e : c.from_residual-in_err-whole.result ≡ Err c.in_err-whole.field-0.0 = search rules in
    rw e (completed-joined c.args.chart.now c.read.result c.read.ensures _ c.in_ok-board.was _ c.in_err-whole.ensures)

pub returns : goal.returns
returns c = completed-ready c.args.chart.now c.read.result c.read.ensures _ c.in_ok-board.was _ c.in_ok-whole.ensures (search rules) c.finished.new.t c.finished.ensures
