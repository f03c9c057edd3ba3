-- `text_count` meets its contract: by the verdict (`Texts`). Assumes nothing.
use Rattle.path.proofs.Texts.{count-fine, count-refused}
use Rattle.path.proofs.Promises.{reading, is-count}
use mathlib.Core.Path.{◌≡◌, ◌∙◌}
use borrow.Author.Rules.{rules}
use Rattle.std.specs.Prelude.{Err}
use Rattle.path.proofs.text_count.Goals as goal

pub returns-in_err-judge : goal.returns-in_err-judge
returns-in_err-judge c =
    let e : c.from_residual.result ≡ Err c.in_err-judge.field-0.0 = search rules in
    record { count = is-count _ _ (e ∙ count-refused 0 c.args.text.now c.pass_over-m.result c.judge.result c.pass_over-m.ensures c.judge.ensures _ c.in_err-judge.was); reading = reading c.args.text.now }

pub returns : goal.returns
returns c = record { count = is-count _ _ (count-fine 0 c.args.text.now c.pass_over-m.result c.judge.result c.pass_over-m.ensures c.judge.ensures c.in_ok-judge.was); reading = reading c.args.text.now }
