-- `rewrite` meets its contract: by the verdict; what is read is the text of its segments (`Texts`). Assumes nothing.
use Rattle.path.proofs.Texts.{again-short, again-done, again-refused}
use native.Mathlib.Omega.{arith}
use Rattle.path.proofs.Promises.{reading, is-rewritten}
use mathlib.Core.Path.{◌≡◌, ◌∙◌}
use borrow.Author.Rules.{rules}
use Rattle.std.specs.Prelude.{Err}
use Rattle.path.proofs.rewrite.Goals as goal

pub returns-in_err-judge : goal.returns-in_err-judge
returns-in_err-judge c =
    let e : c.from_residual.result ≡ Err c.in_err-judge.field-0.0 = search rules in
    record { written = is-rewritten _ _ _ _ (let z = again-refused 0 c.args.text.now c.pass_over-m.result c.judge.result c.pass_over-m.ensures c.judge.ensures _ c.in_err-judge.was c.args.buf.now in (e ∙ z.0, z.1)); reading = reading c.args.text.now }

pub returns-then-n-buf : goal.returns-then-n-buf
returns-then-n-buf c =
    record { written = is-rewritten _ _ _ _ (again-short 0 c.args.text.now c.pass_over-m.result c.judge.result c.pass_over-m.ensures c.judge.ensures c.in_ok-judge.was c.args.buf.now (omega arith)); reading = reading c.args.text.now }

pub returns : goal.returns
returns c =
    record { written = is-rewritten _ _ _ _ (again-done 0 c.args.text.now c.pass_over-m.result c.judge.result c.pass_over-m.ensures c.judge.ensures c.in_ok-judge.was c.args.buf.now _ (omega arith) c.copy.ensures); reading = reading c.args.text.now }
