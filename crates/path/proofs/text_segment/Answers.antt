-- `text_segment` meets its contract: by the verdict, and what the pass kept (`Texts`). Assumes nothing.
use Rattle.path.proofs.Texts.{given-some, given-none, given_range, given-refused}
use native.Mathlib.Omega.{arith}
use Rattle.path.proofs.Promises.{reading, is-text-segment}
use mathlib.Core.Path.{◌≡◌, ◌∙◌}
use borrow.Author.Rules.{rules}
use Rattle.std.specs.Prelude.{Err}
use Rattle.path.proofs.text_segment.Goals as goal

pub returns-in_err-judge : goal.returns-in_err-judge
returns-in_err-judge c =
    let e : c.from_residual.result ≡ Err c.in_err-judge.field-0.0 = search rules in
    record { segment = is-text-segment _ _ _ (e ∙ given-refused c.args.k c.args.text.now c.pass_over-m.result c.judge.result c.pass_over-m.ensures c.judge.ensures _ c.in_err-judge.was); reading = reading c.args.text.now }

pub segment_of-requires : goal.segment_of-requires
segment_of-requires c =
    given_range c.args.k c.args.text.now c.pass_over-m.result c.judge.result c.pass_over-m.ensures c.judge.ensures c.in_ok-judge.was c.drawn_six.result c.drawn_six.ensures

pub returns-then-k-m : goal.returns-then-k-m
returns-then-k-m c =
    record { segment = is-text-segment _ _ _ (given-some c.args.k c.args.text.now c.pass_over-m.result c.judge.result c.pass_over-m.ensures c.judge.ensures c.in_ok-judge.was (omega arith) c.drawn_six.result c.segment_of.result c.drawn_six.ensures c.segment_of.ensures); reading = reading c.args.text.now }

pub returns : goal.returns
returns c =
    record { segment = is-text-segment _ _ _ (given-none c.args.k c.args.text.now c.pass_over-m.result c.judge.result c.pass_over-m.ensures c.judge.ensures c.in_ok-judge.was (omega arith)); reading = reading c.args.text.now }
