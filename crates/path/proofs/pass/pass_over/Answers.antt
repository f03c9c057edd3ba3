-- `pass::pass_over` meets its contract: after i turns the pass is `pass_to` i. Assumes nothing.
use Rattle.path.proofs.Passes.{turn_count, turn_value, turn_next}
use mathlib.Core.Path.{◌∙◌}
use native.Mathlib.Omega.{arith}
use Rattle.path.specs.code.Pass.{pass_to}
use Rattle.path.proofs.pass.pass_over.Goals as goal

pub loop-i-init : goal.loop-i-init
unfolding pass_to
loop-i-init c = c.begin-m.ensures

pub pass_on-requires : goal.pass_on-requires
pass_on-requires c =
    let t = c.args.text.now in
    let l = c.loop-i in
    record {
      count_le_at = (turn_count c.args.k t l.i l.m c.act_of-a.result l.invariant c.act_of-a.ensures, omega arith);
      stand_bound = turn_value c.args.k t l.i l.m c.act_of-a.result l.invariant c.act_of-a.ensures;
    }

pub loop-i-preserved : goal.loop-i-preserved
loop-i-preserved c = c.pass_on.ensures ∙ turn_next c.args.k c.args.text.now c.loop-i.i c.loop-i.m c.act_of-a.result c.loop-i.invariant c.act_of-a.ensures
