-- `label::text_end`: what is left ends where the whole does.
-- Assumes nothing.
use Prim.Native.Nat.{◌+◌, ◌-◌}
use mathlib.Core.Path.{◌≡◌, sym, ◌∙◌}
use native.Mathlib.Omega.{arith}
use lib.ListN.{get_or}
use Rattle.path.proofs.Labels.{ending-next, ending-none, bytes_most}
use Rattle.path.proofs.label.text_end.Goals as goal

pub loop-k-init : goal.loop-k-init
loop-k-init c = let e : c.args.len - 0 ≡ c.args.len = omega arith in (rw e, omega arith)

pub overflow_add-end : goal.overflow_add-end
overflow_add-end c = omega (arith, c.character_bytes-end.ensures, bytes_most (get_or c.args.chart.now c.loop-k.end 0), c.loop-k.invariant.1)

pub loop-k-preserved : goal.loop-k-preserved
loop-k-preserved c =
    let l = c.loop-k in
    let s = c.args.chart.now in
    let e : c.args.len - (l._k + 1) ≡ c.args.len - l._k - 1 = omega arith in (
      rw (c.character_bytes-end.ensures, e) (sym (ending-next (c.args.len - l._k) s l.end (omega arith)) ∙ l.invariant.0),
      omega (arith, c.character_bytes-end.ensures, bytes_most (get_or s l.end 0), l.invariant.1),
    )

pub returns : goal.returns
returns c =
    let l = c.loop-k in
    ending-none (c.args.len - l._k) c.args.chart.now l.end (omega arith) ∙ l.invariant.0
