-- `copy`: after i turns the first i bytes are written.
-- Assumes nothing.
use mathlib.Core.Path.{◌≡◌, refl, ap, ◌∙◌}
use Prim.Native.Nat.{ℕ}
use native.Mathlib.Omega.{arith}
use mathlib.Core.List.{List}
use lib.ListN.{length, take, set, get_or}
use lib.Seq.{length-sets, take-length}
use Rattle.path.specs.Writer.{put}
use Rattle.path.proofs.Texts.{copy_next}
use Rattle.path.proofs.copy.Goals as goal

pub loop-i-init : goal.loop-i-init
loop-i-init c = refl

pub bounds-buf-i : goal.bounds-buf-i
bounds-buf-i c = omega (arith, ap length c.loop-i.invariant, length-sets c.args.buf.now 0 (take c.loop-i.i c.args.text.now))

pub loop-i-preserved : goal.loop-i-preserved
loop-i-preserved c = ap (λ (z : List ℕ). set z c.loop-i.i (get_or c.args.text.now c.loop-i.i 0)) c.loop-i.invariant ∙ copy_next c.args.text.now c.args.buf.now c.loop-i.i (omega arith)

pub returns : goal.returns
returns c = let e : c.loop-i.i ≡ length c.args.text.now = omega arith in c.loop-i.invariant ∙ ap (λ (z : ℕ). put c.args.buf.now 0 (take z c.args.text.now)) e ∙ ap (put c.args.buf.now 0) (take-length c.args.text.now)
