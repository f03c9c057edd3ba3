-- `stand_ins` meets its contract: after j turns the first j texts are put. Assumes nothing.
use Prim.Native.Nat.{ℕ}
use native.Mathlib.Omega.{arith}
use mathlib.Core.Path.{◌≡◌, refl, ap, ◌∙◌}
use mathlib.Core.List.{List}
use lib.ListN.{length}
use Rattle.path.specs.Writer.{put}
use Rattle.path.specs.Label.{stand_in, stand_ins_from, stand_ins_to, stand_ins}
use Rattle.path.proofs.Labels.{text-put, table-put}
use Rattle.path.proofs.stand_ins.Invariants.{zeros}
use Rattle.path.proofs.stand_ins.Goals as goal

pub loop-j-init : goal.loop-j-init
unfolding stand_ins_from
loop-j-init c = refl

pub loop-j-preserved : goal.loop-j-preserved
loop-j-preserved c =
    let j = c.loop-j.j in
    c.put.ensures ∙ ap (λ (t : List ℕ). put t (length (stand_ins_to j)) (stand_in j)) c.loop-j.invariant ∙ text-put zeros j

pub returns : goal.returns
unfolding stand_ins
returns c =
    let e : c.loop-j.j ≡ 287 = omega arith in
    c.loop-j.invariant ∙ ap (λ (j : ℕ). put zeros 0 (stand_ins_to j)) e ∙ table-put zeros refl
