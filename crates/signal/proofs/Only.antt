-- 'The lowest free number next' leaves no choice: a graph has one order at most.
-- Assumes nothing.
use Prim.Native.Nat.{ℕ, zero, suc, ◌≤◌, ◌<◌}
use native.Mathlib.Omega.{arith}
use mathlib.Core.Path.{◌≡◌, refl, ap, sym, ◌∙◌}
use mathlib.Core.Logic.{◌⊎◌, inl, inr}
use mathlib.Core.Bool.{true≢false}
use mathlib.Core.List.{List, ◌++◌}
use lib.ListN.{length, get_or, take}
use lib.Seq.{take_all, take-suc}
use Rattle.laws.specs.Lists.{one}
use Rattle.laws.proofs.Tests.{less?}
use Rattle.graph.specs.Shape.{Shape}
use Rattle.signal.specs.Signal.{free, sources_in}
use Rattle.signal.specs.Laws.{Order}

module _ (g : Shape) where
  -- after the same nodes the next of the one is not below that of the other
  not_below : (os ps : List ℕ) → Order g os → Order g ps → (i : ℕ) → i < length g → take i os ≡ take i ps → get_or os i 0 < get_or ps i 0 → ⊥
  not_below os ps a b i h e l = true≢false (sym (a.frees i h) ∙ ap (λ (d : List ℕ). free (sources_in g) d (get_or os i 0)) e ∙ b.lowest i (get_or os i 0) h l)

  module _ (os ps : List ℕ) (a : Order g os) (b : Order g ps) where
    next-same : (i : ℕ) → i < length g → take i os ≡ take i ps → get_or os i 0 ≡ get_or ps i 0
    next-same i h e = go (less? (get_or os i 0) (get_or ps i 0)) (less? (get_or ps i 0) (get_or os i 0))
      where
        go : (get_or os i 0 < get_or ps i 0) ⊎ (get_or ps i 0 ≤ get_or os i 0) → (get_or ps i 0 < get_or os i 0) ⊎ (get_or os i 0 ≤ get_or ps i 0) → get_or os i 0 ≡ get_or ps i 0
        go (inl l) r = absurd (not_below os ps a b i h e l)
        go (inr l) (inl m) = absurd (not_below ps os b a i h (sym e) m)
        go (inr l) (inr m) = omega arith

    begins-same : (i : ℕ) → i ≤ length g → take i os ≡ take i ps
    begins-same zero h = refl
    begins-same (suc i) h =
        let e : take i os ≡ take i ps = begins-same i (omega arith) in
        let m : i < length os = omega (arith, a.count) in
        let n : i < length ps = omega (arith, b.count) in
        take-suc os i 0 m
        ∙ ap (λ (d : List ℕ). d ++ one (get_or os i 0)) e
        ∙ ap (λ (x : ℕ). take i ps ++ one x) (next-same i (omega arith) e)
        ∙ sym (take-suc ps i 0 n)

    pub one-order : os ≡ ps
    one-order = sym (take_all (length g) os (omega (arith, a.count))) ∙ begins-same (length g) (omega arith) ∙ take_all (length g) ps (omega (arith, b.count))
