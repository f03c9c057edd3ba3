-- The code's table has a graph's weights after both rounds, and all its numbers fit 32 bits: the two sums of a pair do not mix.
-- Assumes nothing.
use Prim.Native.Nat.{ℕ, zero, suc, ◌≤◌, ◌<◌}
use native.Mathlib.Omega.{arith}
use mathlib.Core.Path.{◌≡◌, refl, subst, sym, ◌∙◌, ap}
use mathlib.Core.List.{List}
use lib.ListN.{length, get_or, replicate, length-replicate}
use Rattle.graph.specs.Shape.{Shape}
use Rattle.order.specs.declared.codes.Pair.{Pair}
use Rattle.order.specs.Against.{all}
use Rattle.order.specs.Weights.{before_of, after_of, round, first, weights}
use Rattle.order.specs.declared.weights.Round.TheVariants.{First, Second}
use Rattle.order.specs.code.Sums.{tallied, sums_of, makes, round_at, Rows, RoundFits, Codes, Hold}
use Rattle.order.proofs.Rounds.{fine-first, flagged_first}
use Rattle.order.proofs.Hold.{made-is, stood-again}
use Rattle.order.proofs.Start.{codes-size, hold_first, tallied-long}
use Rattle.order.proofs.Most.{before-made, after-made, before-most, after-most}

pub zeros-at : (n i : ℕ) → ◌≡◌ {A = ℕ} (get_or (replicate n 0) i 0) 0
zeros-at zero i = refl
zeros-at (suc n) zero = refl
zeros-at (suc n) (suc i) = zeros-at n i

module _ (g : Shape) (xs : List Pair) (d : Codes g xs) where
  room : length (all g) ≤ 352
  room = omega (arith, codes-size g xs d, d.room)

  -- round 1: s is the table before it, r after it
  module _ (s : List ℕ) (h : s ≡ tallied xs (replicate 1128 0) (length xs)) where
    long : length s ≡ 1128
    long = ap length h ∙ tallied-long xs (replicate 1128 0) (length xs) ∙ length-replicate {A = ℕ} 1128 0

    hold₀ : Hold (length g) (first g) s
    hold₀ = subst (Hold (length g) (first g)) (sym h) (hold_first g xs d (replicate 1128 0) (length-replicate {A = ℕ} 1128 0) (zeros-at 1128))

    made : (a b : ℕ) → a < b → b < length g → round_at (makes First) s a b ≡ sums_of (before_of a b (round (first g))) (after_of a b (round (first g)))
    made a b i j = made-is (length g) (first g) (fine-first g d.aimed) s hold₀ a b i j (flagged_first g)

    pub fits-first : RoundFits (makes First) (length g) s
    fits-first =
        record {
          long = long;
          few = d.few;
          fits = λ a b i j. omega (arith, made a b i j, before-made g d.few d.aimed room a b i j, after-made g d.few d.aimed room a b i j);
        }

    -- round 2: q is the table after it
    module _ (r : List ℕ) (w : Rows (makes First) (length g) (length g) s r) where
      hold₁ : Hold (length g) (round (first g)) r
      hold₁ a b i j = w.did a b i j (omega arith) ∙ made a b i j

      stood : (a b : ℕ) → a < b → b < length g → round_at (makes Second) r a b ≡ sums_of (before_of a b (round (round (first g)))) (after_of a b (round (round (first g))))
      stood a b i j = stood-again (length g) (first g) (fine-first g d.aimed) (flagged_first g) r hold₁ a b i j

      pub fits-second : RoundFits (makes Second) (length g) r
      fits-second =
          record {
            long = w.long ∙ long;
            few = d.few;
            fits = λ a b i j. omega (arith, stood a b i j, before-most g d.few d.aimed room a b i j, after-most g d.few d.aimed room a b i j);
          }

      pub weighed : (q : List ℕ) → Rows (makes Second) (length g) (length g) r q → Hold (length g) (weights g) q
      unfolding weights
      weighed q v a b i j = v.did a b i j (omega arith) ∙ stood a b i j
