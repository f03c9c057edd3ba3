-- A number's digits written from the last to the first: what is written and what is left. Assumes nothing.
use mathlib.Core.Path.{◌≡◌, refl, sym, ap, ◌∙◌}
use mathlib.Core.Bool.{Bool, true, false}
use mathlib.Core.List.{List, [], ◌∷◌, ◌++◌, append_assoc}
use Prim.Native.Nat.{ℕ, ◌+◌, ◌-◌, ◌/◌, ◌%◌, ◌≤◌, ◌<◌}
use native.Mathlib.Omega.{arith}
use borrow.Author.Tests.{ltb-true, ltb-false}
use lib.Dec.{ltb}
use lib.ListN.{length, set, length-append}
use lib.Seq.{length-sets}
use Rattle.path.specs.Number.{digits}
use Rattle.path.specs.Writer.{put}
use Rattle.path.proofs.Numbers.{digits-one, digits-tens, length-one, length-tens, length_some}
use Rattle.path.proofs.Puts.{put-before}

-- of n's digits at `at` those of m are left, and the rest stands from i on
pub record Tail (buf₀ : List ℕ) (at n : ℕ) (buf : List ℕ) (m i : ℕ) : Type 0 where
  pub rest : List ℕ
  pub split : digits n ≡ digits m ++ rest
  pub here : i ≡ at + length (digits m)
  pub same : buf ≡ put buf₀ i rest

module _ {buf₀ : List ℕ} {at n : ℕ} {buf : List ℕ} {m i : ℕ} (t : Tail buf₀ at n buf m i) where
  tail-long : length buf ≡ length buf₀
  tail-long = ap length t.same ∙ length-sets buf₀ i t.rest

  pub tail-room : at < i
  tail-room = omega (arith, t.here, length_some m)

  pub tail-fits : at + length (digits n) ≤ length buf₀ → i ≤ length buf
  tail-fits h = omega (arith, t.here, tail-long, ap length t.split, length-append (digits m) t.rest)

  -- m has one digit where none is left but the first
  tail-tens : at + 1 < i → 10 ≤ m
  tail-tens h = go (ltb m 10) refl
    where
      go : (b : Bool) → ltb m 10 ≡ b → 10 ≤ m
      go true e = absurd (omega (arith, t.here, length-one m (ltb-true m 10 e)))
      go false e = ltb-false m 10 e

  pub tail-last : i ≤ at + 1 → m < 10
  tail-last h = go (ltb m 10) refl
    where
      go : (b : Bool) → ltb m 10 ≡ b → m < 10
      go true e = ltb-true m 10 e
      go false e = absurd (omega (arith, t.here, length-tens m (ltb-false m 10 e), length_some (m / 10)))

  pub tail_more : at + 1 < i → Tail buf₀ at n (set buf (i - 1) (48 + m % 10)) (m / 10) (i - 1)
  tail_more h =
      let e : i ≡ i - 1 + 1 = omega arith in
      record {
        rest = (48 + m % 10) ∷ t.rest;
        split = t.split ∙ rw (digits-tens m (tail-tens h)) (append_assoc (digits (m / 10)) ((48 + m % 10) ∷ []) t.rest);
        here = omega (arith, t.here, length-tens m (tail-tens h));
        same = ap (λ (b : List ℕ). set b (i - 1) (48 + m % 10)) (t.same ∙ ap (λ (k : ℕ). put buf₀ k t.rest) e) ∙ put-before t.rest buf₀ (i - 1) (48 + m % 10);
      }

  pub tail-ends : i ≤ at + 1 → set buf at (48 + m) ≡ put buf₀ at (digits n)
  tail-ends h =
      let e : i ≡ at + 1 = omega (arith, tail-room) in
      ap (λ (b : List ℕ). set b at (48 + m)) (t.same ∙ ap (λ (k : ℕ). put buf₀ k t.rest) e)
      ∙ put-before t.rest buf₀ at (48 + m)
      ∙ ap (put buf₀ at) (sym (t.split ∙ ap (λ (k : List ℕ). k ++ t.rest) (digits-one m (tail-last h))))
