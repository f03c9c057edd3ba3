-- The records of one node with their places, and the one that is number s of them.
-- Assumes nothing.
use Prim.Native.Nat.{ℕ, zero, suc, ◌+◌, ◌≤◌}
use native.Mathlib.Omega.{arith}
use native.Mathlib.Nat.{zero-add}
use mathlib.Core.Path.{◌≡◌, refl, ap, ◌∙◌}
use mathlib.Core.Bool.{Bool, true, false}
use mathlib.Core.List.{List, [], ◌∷◌, ◌++◌, append-nil, append_assoc}
use lib.Dec.{eqb}
use lib.ListN.{length, length-append}
use lib.Seq.{get_or_at, take_at}
use borrow.Author.Tests.{eqb-true, eqb-false}
use Rattle.std.specs.Prelude.{Option, None, Some, MatchOption, option_map, slice_get}
use Rattle.std.specs.List.{filter, enumerate_from}
use Rattle.laws.specs.Lists.{one}
use Rattle.graph.specs.declared.Item.{Item}
use Rattle.graph.specs.code.Tables.{owned, edge_of, Sunk}
use Rattle.graph.specs.Outcome.{no_item}
use Rattle.graph.proofs.Gains.{owned-new, owned-old}

abbrev pub numbered : ℕ → ℕ → List Item → List (ℕ × Item)
numbered c n ys = filter (λ (p : ℕ × Item). eqb p.1.owner c) (enumerate_from n ys)

-- ws are all the records, and ys those from place n on: number t of all is number s of these
abbrev Found : ℕ → List Item → ℕ → ℕ → List Item → ℕ → Type 0
Found c ws t n ys s = MatchOption (option_map (λ (p : ℕ × Item). p.0) (slice_get (numbered c n ys) s)) (length (owned c ws) ≤ t) (λ k. Sunk ws c t k)

module _ (c : ℕ) (xs : List Item) (y : Item) (ys : List Item) (later : (s : ℕ) → Found c ((xs ++ one y) ++ ys) (length (owned c (xs ++ one y)) + s) (length (xs ++ one y)) ys s) where
  next : (m s : ℕ) → length (owned c (xs ++ one y)) + s ≡ m → Found c (xs ++ y ∷ ys) m (length xs + 1) ys s
  next m s e = rw (e, append_assoc xs (one y) ys, length-append xs (one y)) at (later s)

  step : (s : ℕ) (b : Bool) → eqb y.owner c ≡ b → Found c (xs ++ y ∷ ys) (length (owned c xs) + s) (length xs) (y ∷ ys) s
  step s false e = rw e (next _ s (ap (λ l. length l + s) (owned-old c xs y (eqb-false y.owner c e))))
  step zero true e =
      rw e
      (record {
        inside = simp length-append (omega arith);
        owner = ap (λ (x : Item). x.owner) (get_or_at xs y ys no_item (length xs) refl) ∙ eqb-true y.owner c e;
        number = ap (λ (l : List Item). length (owned c l)) (take_at xs (y ∷ ys) (length xs) refl) ∙ omega arith;
      })
  step (suc s) true e =
      let size : length (owned c (xs ++ one y)) ≡ length (owned c xs) + 1 = ap length (owned-new c xs y (eqb-true y.owner c e)) ∙ length-append (owned c xs) (one (edge_of y)) in
      rw e (next _ s (omega (arith, size)))

found-from : (c : ℕ) (xs ys : List Item) (s : ℕ) → Found c (xs ++ ys) (length (owned c xs) + s) (length xs) ys s
found-from c xs [] s = rw append-nil (omega arith)
found-from c xs (y ∷ ys) s = step c xs y ys (λ m. found-from c (xs ++ one y) ys m) s (eqb y.owner c) refl

mapped : {A : Type 0} (v : A → ℕ × Item) (o : Option A) (r : Option ℕ) → MatchOption o (r ≡ None) (λ x. r ≡ Some (v x).0) → r ≡ option_map (λ (p : ℕ × Item). p.0) (option_map v o)
mapped v None r m = m
mapped v (Some x) r m = m

-- the place that `nth` gives
pub found-is : {A : Type 0} (c s : ℕ) (ys : List Item) (v : A → ℕ × Item) (o : Option A) → option_map v o ≡ slice_get (numbered c 0 ys) s → (r : Option ℕ) → MatchOption o (r ≡ None) (λ x. r ≡ Some (v x).0) →
    MatchOption r (length (owned c ys) ≤ s) (λ k. Sunk ys c s k)
found-is c s ys v o e r m = rw (mapped v o r m, e) (rw (zero-add s) at (found-from c [] ys s))
