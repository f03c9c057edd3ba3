-- Laws of the records that a node owns, and of its ends in their places.
-- Assumes nothing.
use Prim.Native.Nat.{ℕ, suc, ◌+◌, ◌*◌, ◌≤◌, ◌<◌}
use native.Mathlib.Omega.{arith}
use mathlib.Core.Path.{◌≡◌, refl, ap}
use mathlib.Core.Bool.{Bool, true, false, cond}
use mathlib.Core.List.{List, [], ◌∷◌, map}
use lib.Dec.{eqb, ltb}
use lib.ListN.{length, get_or, drop}
use borrow.Author.Tests.{ltb-true, ltb-false}
use Rattle.std.specs.Prelude.{Option, Some, None}
use Rattle.std.specs.List.{filter, position_or_len}
use Rattle.std.specs.Option.{MatchOption}
use Rattle.laws.specs.Lists.{All, keep, owned_by}
use Rattle.graph.specs.declared.Item.{Item}
use Rattle.graph.specs.code.Tables.{owned, edge_of, mark_of, Aimed}
use Rattle.grid.specs.declared.render_node.row.End.{End}
use Rattle.grid.specs.RenderNode.{Input, Output, inputs_at, outputs_at}
use Rattle.grid.specs.code.Row.{end_of, ends_at, own}

one-add : (k : ℕ) → 1 + k ≡ suc k
one-add k = omega arith

-- ---- the items that pass a test
module _ {R : Type 0} (test : R → Bool) (z : R) where
  abbrev place : List R → ℕ
  place = position_or_len test

  first : (xs : List R) → place xs < length xs → filter test xs ≡ get_or xs (place xs) z ∷ filter test (drop (suc (place xs)) xs)
  first [] h = absurd (omega arith)
  first (x ∷ xs) h = go (first xs) (test x) refl
    where
      go : (place xs < length xs → filter test xs ≡ get_or xs (place xs) z ∷ filter test (drop (suc (place xs)) xs)) →
          (b : Bool) → test x ≡ b → filter test (x ∷ xs) ≡ get_or (x ∷ xs) (place (x ∷ xs)) z ∷ filter test (drop (suc (place (x ∷ xs))) (x ∷ xs))
      go rest true q = rw q refl
      go rest false q = let l : 1 + place xs < suc (length xs) = rw q at h in rw (q, one-add (place xs)) (rest (omega arith))

  none_passes : (xs : List R) → length xs ≤ place xs → filter test xs ≡ []
  none_passes [] h = refl
  none_passes (x ∷ xs) h = go (none_passes xs) (test x) refl
    where
      go : (length xs ≤ place xs → filter test xs ≡ []) → (b : Bool) → test x ≡ b → filter test (x ∷ xs) ≡ []
      go rest true q = let l : suc (length xs) ≤ 0 = rw q at h in absurd (omega arith)
      go rest false q = let l : suc (length xs) ≤ 1 + place xs = rw q at h in rw q (rest (omega arith))

  -- the first of them, where `position` found it, and those after it
  pub first_passing : (xs : List R) (r : Option ℕ) → r ≡ cond (ltb (place xs) (length xs)) (Some (place xs)) None →
      MatchOption r (filter test xs ≡ []) (λ k. filter test xs ≡ get_or xs k z ∷ filter test (drop (suc k) xs))
  first_passing xs r h = rw h (go (ltb (place xs) (length xs)) refl)
    where
      go : (b : Bool) → ltb (place xs) (length xs) ≡ b →
          MatchOption (cond b (Some (place xs)) None) (filter test xs ≡ []) (λ k. filter test xs ≡ get_or xs k z ∷ filter test (drop (suc k) xs))
      go true q = first xs (ltb-true _ _ q)
      go false q = none_passes xs (ltb-false _ _ q)

-- the values of the records that p owns, which a filter passes
pub owned-are : {R W : Type 0} (owner : R → ℕ) (value : R → W) (p : ℕ) (xs : List R) → owned_by owner value p xs ≡ map value (filter (λ r. eqb (owner r) p) xs)
owned-are owner value p [] = refl
owned-are owner value p (x ∷ xs) = go (eqb (owner x) p) (owned-are owner value p xs)
  where
    go : (b : Bool) → owned_by owner value p xs ≡ map value (filter (λ r. eqb (owner r) p) xs) →
        keep b (value x) (owned_by owner value p xs) ≡ map value (cond b (x ∷ filter (λ r. eqb (owner r) p) xs) (filter (λ r. eqb (owner r) p) xs))
    go true rest = ap (λ vs. value x ∷ vs) rest
    go false rest = rest

-- ---- what the definitions make of a node's ends
abbrev pub output_of : ℕ → End → Output
output_of y e = record { x = e.point; y = y; to = e.item.to }

abbrev pub input_of : ℕ → End → Input
input_of y e = record { x = e.point; y = y; from = e.item.to; mark = mark_of e.item.mark }

outputs-of : (gap y : ℕ) (es : List Item) (x : ℕ) → outputs_at gap x y (map edge_of es) ≡ map (output_of y) (ends_at gap x es)
outputs-of gap y [] x = refl
outputs-of gap y (e ∷ es) x = ap (λ os. output_of y (end_of x e) ∷ os) (outputs-of gap y es (x + 128 * e.len + gap))

inputs-of : (gap y : ℕ) (es : List Item) (x : ℕ) → inputs_at gap x y (map edge_of es) ≡ map (input_of y) (ends_at gap x es)
inputs-of gap y [] x = refl
inputs-of gap y (e ∷ es) x = ap (λ is. input_of y (end_of x e) ∷ is) (inputs-of gap y es (x + 128 * e.len + gap))

pub outputs-are : (p gap y : ℕ) (xs : List Item) (x : ℕ) → outputs_at gap x y (owned p xs) ≡ map (output_of y) (ends_at gap x (own p xs))
outputs-are p gap y xs x = rw (owned-are (λ r. r.owner) edge_of p xs) (outputs-of gap y (own p xs) x)

pub inputs-are : (p gap y : ℕ) (xs : List Item) (x : ℕ) → inputs_at gap x y (owned p xs) ≡ map (input_of y) (ends_at gap x (own p xs))
inputs-are p gap y xs x = rw (owned-are (λ r. r.owner) edge_of p xs) (inputs-of gap y (own p xs) x)

-- an end leads where its record does
own-aimed : (n p : ℕ) (xs : List Item) → Aimed n xs → Aimed n (own p xs)
own-aimed n p [] a = tt
own-aimed n p (e ∷ es) a = go (eqb e.owner p) (own-aimed n p es a.1)
  where
    go : (b : Bool) → Aimed n (own p es) → Aimed n (cond b (e ∷ own p es) (own p es))
    go true rest = (a.0, rest)
    go false rest = rest

placed-aimed : (n gap : ℕ) (es : List Item) (x : ℕ) → Aimed n es → All (λ e. e.item.to < n) (ends_at gap x es)
placed-aimed n gap [] x a = tt
placed-aimed n gap (e ∷ es) x a = (a.0, placed-aimed n gap es (x + 128 * e.len + gap) a.1)

pub ends-aimed : (n p gap : ℕ) (xs : List Item) (x : ℕ) → Aimed n xs → All (λ e. e.item.to < n) (ends_at gap x (own p xs))
ends-aimed n p gap xs x a = placed-aimed n gap (own p xs) x (own-aimed n p xs a)
