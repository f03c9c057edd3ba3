-- The first target outside, looked for in the tables.
-- Assumes nothing.
use Prim.Native.Nat.{ℕ, suc, ◌+◌, ◌-◌, ◌≤◌, ◌<◌}
use native.Mathlib.Numerals.{add-one}
use mathlib.Core.Logic.{◌⊎◌, inl, inr}
use mathlib.Core.Path.{◌≡◌, refl, sym, ap, ◌∙◌}
use mathlib.Core.Bool.{Bool, true, false, cond, ◌&&◌}
use mathlib.Core.List.{List, [], ◌∷◌, ◌++◌}
use lib.Dec.{eqb, leb, ltb}
use denote.Ref.{Bor}
use borrow.Author.Tests.{lt-ltb, le-ltb, lt-leb, le-leb}
use Rattle.std.specs.Prelude.{Option, Some, None, is_some, IsSomeAnd, MatchOption}
use Rattle.std.specs.List.{find}
use Rattle.std.specs.Option.{option_map}
use Rattle.std.proofs.lemmas.Bool.{false≢true}
use Rattle.chart.specs.declared.Item.{Item}
use Rattle.chart.specs.declared.Line.{Line}
use Rattle.chart.specs.Chart.{targets, targets_of, first_outside}
use Rattle.chart.specs.code.Filled.{end_of, owned, node_of, board_from}
use Rattle.laws.specs.Lists.{tabulate, keep}
use Rattle.laws.proofs.Lists.{one_more}
use Rattle.laws.proofs.Tests.{less?}

-- the first of the records of q whose target isn't below n
pub found-outside : (q n : ℕ) (xs : List Item) → option_map (λ (e : Item). e.to) (find (λ e. eqb e.owner q && leb n e.to) xs) ≡ first_outside (targets (owned q xs)) n
found-outside q n [] = refl
found-outside q n (x ∷ xs) = go (eqb x.owner q) (less? x.to n) (found-outside q n xs)
  where
    go : (b : Bool) → (x.to < n) ⊎ (n ≤ x.to) → option_map (λ (e : Item). e.to) (find (λ e. eqb e.owner q && leb n e.to) xs) ≡ first_outside (targets (owned q xs)) n
        → option_map (λ (e : Item). e.to) (cond (b && leb n x.to) (Some x) (find (λ e. eqb e.owner q && leb n e.to) xs)) ≡ first_outside (targets (keep b (end_of x) (owned q xs))) n
    go false t i = i
    go true (inl h) i = rw (lt-leb n x.to h, lt-ltb x.to n h, i)
    go true (inr h) i = rw (le-leb n x.to h, le-ltb x.to n h)

-- what `find` found, mapped
pub mapped-found : (r : Option (Bor Item)) (o : Option ℕ) (P : Bor Item → ℕ → Type 0) → MatchOption r (o ≡ None) (λ x. IsSomeAnd o (P x)) → ((x : Bor Item) (t : ℕ) → P x t → t ≡ x.now.to) → o ≡ option_map (λ (e : Item). e.to) (option_map (λ (x : Bor Item). x.now) r)
mapped-found None o P m k = m
mapped-found (Some x) None P m k = absurd m
mapped-found (Some x) (Some t) P m k = ap Some (k x t m)

-- the first of two lists, or else of the second
abbrev pub or_else : Option ℕ → Option ℕ → Option ℕ
or_else None o = o
or_else (Some t) o = Some t

pub or_first : (o u : Option ℕ) → is_some o ≡ true → or_else o u ≡ o
or_first None u e = absurd (false≢true e)
or_first (Some t) u e = refl

pub or_second : (o u : Option ℕ) → is_some o ≡ false → or_else o u ≡ u
or_second None u e = refl
or_second (Some t) u e = absurd (false≢true (sym e))

choose : (b : Bool) (t : ℕ) (o u : Option ℕ) → cond b (or_else o u) (Some t) ≡ or_else (cond b o (Some t)) u
choose true t o u = refl
choose false t o u = refl

pub or-else-is : (o r u : Option ℕ) (P : Type 0) → MatchOption o P (λ x. r ≡ Some x) → (P → r ≡ u) → r ≡ or_else o u
or-else-is None r u P m k = k m
or-else-is (Some t) r u P m k = m

pub first-append : (xs ys : List ℕ) (n : ℕ) → first_outside (xs ++ ys) n ≡ or_else (first_outside xs n) (first_outside ys n)
first-append [] ys n = refl
first-append (x ∷ xs) ys n = rw (first-append xs ys n) (choose (ltb x n) x (first_outside xs n) (first_outside ys n))

-- what is found in the nodes from p on, of which there are left
abbrev pub searched : List Item → List Line → List Item → ℕ → ℕ → ℕ → Option ℕ
searched xs ls ys n p left = first_outside (targets_of (tabulate (node_of xs ls ys) p left)) n

pub searched-on : (xs : List Item) (ls : List Line) (ys : List Item) (n p left : ℕ) → 0 < left
    → searched xs ls ys n p left ≡ or_else (first_outside (targets (owned p ys) ++ targets (owned p xs)) n) (searched xs ls ys n (p + 1) (left - 1))
searched-on xs ls ys n p left h =
    one_more (searched xs ls ys n p) left h
    ∙ first-append (targets (owned p ys) ++ targets (owned p xs)) (targets_of (tabulate (node_of xs ls ys) (suc p) (left - 1))) n
    ∙ rw (add-one p)

pub searched-all : (xs : List Item) (ls : List Line) (ys : List Item) (n : ℕ) → searched xs ls ys n 0 n ≡ first_outside (targets_of (board_from n xs ls ys)) n
unfolding board_from
searched-all xs ls ys n = refl
