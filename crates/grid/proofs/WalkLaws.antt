-- A node's walk as visits of those that it leads to, and the code's rows.
-- Assumes nothing.
use Prim.Native.Nat.{ℕ, zero, suc, ◌+◌, ◌-◌, ◌<◌}
use native.Mathlib.Omega.{arith}
use mathlib.Core.Path.{◌≡◌, refl, ap, sym, ◌∙◌}
use mathlib.Core.Option as maybe
use mathlib.Core.Option.{none, some}
use mathlib.Core.Bool.{Bool, true, not}
use lib.IntN.{ℤ}
use mathlib.Core.List.{List, [], ◌∷◌, ◌++◌, map}
use borrow.Author.Tests.{lt-ltb}
use lib.ListN.{length, get_or, replicate}
use Rattle.std.proofs.lemmas.List.{get_or-map}
use Rattle.std.specs.Prelude.{Option, Some, None}
use Rattle.std.specs.Option.{is_some}
use Rattle.graph.specs.Shape.{Shape, incidents_at}
use Rattle.grid.specs.Lists.{nothing}
use Rattle.grid.specs.Columns.{incidents}
use Rattle.grid.specs.Heights.{Rows, fresh, through, enter, walk_from}
use Rattle.grid.specs.code.Arrays.{held}
use Rattle.grid.specs.code.Walk.{row_by, raised_row, reached_in, rows_of, visits}

-- ---- a node's walk as visits
module _ (g : Shape) (d row : ℕ) where
  down-visits : (ks : List ℕ) (v : Rows) → through (λ u q. walk_from d g (row + 1) u q) v ks ≡ visits g d row 0 ks v
  down-visits [] v = refl
  down-visits (q ∷ ks) v = down-visits ks (walk_from d g (row + 1) v q)

  both-visits : (ss ks : List ℕ) (v : Rows) →
      through (λ u q. walk_from d g (row + 1) u q) (through (λ u q. walk_from d g (row - 1) u q) v ss) ks ≡ visits g d row (length ss) (ss ++ ks) v
  both-visits [] ks v = down-visits ks v
  both-visits (q ∷ ss) ks v =
      let e : suc (length ss) - 1 ≡ length ss = omega arith in
      both-visits ss ks (walk_from d g (row - 1) v q) ∙ ap (λ (k : ℕ). visits g d row k (ss ++ ks) (walk_from d g (row - 1) v q)) (sym e)
      ∙ ap (λ (b : Bool). visits g d row (suc (length ss) - 1) (ss ++ ks) (walk_from d g (row_by b row) v q)) (sym (lt-ltb 0 (suc (length ss)) (omega arith)))

  -- entering a node is looking at all that it leads to
  pub enter-visits : (p : ℕ) (v w : Rows) →
      enter true (λ u q. walk_from d g (row - 1) u q) (λ u q. walk_from d g (row + 1) u q) v w (incidents_at g p)
      ≡ visits g d row (length (incidents_at g p).sources) (incidents g p) w
  enter-visits p v w = both-visits (incidents_at g p).sources (incidents_at g p).sinks w

-- ---- the code's rows
-- no row anywhere
pub none-everywhere : {A : Type 0} (f : A → maybe.Option ℕ) (a : A) → f a ≡ none → (n : ℕ) → map f (replicate n a) ≡ replicate n none
none-everywhere f a e zero = refl
none-everywhere f a e (suc n) = cc (e, none-everywhere f a e n)

-- whether there is a row
pub nothing-held : (o : Option ℕ) → nothing (held o) ≡ not (is_some o)
nothing-held None = refl
nothing-held (Some r) = refl

pub nothing-raised : (n : ℕ) (o : Option ℤ) → nothing (raised_row n o) ≡ not (is_some o)
nothing-raised n None = refl
nothing-raised n (Some z) = refl

pub rows-fresh : (xs : List (Option ℕ)) (q : ℕ) → q < length xs → fresh (rows_of xs) q ≡ not (is_some (get_or xs q None))
rows-fresh xs q h = ap nothing (get_or-map held xs q None (some 0) h) ∙ nothing-held (get_or xs q None)

pub reached-fresh : (n : ℕ) (zs : List (Option ℤ)) (q : ℕ) → q < length zs → fresh (reached_in n zs) q ≡ not (is_some (get_or zs q None))
reached-fresh n zs q h = ap nothing (get_or-map (raised_row n) zs q None (some 0) h) ∙ nothing-raised n (get_or zs q None)
