-- Laws on what arrays hold: the records that a node owns, a table that is filled.
-- Assumes nothing.
use Prim.Native.Nat.{ℕ, zero, suc, ◌+◌, ◌≤◌, ◌<◌}
use native.Mathlib.Omega.{arith}
use native.Mathlib.Numerals.{add-one}
use native.Mathlib.Nat.{le_of_suc-le-suc, not-suc-le-zero}
use mathlib.Core.Path.{◌≡◌, ap, sym, ◌∙◌}
use mathlib.Core.Bool.{Bool}
use mathlib.Core.List.{List, [], ◌∷◌, ◌++◌}
use lib.Dec.{ltb}
use lib.ListN.{length, get_or, set, drop}
use Rattle.std.proofs.lemmas.List.{at_drop_more, at_drop_all}
use borrow.Author.Tests.{eq-eqb, ne_eqb, lt-ltb}
use Rattle.tables.specs.declared.Table.{Table}
use Rattle.tables.specs.Tables.{pushed, pushed_if}
use Rattle.graph.specs.declared.Item.{Item}
use Rattle.graph.specs.Outcome.{no_item}
use Rattle.graph.specs.code.Tables.{owned, edge_of}
use Rattle.laws.specs.Lists.{All, one, tabulate, padded}
use Rattle.laws.proofs.Lists.{padded-set, length-tabulate, get_d_tabulate, tabulate-snoc, get_d_padded}

-- ---- the ends that p owns, from record k on
module _ (p : ℕ) (xs : List Item) (k : ℕ) where
  pub ends-here : k < length xs → (get_or xs k no_item).owner ≡ p → owned p (drop k xs) ≡ edge_of (get_or xs k no_item) ∷ owned p (drop (k + 1) xs)
  ends-here h e = at_drop_more (owned p) xs k no_item h ∙ rw (eq-eqb (get_or xs k no_item).owner p e)

  pub ends-past : k < length xs → ((get_or xs k no_item).owner ≡ p → ⊥) → owned p (drop k xs) ≡ owned p (drop (k + 1) xs)
  ends-past h e = at_drop_more (owned p) xs k no_item h ∙ rw (ne_eqb (get_or xs k no_item).owner p e)

  pub ends-end : length xs ≤ k → owned p (drop k xs) ≡ []
  ends-end h = at_drop_all (owned p) xs k h

-- an item is put into a table that has room for it
pub put : {A : Type 0} {m : ℕ} (t u : Table A m) (room : Bool) (x : A) → t.count < m → room ≡ ltb t.count m → u ≡ pushed_if room t x → u ≡ pushed t x
put {m = m} t u room x h r e = e ∙ ap (λ (b : Bool). pushed_if b t x) (r ∙ lt-ltb t.count m h)

-- ---- a table that is filled from its start
module _ {A : Type 0} (f : ℕ → A) where
  pub filled_next : (m : ℕ) (z : A) (k : ℕ) → set (padded m z (tabulate f 0 k)) k (f k) ≡ padded m z (tabulate f 0 (k + 1))
  filled_next m z k =
      let e : 0 + k ≡ k = omega arith in
      ap (λ (i : ℕ). set (padded m z (tabulate f 0 k)) i (f k)) (sym (length-tabulate f 0 k))
      ∙ padded-set m z (tabulate f 0 k) (f k)
      ∙ ap (padded m z) (ap (λ (i : ℕ). tabulate f 0 k ++ one (f i)) (sym e) ∙ sym (tabulate-snoc f 0 k) ∙ ap (tabulate f 0) (sym (add-one k)))

pub filled_at : {A : Type 0} (f : ℕ → A) (m : ℕ) (z : A) (k i : ℕ) → k ≤ m → i < k → get_or (padded m z (tabulate f 0 k)) i z ≡ f i
filled_at f m z k i l h =
    get_d_padded m z (tabulate f 0 k) i z (omega arith) ∙ get_d_tabulate f 0 k i z h ∙ ap f (omega arith)

-- ---- what holds of each
pub all-at : {A : Type 0} (P : A → Type 0) (z : A) (xs : List A) (i : ℕ) → i < length xs → All P xs → P (get_or xs i z)
all-at P z [] i h a = absurd (not-suc-le-zero h)
all-at P z (x ∷ xs) zero h a = a.0
all-at P z (x ∷ xs) (suc i) h a = all-at P z xs i (le_of_suc-le-suc h) a.1

pub all-by : {A : Type 0} (P : A → Type 0) (z : A) (xs : List A) → ((i : ℕ) → i < length xs → P (get_or xs i z)) → All P xs
all-by P z [] h = tt
all-by P z (x ∷ xs) h = (h 0 (omega arith), all-by P z xs (λ i l. h (suc i) (omega arith)))

pub all-tabulate : {A : Type 0} (P : A → Type 0) (f : ℕ → A) (q k : ℕ) → ((i : ℕ) → q ≤ i → i < q + k → P (f i)) → All P (tabulate f q k)
all-tabulate P f q zero h = tt
all-tabulate P f q (suc k) h = (h q (omega arith) (omega arith), all-tabulate P f (suc q) k (λ i l u. h i (omega arith) (omega arith)))
