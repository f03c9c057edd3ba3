-- What the loops of a fold need: each definition at one row or one pair more.
-- Assumes nothing.
use Prim.Native.Nat.{ℕ, zero, suc, ◌+◌, ◌*◌, ◌≤◌, ◌<◌}
use native.Mathlib.Omega.{arith}
use native.Mathlib.Numerals.{add-one}
use mathlib.Core.Path.{◌≡◌, refl, ap, sym, ◌∙◌}
use mathlib.Core.List.{List, [], ◌∷◌, ◌++◌, map, append_assoc}
use lib.ListN.{length, set, take, replicate, length-set}
use lib.Seq.{get_or-take, take-suc-set}
use Rattle.grid.specs.Columns.{at, extra, new_columns, pairs_from, table, fold_from}
use Rattle.grid.specs.code.Arrays.{table_to, next_new}
use Rattle.grid.proofs.ListLaws.{at-largest}

-- one pair more
module _ (more : ℕ → ℕ) where
  pub new-more : (k x new : ℕ) →
      new_columns more (suc k) x new ≡ new_columns more k x new ++ (next_new more k x new ∷ (next_new more k x new + more (x + 2 * k)) ∷ [])
  new-more zero x new = let z : x + 2 * 0 ≡ x = omega arith in rw z
  new-more (suc k) x new =
      let z : x + 2 + 2 * k ≡ x + 2 * suc k = omega arith in
      ap (λ (l : List ℕ). new ∷ (new + more x) ∷ l)
      (new-more k (x + 2) (suc (new + more x))
      ∙ ap (λ (y : ℕ). new_columns more k (x + 2) (suc (new + more x)) ++ (next_new more k (x + 2) (suc (new + more x)) ∷ (next_new more k (x + 2) (suc (new + more x)) + more y) ∷ [])) z)

  pub next_more : (k x new : ℕ) → next_new more (suc k) x new ≡ suc (next_new more k x new + more (x + 2 * k))
  next_more zero x new = let z : x + 2 * 0 ≡ x = omega arith in rw z
  next_more (suc k) x new =
      let z : x + 2 + 2 * k ≡ x + 2 * suc k = omega arith in
      next_more k (x + 2) (suc (new + more x)) ∙ ap (λ (y : ℕ). suc (next_new more k (x + 2) (suc (new + more x)) + more y)) z

-- two stores behind the first m
pub take-two : {A : Type 0} (l : List A) (m : ℕ) (a b : A) → m + 1 < length l → take (m + 2) (set (set l m a) (m + 1) b) ≡ take m l ++ (a ∷ b ∷ [])
take-two {A = A} l m a b h =
    let e : m + 2 ≡ suc (m + 1) = omega arith in
    ap (λ (i : ℕ). take i (set (set l m a) (m + 1) b)) e
    ∙ take-suc-set (set l m a) (m + 1) b (omega (arith, length-set l m a))
    ∙ ap (λ (z : List A). z ++ (b ∷ [])) (ap (λ (i : ℕ). take i (set l m a)) (add-one m) ∙ take-suc-set l m a (omega arith))
    ∙ append_assoc (take m l) (a ∷ []) (b ∷ [])

-- the table of one pair more, after its two stores
pub table_more : (more : ℕ → ℕ) (start p : ℕ) (l : List ℕ) (a b : ℕ) → start + 2 * p + 1 < length l → take (start + 2 * p) l ≡ table_to start p more →
    a ≡ next_new more p start start → b ≡ a + more (start + 2 * p) → take (start + 2 * (p + 1)) (set (set l (start + 2 * p) a) (start + 2 * p + 1) b) ≡ table_to start (p + 1) more
table_more more start p l a b h e f g =
    let m : ℕ = start + 2 * p in
    let z : start + 2 * (p + 1) ≡ m + 2 = omega arith in
    let i : b ≡ next_new more p start start + more (start + 2 * p) = g ∙ ap (λ (y : ℕ). y + more (start + 2 * p)) f in
    ap (λ (y : ℕ). take y (set (set l m a) (m + 1) b)) z
    ∙ take-two l m a b h
    ∙ cc (e, f, i)
    ∙ append_assoc (replicate start 0) (new_columns more p start start) (next_new more p start start ∷ (next_new more p start start + more (start + 2 * p)) ∷ [])
    ∙ ap (λ (y : List ℕ). replicate start 0 ++ y) (sym (new-more more p start start))
    ∙ ap (λ (y : ℕ). table_to start y more) (sym (add-one p))

pub next-next : (more : ℕ → ℕ) (start p a m : ℕ) → a ≡ next_new more p start start → m ≡ more (start + 2 * p) → a + (m + 1) ≡ next_new more (p + 1) start start
next-next more start p a m e f =
    let z : next_new more (p + 1) start start ≡ next_new more (suc p) start start = ap (λ (y : ℕ). next_new more y start start) (add-one p) in
    omega (arith, next_more more p start start, z)

-- two tables that agree where the columns are
pub renamed-same : (f g : ℕ → ℕ) (cols : List ℕ) → ((k : ℕ) → k < length cols → f (at cols k) ≡ g (at cols k)) → map f cols ≡ map g cols
renamed-same f g [] h = refl
renamed-same f g (c ∷ cols) h = cc (h 0 (omega arith), renamed-same f g cols (λ k l. h (suc k) (omega arith)))

-- the columns by an array that begins with the whole table
pub fold_is : (rows cols : List ℕ) (start pairs : ℕ) (l : List ℕ) → start ≤ 1 → pairs ≡ pairs_from start cols →
    take (start + 2 * pairs) l ≡ table_to start pairs (extra rows cols) → map (at l) cols ≡ fold_from start rows cols
unfolding fold_from
fold_is rows cols start pairs l h e f =
    renamed-same (at l) (at (table start rows cols)) cols
    (λ k g.
    sym (get_or-take (start + 2 * pairs) l (at cols k) 0 (omega (arith, at-largest cols k g)))
    ∙ ap (λ (t : List ℕ). at t (at cols k)) (f ∙ ap (λ (q : ℕ). table_to start q (extra rows cols)) e))
