-- The code's table before the rounds: after k codes it has the sums of the first k additions.
-- Assumes nothing.
use Prim.Native.Nat.{ℕ, zero, suc, ◌+◌, ◌*◌, ◌≤◌, ◌<◌}
use native.Mathlib.Omega.{arith}
use native.Mathlib.Numerals.{add-one}
use native.Mathlib.Nat.{not-suc-le-zero, le_of_suc-le-suc}
use mathlib.Core.Logic.{◌⊎◌, inl, inr}
use mathlib.Core.Path.{◌≡◌, refl, ap, sym, ◌∙◌}
use mathlib.Core.Bool.{Bool, true, false, cond, ◌&&◌}
use mathlib.Core.List.{List, [], ◌∷◌, ◌++◌}
use lib.Dec.{eqb, ltb}
use lib.ListN.{length, get_or, set, take, length-map, length-set, get_or-map}
use lib.Seq.{get_or-set_same, get_or-set_other, take-suc, take-length}
use borrow.Author.Tests.{eq-eqb, ne_eqb, eqb-true, ltb-true, ltb-false}
use Rattle.laws.proofs.Tests.{same?}
use Rattle.graph.specs.Shape.{Shape}
use Rattle.order.specs.declared.codes.Pair.{Pair}
use Rattle.order.specs.Against.{Against, against, all}
use Rattle.order.specs.Weights.{Table, count, counted, first}
use Rattle.order.specs.code.Sums.{pair_at, at, sums_of, raised, count_of, tallied, code_of, no_pair, Coded, Codes, Hold}
use Rattle.order.proofs.Nodes.{Both, both-all}
use Rattle.order.proofs.Triangle.{pair_same, pair-below}
use Rattle.order.proofs.Tables.{and_left, and_right, value_of}
use Rattle.order.proofs.Rounds.{value-count}
use Rattle.order.proofs.Hold.{packed, packed-reads, packs}

pub tallied-next : (cs : List Pair) (l : List ℕ) (k : ℕ) → tallied cs l (k + 1) ≡ count_of (tallied cs l k) (get_or cs k no_pair).first (get_or cs k no_pair).second
unfolding tallied
tallied-next cs l k = ap (tallied cs l) (add-one k)

-- ---- each code adds at most 65,536 to a number of the table
set-most : (l : List ℕ) (i v n j : ℕ) → v ≤ n → get_or l j 0 ≤ n → get_or (set l i v) j 0 ≤ n
set-most [] i v n j p h = h
set-most (x ∷ xs) zero v n zero p h = p
set-most (x ∷ xs) zero v n (suc j) p h = h
set-most (x ∷ xs) (suc i) v n zero p h = h
set-most (x ∷ xs) (suc i) v n (suc j) p h = set-most xs i v n j p h

count_most : (l : List ℕ) (p q n j : ℕ) → ((i : ℕ) → get_or l i 0 ≤ n) → get_or (count_of l p q) j 0 ≤ n + 65536
count_most l p q n j h = go (ltb p q) (ltb q p)
  where
    go : (s r : Bool) → get_or (cond s (raised l p q 1) (cond r (raised l q p 65536) l)) j 0 ≤ n + 65536
    go true r = set-most l (pair_at p q) (at l p q + 1) (n + 65536) j (omega (arith, h (pair_at p q))) (omega (arith, h j))
    go false true = set-most l (pair_at q p) (at l q p + 65536) (n + 65536) j (omega (arith, h (pair_at q p))) (omega (arith, h j))
    go false false = omega (arith, h j)

pub tallied-most : (cs : List Pair) (l : List ℕ) → ((i : ℕ) → get_or l i 0 ≡ 0) → (k j : ℕ) → get_or (tallied cs l k) j 0 ≤ 65536 * k
unfolding tallied
tallied-most cs l z zero j = omega (arith, z j)
tallied-most cs l z (suc k) j =
    omega (arith, count_most (tallied cs l k) (get_or cs k no_pair).first (get_or cs k no_pair).second (65536 * k) j (tallied-most cs l z k))

-- ---- one code
abbrev up : ℕ → ℕ → ℕ → ℕ → Bool
up p q a b = eqb p a && eqb q b

module _ (l : List ℕ) (long : length l ≡ 1128) (p q a b v : ℕ) (h : q < 48) (i : a < b) (j : b < 48) where
  raised_at : p < q → at (raised l p q v) a b ≡ at l a b + cond (up p q a b) v 0
  raised_at k = go (same? p a) (same? q b)
    where
      other : ((a ≡ p) × (b ≡ q) → ⊥) → up p q a b ≡ false → at (raised l p q v) a b ≡ at l a b + cond (up p q a b) v 0
      other o e = get_or-set_other l (pair_at p q) (pair_at a b) (at l p q + v) 0 (λ z. o (pair_same a b p q i j k h z)) ∙ rw e (omega arith)

      go : (p ≡ a) ⊎ (p ≡ a → ⊥) → (q ≡ b) ⊎ (q ≡ b → ⊥) → at (raised l p q v) a b ≡ at l a b + cond (up p q a b) v 0
      go (inl e) (inl f) = rw (e, f, eq-eqb a a refl, eq-eqb b b refl) (get_or-set_same l (pair_at a b) (at l a b + v) 0 (omega (arith, pair-below a b i j)))
      go (inr e) f = other (λ z. e (sym z.0)) (rw (ne_eqb p a e))
      go (inl e) (inr f) = other (λ z. f (sym z.1)) (rw (eq-eqb p a e, ne_eqb q b f))

  -- where the first is not below the second
  none_of : q ≤ p → up p q a b ≡ false
  none_of k = go (up p q a b) refl
    where
      go : (s : Bool) → up p q a b ≡ s → s ≡ false
      go true e = absurd (omega (arith, eqb-true p a (and_left (eqb p a) (eqb q b) e), eqb-true q b (and_right (eqb p a) (eqb q b) e)))
      go false e = refl

and_swap : (a b : Bool) → (a && b) ≡ (b && a)
and_swap true true = refl
and_swap true false = refl
and_swap false true = refl
and_swap false false = refl

count_at : (l : List ℕ) → length l ≡ 1128 → (p q a b : ℕ) → p < 48 → q < 48 → a < b → b < 48 → at (count_of l p q) a b ≡ at l a b + cond (up p q a b) 1 0 + cond (up p q b a) 65536 0
count_at l long p q a b g h i j = go (ltb p q) refl (ltb q p) refl
  where
    turned : (up p q b a) ≡ up q p a b
    turned = and_swap (eqb p b) (eqb q a)

    go : (s : Bool) → ltb p q ≡ s → (r : Bool) → ltb q p ≡ r → at (cond s (raised l p q 1) (cond r (raised l q p 65536) l)) a b ≡ at l a b + cond (up p q a b) 1 0 + cond (up p q b a) 65536 0
    go true e r f =
        rw (turned, none_of l long q p a b 0 g i j (omega (arith, ltb-true p q e))) (raised_at l long p q a b 1 h i j (ltb-true p q e) ∙ omega arith)
    go false e true f =
        rw (turned, none_of l long p q a b 0 h i j (ltb-false p q e)) (raised_at l long q p a b 65536 g i j (ltb-true q p f) ∙ omega arith)
    go false e false f =
        rw (turned, none_of l long p q a b 0 h i j (ltb-false p q e), none_of l long q p a b 0 g i j (ltb-false q p f)) (omega arith)

count_long : (l : List ℕ) (p q : ℕ) → length (count_of l p q) ≡ length l
count_long l p q = go (ltb p q) (ltb q p)
  where
    go : (s r : Bool) → length (cond s (raised l p q 1) (cond r (raised l q p 65536) l)) ≡ length l
    go true r = length-set l (pair_at p q) (at l p q + 1)
    go false true = length-set l (pair_at q p) (at l q p + 65536)
    go false false = refl

pub tallied-long : (xs : List Pair) (l : List ℕ) (k : ℕ) → length (tallied xs l k) ≡ length l
unfolding tallied
tallied-long xs l zero = refl
tallied-long xs l (suc k) = count_long (tallied xs l k) (get_or xs k no_pair).first (get_or xs k no_pair).second ∙ tallied-long xs l k

-- ---- the codes of a graph
counted-end : (cs : List Against) (c : Against) (t : Table) → counted t (cs ++ (c ∷ [])) ≡ count (counted t cs) c
counted-end [] c t = refl
counted-end (d ∷ ds) c t = counted-end ds c (count t d)

abbrev pub none : Against
none = against 0 0

both_at : (n : ℕ) (cs : List Against) (k : ℕ) → k < length cs → Both n cs → ((get_or cs k none).first < n) × ((get_or cs k none).second < n)
both_at n [] k h b = absurd (not-suc-le-zero h)
both_at n (c ∷ cs) zero h b = (b.0, b.1)
both_at n (c ∷ cs) (suc k) h b = both_at n cs k (le_of_suc-le-suc h) b.2

module _ (g : Shape) (xs : List Pair) (d : Codes g xs) where
  pub codes-size : length (all g) ≡ length xs
  codes-size = sym (ap (λ (v : List Pair). length v) d.same ∙ length-map (all g) code_of)

  pub nodes-at : (k : ℕ) → k < length xs → ((get_or (all g) k none).first < length g) × ((get_or (all g) k none).second < length g)
  nodes-at k h = both_at (length g) (all g) k (omega (arith, codes-size)) (both-all g d.aimed)

  pub code_at : (k : ℕ) → get_or xs k no_pair ≡ code_of (get_or (all g) k none)
  code_at k = ap (λ (v : List Pair). get_or v k no_pair) d.same ∙ get_or-map code_of (all g) k none

  pub coded : Coded 48 xs
  coded =
      record {
        few = omega arith;
        first = λ k h. let b = nodes-at k h in rw (code_at k) (omega (arith, b.0, d.few));
        second = λ k h. let b = nodes-at k h in rw (code_at k) (omega (arith, b.1, d.few));
      }

  module _ (l : List ℕ) (long : length l ≡ 1128) (zeros : (i : ℕ) → get_or l i 0 ≡ 0) (a b : ℕ) (i : a < b) (j : b < 48) where
    tallied-at : (k : ℕ) → k ≤ length xs → at (tallied xs l k) a b ≡ value_of packed a b (counted [] (take k (all g)))
    unfolding tallied
    tallied-at zero h = zeros (pair_at a b)
    tallied-at (suc k) h =
        let e = get_or (all g) k none in
        let v = nodes-at k h in
        count_at (tallied xs l k) (tallied-long xs l k ∙ long) (get_or xs k no_pair).first (get_or xs k no_pair).second a b (coded.first k h) (coded.second k h) i j
        ∙ rw (code_at k, tallied-at k (omega arith))
        (sym (ap (λ (cs : List Against). value_of packed a b (counted [] cs)) (take-suc (all g) k none (omega (arith, codes-size)))
        ∙ ap (value_of packed a b) (counted-end (take k (all g)) e [])
        ∙ value-count packed sums_of packed-reads a b (counted [] (take k (all g))) e i))

  take_all : take (length xs) (all g) ≡ all g
  take_all = ap (λ (k : ℕ). take k (all g)) (sym codes-size) ∙ take-length (all g)

  pub hold_first : (l : List ℕ) → length l ≡ 1128 → ((i : ℕ) → get_or l i 0 ≡ 0) → Hold (length g) (first g) (tallied xs l (length xs))
  unfolding first
  hold_first l u y a b i j =
      tallied-at l u y a b i (omega (arith, d.few)) (length xs) (omega arith) ∙ ap (λ (cs : List Against). value_of packed a b (counted [] cs)) take_all ∙ packs a b (first g)
