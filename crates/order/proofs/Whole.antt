-- The code's table, keys and chains of a graph are those of the definitions, up to the first columns.
-- Assumes nothing.
use Prim.Native.Nat.{ℕ, zero, suc, ◌+◌, ◌/◌, ◌%◌, ◌≤◌, ◌<◌}
use native.Mathlib.Omega.{arith}
use mathlib.Core.Logic.{inl, inr}
use mathlib.Core.Path.{◌≡◌, refl, ap, sym, ◌∙◌, subst}
use mathlib.Core.Bool.{false}
use mathlib.Core.List.{List, [], ◌∷◌, ◌++◌, map}
use lib.Dec.{ltb}
use lib.ListN.{length, get_or, take, length-map}
use lib.Seq.{take-suc, take-length}
use borrow.Author.Tests.{eq-eqb, ne_eqb, lt-ltb, le-ltb}
use Rattle.laws.proofs.Tests.{less?, same?, pick-through}
use Rattle.laws.specs.Lists.{tabulate}
use Rattle.graph.specs.Shape.{Shape}
use Rattle.order.specs.declared.codes.Pair.{Pair}
use Rattle.order.specs.declared.keys.Key.{Key}
use Rattle.order.specs.Against.{Against, all}
use Rattle.order.specs.Weights.{Table, stands, before_of, after_of, round, first, weights}
use Rattle.order.specs.Chains.{Triple, triple, turned, triple_of, placed, rising, triples, chains, order, columns}
use Rattle.order.specs.Ordered.{columns_held}
use Rattle.order.specs.declared.chains.Held.{Held}
use Rattle.order.specs.code.Held.{laid_first, laid_of, Ready, Fit, colour_at, place_at, column_of, columns_of}
use Rattle.order.specs.code.Stand.{Stand}
use Rattle.order.specs.code.Keys.{key_of, held_after, Keyed}
use Rattle.order.specs.code.Sums.{at, sums_of, no_pair, turn_key, key_at, keys_after, Codes, Charted, Hold, Weighed}
use Rattle.order.proofs.Nodes.{Sound, Firsts, firsts-triples, sound-chains}
use Rattle.order.proofs.Stand.{fit}
use Rattle.order.proofs.Lay.{left, gone, going, ready, here-inside, columns-are}
use Rattle.order.proofs.Sorted.{placed_keys, stand-after, keyed}
use Rattle.order.proofs.Tables.{value-missing, before-value, after-value}
use Rattle.order.proofs.Rounds.{Fine, fine-first, fine-round, not_rising}
use Rattle.order.proofs.Start.{none, codes-size, nodes-at, code_at}
use Rattle.order.proofs.Most.{before-most}

-- ---- the key of a pair
module _ (n : ℕ) (t : Table) (f : Fine n t) (s : List ℕ) (h : Hold n t s) (small : (p q : ℕ) → p < q → q < n → before_of p q t < 65536) where
  pair_key : (p q : ℕ) → p < q → q < n → turn_key (at s p q) p q ≡ key_of (turned (before_of p q t) (after_of p q t) p q)
  pair_key p q l k =
      let x : sums_of (before_of p q t) (after_of p q t) % 65536 ≡ before_of p q t = omega (arith, small p q l k) in
      let y : sums_of (before_of p q t) (after_of p q t) / 65536 ≡ after_of p q t = omega (arith, small p q l k) in
      rw (h p q l k, x, y) (sym (pick-through key_of (ltb (before_of p q t) (after_of p q t)) (triple (before_of p q t) q p) (triple (after_of p q t) p q)))

  pub key_is : (c : Against) → c.first < n → c.second < n → key_at s c.first c.second ≡ key_of (triple_of t c)
  key_is c i j =
      elim (same? c.first c.second) [
        | inl e ↦
            let m : stands c.second c.second t ≡ false = not_rising n c.second c.second t f.each (omega arith) in
            let x : before_of c.second c.second t ≡ 0 = before-value c.second c.second t ∙ value-missing (λ w. w.before) c.second c.second t m in
            let y : after_of c.second c.second t ≡ 0 = after-value c.second c.second t ∙ value-missing (λ w. w.after) c.second c.second t m in
            rw (e, eq-eqb c.second c.second refl, le-ltb c.second c.second (omega arith), x, y)
        | inr o ↦ elim (less? c.first c.second) [
          | inl l ↦ rw (ne_eqb c.first c.second o, lt-ltb c.first c.second l) (pair_key c.first c.second l j)
          | inr l ↦ rw (ne_eqb c.first c.second o, le-ltb c.first c.second l) (pair_key c.second c.first (strict c.first c.second o l) i)
        ]
      ]
    where
      strict : (p q : ℕ) → (p ≡ q → ⊥) → q ≤ p → q < p
      strict p q o l = omega arith

-- ---- the keys in rising order
rising-end : (ts done : List Triple) (t : Triple) → rising done (ts ++ (t ∷ [])) ≡ placed t (rising done ts)
rising-end [] done t = refl
rising-end (s ∷ ts) done t = rising-end ts (placed s done) t

map-end : (f : Against → Triple) (cs : List Against) (c : Against) → map f (cs ++ (c ∷ [])) ≡ map f cs ++ (f c ∷ [])
map-end f [] c = refl
map-end f (d ∷ ds) c = ap (λ (v : List Triple). f d ∷ v) (map-end f ds c)

-- s is the table after both rounds
module _ (g : Shape) (xs : List Pair) (d : Codes g xs) (s : List ℕ) (h : Hold (length g) (weights g) s) where
  abbrev n : ℕ
  n = length g

  fine₂ : Fine n (weights g)
  unfolding weights
  fine₂ = fine-round n (round (first g)) (fine-round n (first g) (fine-first g d.aimed))

  small₂ : (p q : ℕ) → p < q → q < n → before_of p q (weights g) < 65536
  unfolding weights
  small₂ p q i j = omega (arith, before-most g d.few d.aimed (omega (arith, codes-size g xs d, d.room)) p q i j)

  abbrev up_to : ℕ → List Triple
  up_to k = rising [] (map (triple_of (weights g)) (take k (all g)))

  keys_are : (k : ℕ) → k ≤ length xs → keys_after xs s k ≡ map key_of (up_to k)
  unfolding keys_after
  keys_are zero i = refl
  keys_are (suc k) i =
      let v = nodes-at g xs d k i in
      let key : key_at s (get_or xs k no_pair).first (get_or xs k no_pair).second ≡ key_of (triple_of (weights g) (get_or (all g) k none)) =
      rw (code_at g xs d k) (key_is n (weights g) fine₂ s h small₂ (get_or (all g) k none) v.0 v.1) in
      rw (key, keys_are k (omega arith)) (sym (placed_keys (triple_of (weights g) (get_or (all g) k none)) (up_to k)))
      ∙ ap (map key_of) (sym (ap (λ (cs : List Against). rising [] (map (triple_of (weights g)) cs)) (take-suc (all g) k none (omega (arith, codes-size g xs d))) ∙ ap (rising []) (map-end (triple_of (weights g)) (take k (all g)) (get_or (all g) k none)) ∙ rising-end (map (triple_of (weights g)) (take k (all g))) [] (triple_of (weights g) (get_or (all g) k none))))

  -- ---- the chains, and the first columns
  up_to-all : up_to (length xs) ≡ triples g
  unfolding triples
  up_to-all = ap (λ (cs : List Against). rising [] (map (triple_of (weights g)) cs)) (ap (λ (k : ℕ). take k (all g)) (sym (codes-size g xs d)) ∙ take-length (all g))

  abbrev ks : List Key
  ks = keys_after xs s (length xs)

  keys_triples : ks ≡ map key_of (triples g)
  keys_triples = keys_are (length xs) (omega arith) ∙ ap (map key_of) up_to-all

  keys_size : length (triples g) ≡ length ks
  keys_size = sym (ap (λ (v : List Key). length v) keys_triples ∙ length-map (triples g) key_of)

  firsts : Firsts n (triples g)
  firsts = firsts-triples g d.aimed

  pub keyed-all : Keyed n ks
  keyed-all = keyed n ks (triples g) d.few firsts keys_triples

  abbrev h₁ : Held
  h₁ = held_after n ks (length ks)

  take-triples : take (length ks) (triples g) ≡ triples g
  take-triples = ap (λ (k : ℕ). take k (triples g)) (sym keys_size) ∙ take-length (triples g)

  stands-all : Stand n (chains g) h₁
  unfolding chains
  stands-all = rw take-triples at (stand-after n ks (triples g) d.few firsts keys_triples (length ks) (omega arith))

  sound-all : Sound n (chains g)
  sound-all = sound-chains g d.aimed

  pub fit_all : Fit h₁
  fit_all = fit n (chains g) h₁ stands-all sound-all

  pub ready-all : (i : ℕ) → i < h₁.n → Ready (laid_of (laid_first h₁) i)
  ready-all i l =
      let j : i < n = omega (arith, l, stands-all.count) in
      ready n (chains g) (left i (chains g)) (gone i (chains g)) (laid_of (laid_first h₁) i) (omega arith) (going n (chains g) h₁ stands-all sound-all i (omega arith))

  pub inside-all : (p : ℕ) → p < h₁.n → get_or (laid_of (laid_first h₁) h₁.n).starts (colour_at h₁ p) 0 + place_at h₁ p < h₁.n
  inside-all =
      subst (λ (k : ℕ). (p : ℕ) → p < k → get_or (laid_of (laid_first h₁) k).starts (colour_at h₁ p) 0 + place_at h₁ p < k) (sym stands-all.count)
      (here-inside n (chains g) h₁ stands-all sound-all)

  pub columns-all : columns_of h₁ (laid_of (laid_first h₁) h₁.n).starts ≡ columns_held (columns g)
  unfolding columns order
  columns-all =
      subst (λ (k : ℕ). columns_held (tabulate (column_of h₁ (laid_of (laid_first h₁) k).starts) 0 k) ≡ columns_held (columns g)) (sym stands-all.count)
      (ap columns_held (columns-are n (chains g) h₁ stands-all sound-all))

-- ---- of any graph of n nodes whose codes these are, and a table that has its weights
abbrev pub keys_of : List Pair → List ℕ → List Key
keys_of xs s = keys_after xs s (length xs)

abbrev pub held_of : List Pair → List ℕ → ℕ → Held
held_of xs s n = held_after n (keys_of xs s) (length (keys_of xs s))

abbrev pub starts_of : List Pair → List ℕ → ℕ → List ℕ
starts_of xs s n = (laid_of (laid_first (held_of xs s n)) (held_of xs s n).n).starts

module _ (xs : List Pair) (n : ℕ) (w : Charted xs n) (s : List ℕ) (h : Weighed xs n s) where
  held_at : Hold (length w.graph) (weights w.graph) s
  held_at = h w.graph w.codes w.size

  pub keyed-at : Keyed n (keys_of xs s)
  keyed-at = subst (λ (k : ℕ). Keyed k (keys_of xs s)) w.size (keyed-all w.graph xs w.codes s held_at)

  pub fit_at : Fit (held_of xs s n)
  fit_at = subst (λ (k : ℕ). Fit (held_of xs s k)) w.size (fit_all w.graph xs w.codes s held_at)

  pub ready_at : (i : ℕ) → i < (held_of xs s n).n → Ready (laid_of (laid_first (held_of xs s n)) i)
  ready_at = subst (λ (k : ℕ). (i : ℕ) → i < (held_of xs s k).n → Ready (laid_of (laid_first (held_of xs s k)) i)) w.size (ready-all w.graph xs w.codes s held_at)

  pub inside-at : (p : ℕ) → p < (held_of xs s n).n → get_or (starts_of xs s n) (colour_at (held_of xs s n) p) 0 + place_at (held_of xs s n) p < (held_of xs s n).n
  inside-at =
      subst (λ (k : ℕ). (p : ℕ) → p < (held_of xs s k).n → get_or (starts_of xs s k) (colour_at (held_of xs s k) p) 0 + place_at (held_of xs s k) p < (held_of xs s k).n) w.size (inside-all w.graph xs w.codes s held_at)

pub columns-at : (xs : List Pair) (n : ℕ) (s : List ℕ) → Weighed xs n s → (g : Shape) → Codes g xs → length g ≡ n → columns_of (held_of xs s n) (starts_of xs s n) ≡ columns_held (columns g)
columns-at xs n s h g d e = subst (λ (k : ℕ). columns_of (held_of xs s k) (starts_of xs s k) ≡ columns_held (columns g)) e (columns-all g xs d s (h g d e))
