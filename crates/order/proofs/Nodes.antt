-- The first columns of a graph whose sources and sinks lead to nodes are 0, 2, 4, .. in some order, one for each node.
-- Assumes nothing.
use Prim.Native.Nat.{ℕ, zero, suc, ◌+◌, ◌*◌, ◌/◌, ◌≤◌, ◌<◌}
use native.Mathlib.Omega.{arith}
use native.Mathlib.Nat.{eq-or-lt_of_le}
use mathlib.Core.Logic.{◌⊎◌, inl, inr}
use mathlib.Core.Path.{◌≡◌, refl, ap, sym, ◌∙◌}
use mathlib.Core.Bool.{Bool, true, false, cond}
use mathlib.Core.List.{List, [], ◌∷◌, ◌++◌, map}
use lib.Dec.{eqb, leb, ltb}
use lib.ListN.{length, get_or, length-set, length-append}
use borrow.Author.Tests.{eq-eqb, ne_eqb, eqb-false, ltb-true, ltb-false}
use Rattle.graph.specs.Shape.{Incidents, Shape}
use Rattle.laws.specs.Lists.{has, place_of}
use Rattle.laws.proofs.Lists.{get_d_tabulate, length-tabulate}
use Rattle.order.specs.Against.{Against, neighbours, neighbours_from, reversed_if, with_sources, with_sinks, of_node, of_nodes, all}
use Rattle.order.specs.Weights.{Table, before_of, after_of, weights}
use Rattle.order.specs.Chains.{Triple, triple, turned, triple_of, precedes, placed, rising, triples, Chains, chain_of, join, link, linked, single, chains, in_order, order, columns}
use Rattle.order.specs.Claims.{Under, Aimed, EachOnce}
use Rattle.order.proofs.Times.{times, times-append, times_none, times-at, Place, place_at, place-once}
use Rattle.order.proofs.Flat.{flat, flat-join, out_all}

-- ---- the nodes that are gone through are below n
abbrev pub Both : ℕ → List Against → Type 0
Both n [] = Unit {0}
Both n (c ∷ cs) = (c.first < n) × (c.second < n) × Both n cs

abbrev pub Firsts : ℕ → List Triple → Type 0
Firsts n [] = Unit {0}
Firsts n (t ∷ ts) = (t.first < n) × (t.second < n) × Firsts n ts

both-append : (n : ℕ) (xs ys : List Against) → Both n xs → Both n ys → Both n (xs ++ ys)
both-append n [] ys a b = b
both-append n (x ∷ xs) ys a b = (a.0, a.1, both-append n xs ys a.2 b)

both-from : (n q : ℕ) (qs : List ℕ) → q < n → Under n qs → Both n (neighbours_from q qs)
both-from n q [] h u = tt
both-from n q (r ∷ rs) h u = (h, u.0, both-from n r rs u.0 u.1)

both-neighbours : (n : ℕ) (qs : List ℕ) → Under n qs → Both n (neighbours qs)
both-neighbours n [] u = tt
both-neighbours n (q ∷ qs) u = both-from n q qs u.0 u.1

both_reversed : (n p q : ℕ) (b : Bool) (cs : List Against) → p < n → q < n → Both n cs → Both n (reversed_if b p q ∷ cs)
both_reversed n p q true cs h k r = (k, h, r)
both_reversed n p q false cs h k r = (h, k, r)

both-sources : (n p len i : ℕ) (qs : List ℕ) → p < n → Under n qs → Both n (with_sources p len i qs)
both-sources n p len i [] h u = tt
both-sources n p len i (q ∷ qs) h u = both_reversed n p q (ltb (len / 2) i) (with_sources p len (suc i) qs) h u.0 (both-sources n p len (suc i) qs h u.1)

both-sinks : (n p len i : ℕ) (qs : List ℕ) → p < n → Under n qs → Both n (with_sinks p len i qs)
both-sinks n p len i [] h u = tt
both-sinks n p len i (q ∷ qs) h u = both_reversed n p q (leb (len / 2) i) (with_sinks p len (suc i) qs) h u.0 (both-sinks n p len (suc i) qs h u.1)

both-node : (n p : ℕ) (e : Incidents) → p < n → Under n e.sources → Under n e.sinks → Both n (of_node p e)
both-node n p e h u v =
    let a = neighbours e.sources in
    let b = with_sources p (length e.sources) 0 e.sources in
    let c = neighbours e.sinks in
    let d = with_sinks p (length e.sinks) 0 e.sinks in
    both-append n ((a ++ b) ++ c) d
    (both-append n (a ++ b) c
    (both-append n a b (both-neighbours n e.sources u) (both-sources n p (length e.sources) 0 e.sources h u))
    (both-neighbours n e.sinks v))
    (both-sinks n p (length e.sinks) 0 e.sinks h v)

both-nodes : (n p : ℕ) (es : List Incidents) → p + length es ≤ n → Aimed n es → Both n (of_nodes p es)
both-nodes n p [] l a = tt
both-nodes n p (e ∷ es) l a =
    both-append n (of_node p e) (of_nodes (suc p) es) (both-node n p e (omega arith) a.0 a.1) (both-nodes n (suc p) es (omega arith) a.2)

pub both-all : (g : Shape) → Aimed (length g) g → Both (length g) (all g)
unfolding all
both-all g a = both-nodes (length g) 0 g (omega arith) a

firsts-turned : (n p q x y : ℕ) (b : Bool) (ts : List Triple) → p < n → q < n → Firsts n ts → Firsts n (cond b (triple x q p) (triple y p q) ∷ ts)
firsts-turned n p q x y true ts h k r = (k, h, r)
firsts-turned n p q x y false ts h k r = (h, k, r)

firsts-triple : (n : ℕ) (t : Table) (c : Against) (b : Bool) (ts : List Triple) → c.first < n → c.second < n → Firsts n ts →
    Firsts n (turned (before_of (cond b c.first c.second) (cond b c.second c.first) t) (after_of (cond b c.first c.second) (cond b c.second c.first) t) (cond b c.first c.second) (cond b c.second c.first) ∷ ts)
firsts-triple n t c true ts h k r =
    let x = before_of c.first c.second t in
    let y = after_of c.first c.second t in
    firsts-turned n c.first c.second x y (ltb x y) ts h k r
firsts-triple n t c false ts h k r =
    let x = before_of c.second c.first t in
    let y = after_of c.second c.first t in
    firsts-turned n c.second c.first x y (ltb x y) ts k h r

pub firsts-map : (n : ℕ) (t : Table) (cs : List Against) → Both n cs → Firsts n (map (triple_of t) cs)
firsts-map n t [] b = tt
firsts-map n t (c ∷ cs) b = firsts-triple n t c (ltb c.first c.second) (map (triple_of t) cs) b.0 b.1 (firsts-map n t cs b.2)

firsts-pick : (n : ℕ) (b : Bool) (xs ys : List Triple) → Firsts n xs → Firsts n ys → Firsts n (cond b xs ys)
firsts-pick n true xs ys p q = p
firsts-pick n false xs ys p q = q

pub firsts-placed : (n : ℕ) (s : Triple) (ts : List Triple) → s.first < n → s.second < n → Firsts n ts → Firsts n (placed s ts)
firsts-placed n s [] h k r = (h, k, tt)
firsts-placed n s (t ∷ ts) h k r = firsts-pick n (precedes s t) (s ∷ t ∷ ts) (t ∷ placed s ts) (h, k, r) (r.0, r.1, firsts-placed n s ts h k r.2)

pub firsts-rising : (n : ℕ) (ts done : List Triple) → Firsts n done → Firsts n ts → Firsts n (rising done ts)
firsts-rising n [] done d r = d
firsts-rising n (t ∷ ts) done d r = firsts-rising n ts (placed t done) (firsts-placed n t done r.0 r.1 d) r.2

pub firsts-triples : (g : Shape) → Aimed (length g) g → Firsts (length g) (triples g)
unfolding triples
firsts-triples g a = firsts-rising (length g) (map (triple_of (weights g)) (all g)) [] tt (firsts-map (length g) (weights g) (all g) (both-all g a))

-- ---- each node stands in one chain, at one place
in_or_not : (p : ℕ) (c : List ℕ) (cs : Chains) (b : Bool) → has p c ≡ b → (1 ≤ times p (flat cs) → chain_of p cs < length cs) → 1 ≤ times p c + times p (flat cs) →
    cond b 0 (suc (chain_of p cs)) < suc (length cs)
in_or_not p c cs true e f h = omega arith
in_or_not p c cs false e f h = let r = f (omega (arith, times_none p c e)) in omega arith

times_nil : (p : ℕ) → times p [] ≡ 0
unfolding times
times_nil p = refl

pub chain-below : (p : ℕ) (cs : Chains) → 1 ≤ times p (flat cs) → chain_of p cs < length cs
chain-below p [] h = absurd (omega (arith, times_nil p))
chain-below p (c ∷ cs) h = in_or_not p c cs (has p c) refl (chain-below p cs) (rw (times-append p c (flat cs)) at h)

pub length-join : (cs : Chains) (x y : ℕ) → length (join cs x y) ≡ length cs
length-join cs x y = simp length-set

-- n chains in which each of n nodes stands once, and no other
pub record Sound (n : ℕ) (cs : Chains) : Type 0 where
  pub size : length cs ≡ n
  pub nodes : length (flat cs) ≡ n
  pub once : (p : ℕ) → p < n → times p (flat cs) ≡ 1
  pub others : (p : ℕ) → n ≤ p → times p (flat cs) ≡ 0

module _ (n : ℕ) (cs : Chains) (s : Sound n cs) where
  pub sound-join : (x y : ℕ) → x < n → y < n → (x ≡ y → ⊥) → Sound n (join cs x y)
  sound-join x y h k ne =
      let l : x < length cs = omega (arith, s.size) in
      let r : y < length cs = omega (arith, s.size) in
      record {
        size = length-join cs x y ∙ s.size;
        nodes = flat-join length refl length-append cs x y l r ne ∙ s.nodes;
        once = λ p i. flat-join (times p) (times_nil p) (times-append p) cs x y l r ne ∙ s.once p i;
        others = λ p i. flat-join (times p) (times_nil p) (times-append p) cs x y l r ne ∙ s.others p i;
      }

  pub in_chain : (p : ℕ) → p < n → chain_of p cs < n
  in_chain p h = omega (arith, chain-below p cs (omega (arith, s.once p h)), s.size)

sound-pick : (n : ℕ) (cs ds : Chains) (b : Bool) → Sound n cs → (b ≡ false → Sound n ds) → Sound n (cond b cs ds)
sound-pick n cs ds true s f = s
sound-pick n cs ds false s f = f refl

pub sound-link : (n : ℕ) (cs : Chains) (p q : ℕ) → Sound n cs → p < n → q < n → Sound n (link cs p q)
sound-link n cs p q s h k =
    sound-pick n cs (join cs (chain_of p cs) (chain_of q cs)) (eqb (chain_of p cs) (chain_of q cs)) s
    (λ e. sound-join n cs s (chain_of p cs) (chain_of q cs) (in_chain n cs s p h) (in_chain n cs s q k) (eqb-false (chain_of p cs) (chain_of q cs) e))

pub sound-linked : (n : ℕ) (ts : List Triple) (cs : Chains) → Sound n cs → Firsts n ts → Sound n (linked cs ts)
sound-linked n [] cs s f = s
sound-linked n (t ∷ ts) cs s f = sound-linked n ts (link cs t.first t.second) (sound-link n cs t.first t.second s f.0 f.1) f.2

single-size : (p k : ℕ) → length (single p k) ≡ k
single-size p zero = refl
single-size p (suc k) = ap suc (single-size (suc p) k)

single-nodes : (p k : ℕ) → length (flat (single p k)) ≡ k
single-nodes p zero = refl
single-nodes p (suc k) = ap suc (single-nodes (suc p) k)

single-other : (r p k : ℕ) → (r < p) ⊎ (p + k ≤ r) → times r (flat (single p k)) ≡ 0
unfolding times
single-other r p zero h = refl
single-other r p (suc k) (inl h) = rw (ne_eqb p r (omega arith), single-other r (suc p) k (inl (omega arith)))
single-other r p (suc k) (inr h) = rw (ne_eqb p r (omega arith), single-other r (suc p) k (inr (omega arith)))

single-once : (r p k : ℕ) → p ≤ r → r < p + k → times r (flat (single p k)) ≡ 1
unfolding times
single-once r p zero h l = absurd (omega arith)
single-once r p (suc k) h l =
    elim (eq-or-lt_of_le h) [
      | inl e ↦ rw (eq-eqb p r e, single-other r (suc p) k (inl (omega arith)))
      | inr s ↦ rw (ne_eqb p r (omega arith), single-once r (suc p) k s (omega arith))
    ]

pub sound-single : (n : ℕ) → Sound n (single 0 n)
sound-single n =
    record {
      size = single-size 0 n;
      nodes = single-nodes 0 n;
      once = λ p h. single-once p 0 n (omega arith) (omega arith);
      others = λ p h. single-other p 0 n (inr (omega arith));
    }

pub sound-chains : (g : Shape) → Aimed (length g) g → Sound (length g) (chains g)
unfolding chains
sound-chains g a = sound-linked (length g) (triples g) (single 0 (length g)) (sound-single (length g)) (firsts-triples g a)

-- ---- all nodes in order
pub record Listed (n : ℕ) (xs : List ℕ) : Type 0 where
  pub size : length xs ≡ n
  pub once : (p : ℕ) → p < n → times p xs ≡ 1
  pub others : (p : ℕ) → n ≤ p → times p xs ≡ 0

pub listed : (n : ℕ) (cs : Chains) → Sound n cs → Listed n (in_order n cs)
listed n cs s =
    let l : length (flat cs) ≤ n = omega (arith, s.nodes) in
    record {
      size = out_all length refl length-append n cs l ∙ s.nodes;
      once = λ p h. out_all (times p) (times_nil p) (times-append p) n cs l ∙ s.once p h;
      others = λ p h. out_all (times p) (times_nil p) (times-append p) n cs l ∙ s.others p h;
    }

pub listed-order : (g : Shape) → Aimed (length g) g → Listed (length g) (order g)
unfolding order
listed-order g a = listed (length g) (chains g) (sound-chains g a)

module _ (n : ℕ) (xs : List ℕ) (l : Listed n xs) where
  pub listed-place : (p : ℕ) → p < n → Place p xs
  listed-place p h = place_at p xs (omega (arith, l.once p h))

  below_or : (r : ℕ) (b : Bool) → ltb r n ≡ b → 1 ≤ times r xs → r < n
  below_or r true e t = ltb-true r n e
  below_or r false e t = absurd (omega (arith, l.others r (ltb-false r n e)))

  pub listed_below : (i : ℕ) → i < n → get_or xs i 0 < n
  listed_below i h = below_or (get_or xs i 0) (ltb (get_or xs i 0) n) refl (times-at xs i (omega (arith, l.size)))

  pub listed_at : (i : ℕ) → i < n → place_of (get_or xs i 0) xs ≡ i
  listed_at i h = place-once xs i (omega (arith, l.size)) (omega (arith, l.once (get_or xs i 0) (listed_below i h)))

pub column-at : (g : Shape) (p : ℕ) → p < length g → get_or (columns g) p 0 ≡ 2 * place_of p (order g)
unfolding columns
column-at g p h = get_d_tabulate (λ r. 2 * place_of r (order g)) 0 (length g) p 0 h ∙ ap (λ r. 2 * place_of r (order g)) (omega arith)

-- the law of modules 4 and 5
pub each-once : (g : Shape) → Aimed (length g) g → EachOnce (length g) (columns g)
unfolding columns
each-once g a =
    let n = length g in
    let l = listed-order g a in
    record {
      size = length-tabulate (λ r. 2 * place_of r (order g)) 0 n;
      even = λ p h. (place_of p (order g), omega (arith, (listed-place n (order g) l p h).inside, l.size), column-at g p h);
      one = λ p q h k e.
          let same : place_of p (order g) ≡ place_of q (order g) = omega (arith, column-at g p h, column-at g q k, e) in
          sym (listed-place n (order g) l p h).found ∙ ap (λ i. get_or (order g) i 0) same ∙ (listed-place n (order g) l q k).found;
      some = λ i h.
          (get_or (order g) i 0, listed_below n (order g) l i h, column-at g (get_or (order g) i 0) (listed_below n (order g) l i h) ∙ ap (λ k. 2 * k) (listed_at n (order g) l i h));
    }
