-- Edge completion leaves sources and sinks that name each other.
-- Assumes nothing.
use Prim.Native.Nat.{ℕ, zero, suc, ◌≤◌, ◌<◌}
use native.Mathlib.Omega.{arith}
use native.Mathlib.Nat.{le_of_suc-le-suc, not-suc-le-zero}
use mathlib.Core.Path.{◌≡◌, refl, ap, sym, ◌∙◌, subst}
use mathlib.Core.Logic.{◌⊎◌, inl, inr}
use mathlib.Core.Bool.{Bool, true, false, cond, ◌&&◌, ◌||◌, false≢true}
use mathlib.Core.Option.{none, some}
use mathlib.Core.List.{List, [], ◌∷◌, ◌++◌, map}
use lib.Dec.{eqb, ltb}
use lib.ListN.{length, get_or, set, length-set, get_or-eq_default}
use lib.Seq.{map-set_same}
use borrow.Author.Tests.{eqb-true, eq-eqb, lt-ltb}
use Rattle.laws.specs.Lists.{All, one}
use Rattle.laws.proofs.Each.{each_holds}
use Rattle.laws.proofs.Tests.{less?, pick, pick-by}
use Rattle.graph.specs.Graph.{Edge, Node, Graph, no_text, no_edge, bare, node_at, is_mark, leads_to, has_marked, with_sources, with_sinks}
use Rattle.graph.specs.Completion.{gain_source, complete_sinks, marked, gain_sink, complete_sources, complete_node, complete}
use Rattle.graph.specs.Laws.{Aimed, SinkAt}
use Rattle.graph.specs.Completed.{Mutual}
use Rattle.graph.proofs.Pairs.{or_mono, or_right}
use Rattle.graph.proofs.Completes.{unmark, sinks-at, sources-at, gain_source_sinks, gain-sink-sources, SourceAt, sinks_hold, sources_hold}
use Rattle.graph.proofs.LineLaws.{complete-length}
use Rattle.graph.proofs.AimLaws.{To, node-aims, complete-aims}
use Rattle.graph.proofs.MarkLaws.{node-set, node-same}

-- ---- an edge of the list has the target
leads-left : (xs ys : List Edge) (p : ℕ) → leads_to xs p ≡ true → leads_to (xs ++ ys) p ≡ true
leads-left [] ys p e = absurd (false≢true e)
leads-left (x ∷ xs) ys p e = or_mono (eqb x.to p) (leads-left xs ys p) e

leads-last : (xs : List Edge) (y : Edge) → leads_to (xs ++ one y) y.to ≡ true
leads-last [] y = rw (eq-eqb y.to y.to refl)
leads-last (x ∷ xs) y = or_right (eqb x.to y.to) (leads-last xs y)

leads-split : (xs : List Edge) (y : Edge) (p : ℕ) → leads_to (xs ++ one y) p ≡ true → (leads_to xs p ≡ true) ⊎ (y.to ≡ p)
leads-split [] y p e = go (eqb y.to p) refl e
  where
    go : (b : Bool) → eqb y.to p ≡ b → (b || false) ≡ true → (false ≡ true) ⊎ (y.to ≡ p)
    go true i e = inr (eqb-true y.to p i)
    go false i e = absurd (false≢true e)
leads-split (x ∷ xs) y p e = go (eqb x.to p) e (leads-split xs y p)
  where
    go : (b : Bool) → (b || leads_to (xs ++ one y) p) ≡ true → (leads_to (xs ++ one y) p ≡ true → (leads_to xs p ≡ true) ⊎ (y.to ≡ p)) → ((b || leads_to xs p) ≡ true) ⊎ (y.to ≡ p)
    go true e f = inl refl
    go false e f = f e

leads-unmark : (es : List Edge) (p : ℕ) → leads_to (map unmark es) p ≡ leads_to es p
leads-unmark [] p = refl
leads-unmark (e ∷ es) p = ap (λ (b : Bool). eqb e.to p || b) (leads-unmark es p)

leads-at : (es : List Edge) (i : ℕ) → i < length es → leads_to es (get_or es i no_edge).to ≡ true
leads-at [] i h = absurd (not-suc-le-zero h)
leads-at (e ∷ es) zero h = rw (eq-eqb e.to e.to refl)
leads-at (e ∷ es) (suc i) h = or_right (eqb e.to (get_or es i no_edge).to) (leads-at es i (le_of_suc-le-suc h))

marked-leads : (es : List Edge) (p i : ℕ) → has_marked es p i ≡ true → leads_to es p ≡ true
marked-leads [] p i e = absurd (false≢true e)
marked-leads (x ∷ es) p i e = go (eqb x.to p) (is_mark x.mark i) e (marked-leads es p i)
  where
    go : (a b : Bool) → ((a && b) || has_marked es p i) ≡ true → (has_marked es p i ≡ true → leads_to es p ≡ true) → (a || leads_to es p) ≡ true
    go true b e f = refl
    go false b e f = f e

-- ---- p has a sink to q; q has a source from p
abbrev Sink : Graph → ℕ → ℕ → Type 0
Sink g p q = leads_to (node_at g p).sinks q ≡ true

abbrev Source : Graph → ℕ → ℕ → Type 0
Source g p q = leads_to (node_at g q).sources p ≡ true

sink-at : (g : Graph) (p i q : ℕ) → SinkAt g p i q → Sink g p q
sink-at g p i q s = subst (λ (x : ℕ). Sink g p x) s.leads (leads-at (node_at g p).sinks i s.inside)

source_at : (g : Graph) (p j : ℕ) (e : Edge) → SourceAt g p j e → Source g e.to p
source_at g p j e s = subst (λ (x : ℕ). Source g x p) (ap (λ (x : Edge). x.to) s.is) (leads-at (node_at g p).sources j s.inside)

-- ---- a source is gained
module _ (g : Graph) (p i q : ℕ) where
  abbrev es₁ : List Edge
  es₁ = (node_at g q).sources

  abbrev new₁ : Edge
  new₁ = record { to = p; mark = some i; text = no_text }

  same-sinks : (x : ℕ) → (node_at (gain_source g p i q) x).sinks ≡ (node_at g x).sinks
  same-sinks x = sinks-at g (gain_source g p i q) (gain_source_sinks g p i q) x

  more-sources : (x y : ℕ) → Source g x y → Source (gain_source g p i q) x y
  more-sources x y h =
      pick (λ (k : Graph). Source k x y) (has_marked es₁ p i) g (with_sources g q (es₁ ++ one new₁)) h
      (node-set (λ (n : Node). leads_to n.sources x ≡ true) g q _ y
      (λ e. leads-left es₁ (one new₁) x (subst (λ (z : ℕ). Source g x z) e h)) h)

  gained_source : q < length g → Source (gain_source g p i q) p q
  gained_source l =
      pick-by (λ (k : Graph). Source k p q) (has_marked es₁ p i) g (with_sources g q (es₁ ++ one new₁)) (λ e. marked-leads es₁ p i e)
      (λ e. rw (node-same g q (record { sources = es₁ ++ one new₁; lines = (node_at g q).lines; sinks = (node_at g q).sinks }) l) (leads-last es₁ new₁))

  module _ (s : SinkAt g p i q) (x y : ℕ) where
    source_sink : (Source g x y → Sink g x y) → Source (gain_source g p i q) x y → Sink (gain_source g p i q) x y
    source_sink f h =
        subst (λ (es : List Edge). leads_to es y ≡ true) (sym (same-sinks x))
        (pick (λ (k : Graph). Source k x y → Sink g x y) (has_marked es₁ p i) g (with_sources g q (es₁ ++ one new₁)) f
        (node-set (λ (n : Node). leads_to n.sources x ≡ true → Sink g x y) g q _ y own f) h)
      where
        own : y ≡ q → leads_to (es₁ ++ one new₁) x ≡ true → Sink g x y
        own e t = go (leads-split es₁ new₁ x t)
          where
            go : (leads_to es₁ x ≡ true) ⊎ (p ≡ x) → Sink g x y
            go (inl a) = f (subst (λ (z : ℕ). Source g x z) (sym e) a)
            go (inr a) = subst (λ (z : ℕ). Sink g z y) a (subst (λ (z : ℕ). Sink g p z) (sym e) (sink-at g p i q s))

    sink_source : (Sink g x y → Source g x y) → Sink (gain_source g p i q) x y → Source (gain_source g p i q) x y
    sink_source f h = more-sources x y (f (subst (λ (es : List Edge). leads_to es y ≡ true) (same-sinks x) h))

-- ---- a sink is gained
module _ (g : Graph) (p j : ℕ) (e : Edge) where
  abbrev q : ℕ
  q = e.to

  abbrev es₂ : List Edge
  es₂ = (node_at g q).sinks

  abbrev new₂ : Edge
  new₂ = record { to = p; mark = none; text = no_text }

  abbrev h₂ : Graph
  h₂ = with_sinks g q (es₂ ++ one new₂)

  abbrev k₂ : Graph
  k₂ = with_sources h₂ p (set (node_at h₂ p).sources j (marked (length es₂) e))

  sinks₂ : (x : ℕ) → (node_at k₂ x).sinks ≡ (node_at h₂ x).sinks
  sinks₂ x = sinks-at h₂ k₂ (map-set_same (λ (n : Node). n.sinks) h₂ p _ bare refl) x

  more-sinks : (x y : ℕ) → Sink g x y → Sink (gain_sink g p j e) x y
  more-sinks x y h =
      pick (λ (k : Graph). Sink k x y) (leads_to es₂ p) g k₂ h
      (rw (sinks₂ x)
      (node-set (λ (n : Node). leads_to n.sinks y ≡ true) g q _ x
      (λ z. leads-left es₂ (one new₂) y (subst (λ (w : ℕ). Sink g w y) z h)) h))

  gained-sink : q < length g → Sink (gain_sink g p j e) q p
  gained-sink l =
      pick-by (λ (k : Graph). Sink k q p) (leads_to es₂ p) g k₂ (λ t. t)
      (λ t. rw (sinks₂ q, node-same g q (record { sources = (node_at g q).sources; lines = (node_at g q).lines; sinks = es₂ ++ one new₂ }) l) (leads-last es₂ new₂))

  module _ (s : SourceAt g p j e) where
    same-sources : (x y : ℕ) → leads_to (node_at (gain_sink g p j e) y).sources x ≡ leads_to (node_at g y).sources x
    same-sources x y =
        sym (leads-unmark (node_at (gain_sink g p j e) y).sources x)
        ∙ ap (λ (l : List Edge). leads_to l x) (sources-at g (gain_sink g p j e) (gain-sink-sources g p j e s.is) y)
        ∙ leads-unmark (node_at g y).sources x

    module _ (x y : ℕ) where
      sink_source₂ : (Sink g x y → Source g x y) → Sink (gain_sink g p j e) x y → Source (gain_sink g p j e) x y
      sink_source₂ f h =
          same-sources x y
          ∙ pick (λ (k : Graph). Sink k x y → Source g x y) (leads_to es₂ p) g k₂ f
          (rw (sinks₂ x) (node-set (λ (n : Node). leads_to n.sinks y ≡ true → Source g x y) g q _ x own f)) h
        where
          own : x ≡ q → leads_to (es₂ ++ one new₂) y ≡ true → Source g x y
          own z t = go (leads-split es₂ new₂ y t)
            where
              go : (leads_to es₂ y ≡ true) ⊎ (p ≡ y) → Source g x y
              go (inl a) = f (subst (λ (w : ℕ). Sink g w y) (sym z) a)
              go (inr a) = subst (λ (w : ℕ). Source g w y) (sym z) (subst (λ (w : ℕ). Source g q w) a (source_at g p j e s))

      source_sink₂ : (Source g x y → Sink g x y) → Source (gain_sink g p j e) x y → Sink (gain_sink g p j e) x y
      source_sink₂ f h = more-sinks x y (f (sym (same-sources x y) ∙ h))

-- ---- the sinks of a node, and its sources
source_long : (g : Graph) (p i q : ℕ) → length (gain_source g p i q) ≡ length g
source_long g p i q = pick (λ (k : Graph). length k ≡ length g) (has_marked (node_at g q).sources p i) g _ refl (length-set g q _)

sink-long : (g : Graph) (p j : ℕ) (e : Edge) → length (gain_sink g p j e) ≡ length g
sink-long g p j e = pick (λ (k : Graph). length k ≡ length g) (leads_to (es₂ g p j e) p) g (k₂ g p j e) refl (length-set (h₂ g p j e) p _ ∙ length-set g e.to _)

-- what one end of the list does: where it leads to no node, nothing
abbrev sourced : Graph → ℕ → ℕ → Edge → Graph
sourced g p i e = cond (ltb e.to (length g)) (gain_source g p i e.to) g

abbrev sunk : Graph → ℕ → ℕ → Edge → Graph
sunk g p j e = cond (ltb e.to (length g)) (gain_sink g p j e) g

sourced-long : (g : Graph) (p i : ℕ) (e : Edge) → length (sourced g p i e) ≡ length g
sourced-long g p i e = pick (λ (k : Graph). length k ≡ length g) (ltb e.to (length g)) (gain_source g p i e.to) g (source_long g p i e.to) refl

sunk-long : (g : Graph) (p j : ℕ) (e : Edge) → length (sunk g p j e) ≡ length g
sunk-long g p j e = pick (λ (k : Graph). length k ≡ length g) (ltb e.to (length g)) (gain_sink g p j e) g (sink-long g p j e) refl

sourced-there : (g : Graph) (p i : ℕ) (e : Edge) → e.to < length g → Source (sourced g p i e) p e.to
sourced-there g p i e l = rw (lt-ltb e.to (length g) l) (gained_source g p i e.to l)

sunk-there : (g : Graph) (p j : ℕ) (e : Edge) → e.to < length g → Sink (sunk g p j e) e.to p
sunk-there g p j e l = rw (lt-ltb e.to (length g) l) (gained-sink g p j e l)

all-more-sources : (es : List Edge) (g : Graph) (p i x y : ℕ) → Source g x y → Source (complete_sinks g p i es) x y
all-more-sources [] g p i x y h = h
all-more-sources (e ∷ es) g p i x y h = all-more-sources es (sourced g p i e) p (suc i) x y (pick (λ (k : Graph). Source k x y) (ltb e.to (length g)) (gain_source g p i e.to) g (more-sources g p i e.to x y h) h)

all-gained : (es : List Edge) (g : Graph) (p i y : ℕ) → y < length g → leads_to es y ≡ true → Source (complete_sinks g p i es) p y
all-gained [] g p i y l h = absurd (false≢true h)
all-gained (e ∷ es) g p i y l h = go (eqb e.to y) refl h (all-gained es (sourced g p i e) p (suc i) y (subst (λ (n : ℕ). y < n) (sym (sourced-long g p i e)) l))
  where
    go : (b : Bool) → eqb e.to y ≡ b → (b || leads_to es y) ≡ true → (leads_to es y ≡ true → Source (complete_sinks (sourced g p i e) p (suc i) es) p y) → Source (complete_sinks (sourced g p i e) p (suc i) es) p y
    go true t u f =
        let z : e.to ≡ y = eqb-true e.to y t in
        all-more-sources es (sourced g p i e) p (suc i) p y (subst (λ (w : ℕ). Source (sourced g p i e) p w) z (sourced-there g p i e (subst (λ (w : ℕ). w < length g) (sym z) l)))
    go false t u f = f u

all-same-sinks : (es : List Edge) (g : Graph) (p i x : ℕ) → (node_at (complete_sinks g p i es) x).sinks ≡ (node_at g x).sinks
all-same-sinks [] g p i x = refl
all-same-sinks (e ∷ es) g p i x = all-same-sinks es (sourced g p i e) p (suc i) x ∙ pick (λ (k : Graph). (node_at k x).sinks ≡ (node_at g x).sinks) (ltb e.to (length g)) (gain_source g p i e.to) g (same-sinks g p i e.to x) refl

all-more-sinks : (es : List Edge) (g : Graph) (p j x y : ℕ) → Sink g x y → Sink (complete_sources g p j es) x y
all-more-sinks [] g p j x y h = h
all-more-sinks (e ∷ es) g p j x y h = all-more-sinks es (sunk g p j e) p (suc j) x y (pick (λ (k : Graph). Sink k x y) (ltb e.to (length g)) (gain_sink g p j e) g (more-sinks g p j e x y h) h)

all_gained₂ : (es : List Edge) (g : Graph) (p j x : ℕ) → x < length g → leads_to es x ≡ true → Sink (complete_sources g p j es) x p
all_gained₂ [] g p j x l h = absurd (false≢true h)
all_gained₂ (e ∷ es) g p j x l h = go (eqb e.to x) refl h (all_gained₂ es (sunk g p j e) p (suc j) x (subst (λ (n : ℕ). x < n) (sym (sunk-long g p j e)) l))
  where
    go : (b : Bool) → eqb e.to x ≡ b → (b || leads_to es x) ≡ true → (leads_to es x ≡ true → Sink (complete_sources (sunk g p j e) p (suc j) es) x p) → Sink (complete_sources (sunk g p j e) p (suc j) es) x p
    go true t u f =
        let z : e.to ≡ x = eqb-true e.to x t in
        all-more-sinks es (sunk g p j e) p (suc j) x p (subst (λ (w : ℕ). Sink (sunk g p j e) w p) z (sunk-there g p j e (subst (λ (w : ℕ). w < length g) (sym z) l)))
    go false t u f = f u

-- ---- what is kept through all steps: node x has its sinks done, if it is below k, and node y its sources, if it is below l
module _ (n x y : ℕ) where
  record Pairs (k l : ℕ) (g : Graph) : Type 0 where
    long : length g ≡ n
    there : x < k → Sink g x y → Source g x y
    back : y < l → Source g x y → Sink g x y

  gain_source_pairs : (k l : ℕ) (g : Graph) (p i q : ℕ) → p < n → q < length g → SinkAt g p i q → Pairs k l g → Pairs k l (gain_source g p i q)
  gain_source_pairs k l g p i q h m s a =
      record {
        long = source_long g p i q ∙ a.long;
        there = λ h. sink_source g p i q s x y (a.there h);
        back = λ h. source_sink g p i q s x y (a.back h);
      }

  gain_sink_pairs : (k l : ℕ) (g : Graph) (p j : ℕ) (e : Edge) → p < n → e.to < length g → SourceAt g p j e → Pairs k l g → Pairs k l (gain_sink g p j e)
  gain_sink_pairs k l g p j e h m s a =
      record {
        long = sink-long g p j e ∙ a.long;
        there = λ h. sink_source₂ g p j e s x y (a.there h);
        back = λ h. source_sink₂ g p j e s x y (a.back h);
      }

  module _ (inx : x < n) (iny : y < n) (p : ℕ) (inp : p < n) where
    sinks_pairs : (g : Graph) → Pairs p p g → Pairs (suc p) p (complete_sinks g p 0 (node_at g p).sinks)
    sinks_pairs g a =
        let b : Pairs p p m = sinks_hold n (Pairs p p) (gain_source_pairs p p) (node_at g p).sinks g p 0 inp refl a in
        record { long = b.long; there = λ h. by b (less? x p) h; back = b.back }
      where
        m : Graph
        m = complete_sinks g p 0 (node_at g p).sinks

        by : Pairs p p m → (x < p) ⊎ (p ≤ x) → x < suc p → Sink m x y → Source m x y
        by b (inl h) i = b.there h
        by b (inr h) i =
            let e : p ≡ x = omega arith in
            subst (λ (z : ℕ). Sink m z y → Source m z y) e
            (λ t. all-gained (node_at g p).sinks g p 0 y (subst (λ (z : ℕ). y < z) (sym a.long) iny) (subst (λ (es : List Edge). leads_to es y ≡ true) (all-same-sinks (node_at g p).sinks g p 0 p) t))

    sources_pairs : (m : Graph) → Pairs (suc p) p m → Pairs (suc p) (suc p) (complete_sources m p 0 (node_at m p).sources)
    sources_pairs m a =
        let b : Pairs (suc p) p k = sources_hold n (Pairs (suc p) p) (gain_sink_pairs (suc p) p) (node_at m p).sources m p 0 inp refl a in
        record { long = b.long; there = b.there; back = λ h. by b (less? y p) h }
      where
        k : Graph
        k = complete_sources m p 0 (node_at m p).sources

        -- the sources lead where they led
        same : leads_to (node_at k p).sources x ≡ leads_to (node_at m p).sources x
        same =
            sources_hold n (λ (g : Graph). leads_to (node_at g p).sources x ≡ leads_to (node_at m p).sources x)
            (λ g r j e l u s h. same-sources g r j e s x p ∙ h) (node_at m p).sources m p 0 inp refl refl

        by : Pairs (suc p) p k → (y < p) ⊎ (p ≤ y) → y < suc p → Source k x y → Sink k x y
        by b (inl h) i = b.back h
        by b (inr h) i =
            let e : p ≡ y = omega arith in
            subst (λ (z : ℕ). Source k x z → Sink k x z) e
            (λ t. all_gained₂ (node_at m p).sources m p 0 x (subst (λ (z : ℕ). x < z) (sym a.long) inx) (sym same ∙ t))

    node_pairs : (g : Graph) → Pairs p p g → Pairs (suc p) (suc p) (complete_node g p)
    node_pairs g a = sources_pairs (complete_sinks g p 0 (node_at g p).sinks) (sinks_pairs g a)

both_true : (a b : Bool) → (a ≡ true → b ≡ true) → (b ≡ true → a ≡ true) → a ≡ b
both_true true true f g = refl
both_true true false f g = sym (f refl)
both_true false true f g = g refl
both_true false false f g = refl

-- of two given nodes, wherever the other ends lead
pub mutual_given : (g : Graph) (p q : ℕ) → p < length g → q < length g → leads_to (node_at (complete g) p).sinks q ≡ leads_to (node_at (complete g) q).sources p
unfolding complete
mutual_given g p q hp hq =
    let n : ℕ = length g in
    let a : Pairs n p q n n (complete g) =
    each_holds (λ k h. Pairs n p q k k h) (λ r h. complete_node h r) n (λ r h l a. node_pairs n p q hp hq r l h a) g
    (record { long = refl; there = λ h. absurd (not-suc-le-zero h); back = λ h. absurd (not-suc-le-zero h) }) n (omega arith) in
    both_true (leads_to (node_at (complete g) p).sinks q) (leads_to (node_at (complete g) q).sources p) (a.there hp) (a.back hq)

-- ---- each target is a node
pub leads_in_lem : (n : ℕ) (es : List Edge) (p : ℕ) → All (To n) es → leads_to es p ≡ true → p < n
leads_in_lem n [] p a e = absurd (false≢true e)
leads_in_lem n (x ∷ es) p a e = go (eqb x.to p) refl e (leads_in_lem n es p a.1)
  where
    go : (b : Bool) → eqb x.to p ≡ b → (b || leads_to es p) ≡ true → (leads_to es p ≡ true → p < n) → p < n
    go true t u f = subst (λ (z : ℕ). z < n) (eqb-true x.to p t) a.0
    go false t u f = f u

leads_out : (n : ℕ) (es : List Edge) (p : ℕ) → All (To n) es → n ≤ p → leads_to es p ≡ false
leads_out n es p a h = go (leads_to es p) refl
  where
    go : (b : Bool) → leads_to es p ≡ b → leads_to es p ≡ false
    go true e = absurd (let l = leads_in_lem n es p a e in omega arith)
    go false e = e

-- the graph of a board whose targets are nodes, completed
pub complete_mutual : (g : Graph) → Aimed (length g) g → Mutual (complete g)
complete_mutual g a p q = go (less? p (length g)) (less? q (length g))
  where
    aims : Aimed (length g) (complete g)
    aims = complete-aims (length g) (length g) (omega arith) g refl a

    go : (p < length g) ⊎ (length g ≤ p) → (q < length g) ⊎ (length g ≤ q) → leads_to (node_at (complete g) p).sinks q ≡ leads_to (node_at (complete g) q).sources p
    go (inl hp) (inl hq) = mutual_given g p q hp hq
    go (inr hp) r =
        ap (λ (n : Node). leads_to n.sinks q) (get_or-eq_default (complete g) bare (omega (arith, complete-length g)))
        ∙ sym (leads_out (length g) (node_at (complete g) q).sources p (node-aims (length g) (complete g) q aims).sources hp)
    go (inl hp) (inr hq) =
        leads_out (length g) (node_at (complete g) p).sinks q (node-aims (length g) (complete g) p aims).sinks hq
        ∙ sym (ap (λ (n : Node). leads_to n.sources p) (get_or-eq_default (complete g) bare (omega (arith, complete-length g))))
