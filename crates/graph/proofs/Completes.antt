-- What holds through edge completion: each step is at a sink, or a source, that is there.
-- Assumes nothing.
use Prim.Native.Nat.{ℕ, zero, suc, ◌<◌}
use native.Mathlib.Omega.{arith}
use mathlib.Core.Path.{◌≡◌, refl, ap, sym, ◌∙◌}
use mathlib.Core.Bool.{cond}
use mathlib.Core.Option.{none}
use mathlib.Core.List.{List, [], ◌∷◌, ◌++◌, map}
use lib.Dec.{ltb}
use lib.ListN.{length, get_or, set, drop, length-map, get_or-map}
use lib.Seq.{map-set_same}
use borrow.Author.Tests.{ltb-true}
use Rattle.laws.specs.Lists.{one}
use Rattle.laws.proofs.Tests.{pick, pick-by}
use Rattle.graph.specs.Graph.{Edge, Node, Graph, no_text, no_edge, bare, node_at, leads_to, has_marked, with_sources, with_sinks}
use Rattle.graph.specs.Completion.{gain_source, complete_sinks, marked, gain_sink, complete_sources, complete}
use Rattle.graph.specs.Laws.{SinkAt}
use Rattle.graph.proofs.Keeps.{complete-keeps}

-- the first of what is left of a list
pub drop_head : {A : Type 0} (xs : List A) (i : ℕ) (x : A) (ys : List A) (d : A) → drop i xs ≡ x ∷ ys → (i < length xs) × (get_or xs i d ≡ x) × (drop (suc i) xs ≡ ys)
drop_head [] zero x ys d e = let z : ◌≡◌ {A = ℕ} 0 1 = cc in absurd (omega arith)
drop_head [] (suc i) x ys d e = let z : ◌≡◌ {A = ℕ} 0 1 = cc in absurd (omega arith)
drop_head (a ∷ xs) zero x ys d e = (omega arith, cc, cc)
drop_head (a ∷ xs) (suc i) x ys d e = let h = drop_head xs i x ys d e in (omega (arith, h.0), h.1, h.2)

-- an edge without its mark
abbrev pub unmark : Edge → Edge
unmark e = record { to = e.to; mark = none; text = e.text }

abbrev pub sinks_in : Graph → List (List Edge)
sinks_in g = map (λ (x : Node). x.sinks) g

abbrev pub sources_in : Graph → List (List Edge)
sources_in g = map (λ (x : Node). map unmark x.sources) g

pub gain_source_sinks : (g : Graph) (p i q : ℕ) → sinks_in (gain_source g p i q) ≡ sinks_in g
gain_source_sinks g p i q =
    pick (λ x. sinks_in x ≡ sinks_in g) (has_marked (node_at g q).sources p i) g _ refl (map-set_same (λ (x : Node). x.sinks) g q _ bare refl)

pub sinks-at : (g h : Graph) → sinks_in h ≡ sinks_in g → (p : ℕ) → (node_at h p).sinks ≡ (node_at g p).sinks
sinks-at g h e p =
    sym (get_or-map (λ (x : Node). x.sinks) h p bare) ∙ ap (λ (l : List (List Edge)). get_or l p []) e ∙ get_or-map (λ (x : Node). x.sinks) g p bare

pub sources-at : (g h : Graph) → sources_in h ≡ sources_in g → (p : ℕ) → map unmark (node_at h p).sources ≡ map unmark (node_at g p).sources
sources-at g h e p =
    sym (get_or-map (λ (x : Node). map unmark x.sources) h p bare) ∙ ap (λ (l : List (List Edge)). get_or l p []) e ∙ get_or-map (λ (x : Node). map unmark x.sources) g p bare

pub gain-sink-sources : (g : Graph) (p j : ℕ) (e : Edge) → unmark (get_or (node_at g p).sources j no_edge) ≡ unmark e → sources_in (gain_sink g p j e) ≡ sources_in g
gain-sink-sources g p j e f =
    let es : List Edge = (node_at g e.to).sinks in
    let new : List Edge = es ++ one (record { to = p; mark = none; text = no_text }) in
    let h : Graph = with_sinks g e.to new in
    let k : Graph = with_sources h p (set (node_at h p).sources j (marked (length es) e)) in
    let first : sources_in h ≡ sources_in g = map-set_same (λ (x : Node). map unmark x.sources) g e.to _ bare refl in
    let same : unmark (get_or (node_at h p).sources j no_edge) ≡ unmark (get_or (node_at g p).sources j no_edge) =
    sym (get_or-map unmark (node_at h p).sources j no_edge) ∙ ap (λ (l : List Edge). get_or l j no_edge) (sources-at g h first p) ∙ get_or-map unmark (node_at g p).sources j no_edge in
    let second : sources_in k ≡ sources_in h =
    map-set_same (λ (x : Node). map unmark x.sources) h p _ bare (map-set_same unmark (node_at h p).sources j (marked (length es) e) no_edge (sym (same ∙ f))) in
    pick (λ x. sources_in x ≡ sources_in g) (leads_to es p) g k refl (second ∙ first)

-- source j of p is there and is e, but for its mark
pub record SourceAt (g : Graph) (p j : ℕ) (e : Edge) : Type 0 where
  pub inside : j < length (node_at g p).sources
  pub is : unmark (get_or (node_at g p).sources j no_edge) ≡ unmark e

-- the sinks of p: each gain is at a sink that leads to a node
module _ (n : ℕ) (P : Graph → Type 0)
    (gain-source : (g : Graph) (p i q : ℕ) → p < n → q < length g → SinkAt g p i q → P g → P (gain_source g p i q)) where
  pub sinks_hold : (es : List Edge) (g : Graph) (p i : ℕ) → p < n → drop i (node_at g p).sinks ≡ es → P g → P (complete_sinks g p i es)
  sinks_hold [] g p i l e h = h
  sinks_hold (x ∷ es) g p i l e h =
      let f = drop_head (node_at g p).sinks i x es no_edge e in
      let u : Graph = cond (ltb x.to (length g)) (gain_source g p i x.to) g in
      let same : sinks_in u ≡ sinks_in g = pick (λ k. sinks_in k ≡ sinks_in g) (ltb x.to (length g)) (gain_source g p i x.to) g (gain_source_sinks g p i x.to) refl in
      sinks_hold es u p (suc i) l
      (ap (drop (suc i)) (sinks-at g u same p) ∙ f.2)
      (pick-by P (ltb x.to (length g)) (gain_source g p i x.to) g
      (λ z. gain-source g p i x.to l (ltb-true x.to (length g) z) (record { inside = f.0; leads = ap (λ (y : Edge). y.to) f.1 }) h)
      (λ z. h))

module _ (n : ℕ) (P : Graph → Type 0)
    (gain-sink : (g : Graph) (p j : ℕ) (e : Edge) → p < n → e.to < length g → SourceAt g p j e → P g → P (gain_sink g p j e)) where
  pub sources_hold : (es : List Edge) (g : Graph) (p j : ℕ) → p < n → drop j (map unmark (node_at g p).sources) ≡ map unmark es → P g → P (complete_sources g p j es)
  sources_hold [] g p j l e h = h
  sources_hold (x ∷ es) g p j l e h =
      let f = drop_head (map unmark (node_at g p).sources) j (unmark x) (map unmark es) no_edge e in
      let is : unmark (get_or (node_at g p).sources j no_edge) ≡ unmark x = sym (get_or-map unmark (node_at g p).sources j no_edge) ∙ f.1 in
      let u : Graph = cond (ltb x.to (length g)) (gain_sink g p j x) g in
      let same : sources_in u ≡ sources_in g = pick (λ k. sources_in k ≡ sources_in g) (ltb x.to (length g)) (gain_sink g p j x) g (gain-sink-sources g p j x is) refl in
      sources_hold es u p (suc j) l
      (ap (drop (suc j)) (sources-at g u same p) ∙ f.2)
      (pick-by P (ltb x.to (length g)) (gain_sink g p j x) g
      (λ z. gain-sink g p j x l (ltb-true x.to (length g) z) (record { inside = omega (arith, f.0, length-map (node_at g p).sources unmark); is = is }) h)
      (λ z. h))

module _ (n : ℕ) (P : Graph → Type 0)
    (gain-source : (g : Graph) (p i q : ℕ) → p < n → q < length g → SinkAt g p i q → P g → P (gain_source g p i q))
    (gain-sink : (g : Graph) (p j : ℕ) (e : Edge) → p < n → e.to < length g → SourceAt g p j e → P g → P (gain_sink g p j e)) where
  pub complete-holds : (g : Graph) → length g ≡ n → P g → P (complete g)
  complete-holds g e h =
      complete-keeps P g
      (λ p k l a.
      let m : Graph = complete_sinks k p 0 (node_at k p).sinks in
      sources_hold n P gain-sink (node_at m p).sources m p 0 (omega arith) refl (sinks_hold n P gain-source (node_at k p).sinks k p 0 (omega arith) refl a))
      h
