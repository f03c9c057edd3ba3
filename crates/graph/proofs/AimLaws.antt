-- Where each source and each sink leads to a node, cutting keeps that, and each cut adds two nodes.
-- Assumes nothing.
use Prim.Native.Nat.{ℕ, zero, suc, ◌+◌, ◌*◌, ◌≤◌, ◌<◌}
use native.Mathlib.Omega.{arith}
use native.Mathlib.Nat.{le_of_suc-le-suc, not-suc-le-zero}
use mathlib.Core.Path.{◌≡◌, refl, ap, subst}
use mathlib.Core.Option.{none, some}
use mathlib.Core.List.{List, [], ◌∷◌, ◌++◌, map}
use lib.Dec.{eqb}
use lib.ListN.{length, get_or, set}
use Rattle.laws.specs.Lists.{All, one}
use Rattle.laws.proofs.Lists.{all_map, all_join, all_made}
use Rattle.laws.proofs.Tests.{pick}
use Rattle.graph.specs.Graph.{Edge, Node, Graph, no_text, no_edge, bare, node_at, leads_to, has_marked, with_sources, with_sinks}
use Rattle.graph.specs.Completion.{gain_source, marked, gain_sink, complete}
use Rattle.graph.specs.Cutting.{turned, pointed, first_node, second_node, cut_graph, reached, cutting}
use Rattle.graph.specs.Laws.{Leads, Aimed, SinkAt}
use Rattle.graph.proofs.Resumes.{length_cut}
use Rattle.graph.proofs.Keeps.{cutting_keeps}
use Rattle.graph.proofs.Completes.{SourceAt, complete-holds}

-- ---- each of a list
pub all_set : {A : Type 0} (P : A → Type 0) (xs : List A) (i : ℕ) (y : A) → P y → All P xs → All P (set xs i y)
all_set P [] i y h a = tt
all_set P (x ∷ xs) zero y h a = (h, a.1)
all_set P (x ∷ xs) (suc i) y h a = (a.0, all_set P xs i y h a.1)

pub all-at : {A : Type 0} (P : A → Type 0) (xs : List A) (i : ℕ) (d : A) → P d → All P xs → P (get_or xs i d)
all-at P [] i d h a = h
all-at P (x ∷ xs) zero d h a = a.0
all-at P (x ∷ xs) (suc i) d h a = all-at P xs i d h a.1

pub all_in : {A : Type 0} (P : A → Type 0) (xs : List A) (i : ℕ) (d : A) → i < length xs → All P xs → P (get_or xs i d)
all_in P [] i d h a = absurd (not-suc-le-zero h)
all_in P (x ∷ xs) zero d h a = a.0
all_in P (x ∷ xs) (suc i) d h a = all_in P xs i d (le_of_suc-le-suc h) a.1

-- ---- targets
pub node-aims : (n : ℕ) (g : Graph) (p : ℕ) → Aimed n g → Leads n (node_at g p)
node-aims n g p a = all-at (Leads n) g p bare (record { sources = tt; sinks = tt }) a

sources_aim : (n : ℕ) (g : Graph) (p : ℕ) (es : List Edge) → All (λ (e : Edge). e.to < n) es → Aimed n g → Aimed n (with_sources g p es)
sources_aim n g p es h a = all_set (Leads n) g p _ (record { sources = h; sinks = (node-aims n g p a).sinks }) a

sinks_aim : (n : ℕ) (g : Graph) (p : ℕ) (es : List Edge) → All (λ (e : Edge). e.to < n) es → Aimed n g → Aimed n (with_sinks g p es)
sinks_aim n g p es h a = all_set (Leads n) g p _ (record { sources = (node-aims n g p a).sources; sinks = h }) a

abbrev pub To : ℕ → Edge → Type 0
To n e = e.to < n

-- completion keeps a bound of the targets
module _ (m n : ℕ) (le : n ≤ m) where
  pub gain_source_aims : (g : Graph) (p i q : ℕ) → p < n → q < length g → SinkAt g p i q → Aimed m g → Aimed m (gain_source g p i q)
  gain_source_aims g p i q l t s a =
      let es : List Edge = (node_at g q).sources in
      let new : List Edge = one (record { to = p; mark = some i; text = no_text }) in
      pick (Aimed m) (has_marked es p i) g (with_sources g q (es ++ new)) a (sources_aim m g q (es ++ new) (all_join (To m) es new (node-aims m g q a).sources (omega arith, tt)) a)

  pub gain-sink-aims : (g : Graph) (p j : ℕ) (e : Edge) → p < n → e.to < length g → SourceAt g p j e → Aimed m g → Aimed m (gain_sink g p j e)
  gain-sink-aims g p j e l t s a =
      let es : List Edge = (node_at g e.to).sinks in
      let new : List Edge = one (record { to = p; mark = none; text = no_text }) in
      let h : Graph = with_sinks g e.to (es ++ new) in
      let to_in : e.to < m = subst (λ (k : ℕ). k < m) (ap (λ (x : Edge). x.to) s.is) (all_in (To m) (node_at g p).sources j no_edge s.inside (node-aims m g p a).sources) in
      let b : Aimed m h = sinks_aim m g e.to (es ++ new) (all_join (To m) es new (node-aims m g e.to a).sinks (omega arith, tt)) a in
      pick (Aimed m) (leads_to es p) g (with_sources h p (set (node_at h p).sources j (marked (length es) e))) a
      (sources_aim m h p (set (node_at h p).sources j (marked (length es) e)) (all_set (To m) (node_at h p).sources j (marked (length es) e) to_in (node-aims m h p b).sources) b)

  pub complete-aims : (g : Graph) → length g ≡ n → Aimed m g → Aimed m (complete g)
  complete-aims g e a = complete-holds n (Aimed m) gain_source_aims gain-sink-aims g e a

pub leads-more : (n m : ℕ) → n ≤ m → (x : Node) → Leads n x → Leads m x
leads-more n m l x a = record { sources = all_map (λ e h. omega (arith, h)) x.sources a.sources; sinks = all_map (λ e h. omega (arith, h)) x.sinks a.sinks }

turned-aims : (n c to : ℕ) → to < n → (es : List Edge) → All (To n) es → All (To n) (map (turned c to) es)
turned-aims n c to l es a = all_made (To n) (To n) (turned c to) (λ e h. pick (To n) (eqb e.to c) (record { to = to; mark = some 0; text = e.text }) e l h) es a

pub cut-aims : (g : Graph) (c s : ℕ) (e : Edge) → c < length g → e.to < length g → Aimed (length g) g → Aimed (length (cut_graph g c s e)) (cut_graph g c s e)
cut-aims g c s e hc hq a =
    let n : ℕ = length g in
    let m : ℕ = length g + 2 in
    let q : ℕ = e.to in
    let fs : List Edge = set (node_at g c).sinks s (pointed n e) in
    let g₁ : Graph = with_sinks g c fs in
    let hs : List Edge = map (turned c (suc n)) (node_at g₁ q).sources in
    let g₂ : Graph = with_sources g₁ q hs in
    let b : Aimed m g = all_map (leads-more n m (omega arith)) g a in
    let b₁ : Aimed m g₁ = sinks_aim m g c fs (all_set (To m) (node_at g c).sinks s (pointed n e) (omega arith) (node-aims m g c b).sinks) b in
    let b₂ : Aimed m g₂ = sources_aim m g₁ q hs (turned-aims m c (suc n) (omega arith) (node_at g₁ q).sources (node-aims m g₁ q b₁).sources) b₁ in
    rw (length_cut g c s e)
    (all_join (Leads m) g₂ (first_node c s q ∷ second_node q ∷ []) b₂ (record { sources = (omega arith, tt); sinks = tt }, (record { sources = tt; sinks = (omega arith, tt) }, tt)))

pub cutting-aims : (g : Graph) → Aimed (length g) g → Aimed (length (cutting g).graph) (cutting g).graph
cutting-aims g a =
    (cutting_keeps (length g) (reached g) (λ w. Aimed (length w.graph) w.graph) (λ w c x h. h)
    (λ w c s hc hs hq lo bz fr h. cut-aims w.graph c s (get_or (node_at w.graph c).sinks s no_edge) (omega arith) (omega arith) h) g refl refl a).keeps

-- ---- two nodes a cut
pub cutting-count : (g : Graph) → length (cutting g).graph ≡ length g + 2 * (cutting g).cuts
cutting-count g =
    (cutting_keeps (length g) (reached g) (λ w. length w.graph ≡ length g + 2 * w.cuts) (λ w c x h. h)
    (λ w c s hc hs hq lo bz fr h. omega (arith, h, length_cut w.graph c s (get_or (node_at w.graph c).sinks s no_edge))) g refl refl (omega arith)).keeps
