-- A mark names a sink of the source's target, and that sink leads here.
-- Assumes nothing.
use Prim.Native.Nat.{ℕ, zero, suc, ◌+◌, ◌-◌, ◌≤◌, ◌<◌}
use native.Mathlib.Omega.{arith}
use native.Mathlib.Nat.{le_of_suc-le-suc, not-suc-le-zero}
use mathlib.Core.Path.{◌≡◌, refl, ap, sym, ◌∙◌, subst}
use mathlib.Core.Bool.{Bool, true, false}
use mathlib.Core.Option.{none, some}
use mathlib.Core.List.{List, [], ◌∷◌, ◌++◌, map}
use lib.Dec.{eqb, ltb}
use lib.ListN.{length, get_or, set, length-set, length-append, get_or-append, get_or-eq_default}
use lib.Seq.{get_or-set_same, get_or-set_other, get_or-append_seam, get_or-append-add, map-set_same}
use borrow.Author.Tests.{eqb-false, ltb-true, ltb-false}
use Rattle.laws.specs.Lists.{All, one}
use Rattle.laws.proofs.Lists.{all_map, all_join, all_made}
use Rattle.laws.proofs.Tests.{pick, pick-by}
use Rattle.graph.specs.Graph.{Edge, Node, Graph, no_text, no_edge, bare, node_at, degree, leads_to, has_marked, with_sources, with_sinks}
use Rattle.graph.specs.Completion.{gain_source, marked, gain_sink, complete}
use Rattle.graph.specs.Cutting.{turned, pointed, first_node, second_node, cut_graph, reached, cutting}
use Rattle.graph.specs.Laws.{SinkAt, Names, Marked}
use Rattle.graph.proofs.Keeps.{cutting_keeps}
use Rattle.graph.proofs.Completes.{SourceAt, sinks-at, complete-holds}
use Rattle.graph.proofs.AimLaws.{all_set}

-- ---- one node replaced
pub node-set : (P : Node → Type 0) (g : Graph) (q : ℕ) (x : Node) (r : ℕ) → (r ≡ q → P x) → P (node_at g r) → P (node_at (set g q x) r)
node-set P [] q x r f h = h
node-set P (y ∷ g) zero x zero f h = f refl
node-set P (y ∷ g) zero x (suc r) f h = h
node-set P (y ∷ g) (suc q) x zero f h = h
node-set P (y ∷ g) (suc q) x (suc r) f h = node-set P g q x r (λ e. f (ap suc e)) h

-- the same, where the other nodes are known to be others
pub node-set-by : (P : Node → Type 0) (g : Graph) (q : ℕ) (x : Node) (r : ℕ) → q < length g → (r ≡ q → P x) → ((r ≡ q → ⊥) → P (node_at g r)) → P (node_at (set g q x) r)
node-set-by P [] q x r l f h = absurd (not-suc-le-zero l)
node-set-by P (y ∷ g) zero x zero l f h = f refl
node-set-by P (y ∷ g) zero x (suc r) l f h = h (λ e. omega arith)
node-set-by P (y ∷ g) (suc q) x zero l f h = h (λ e. omega arith)
node-set-by P (y ∷ g) (suc q) x (suc r) l f h = node-set-by P g q x r (le_of_suc-le-suc l) (λ e. f (ap suc e)) (λ n. h (λ e. n (omega arith)))

pub node-same : (g : Graph) (q : ℕ) (x : Node) → q < length g → node_at (set g q x) q ≡ x
node-same g q x l = get_or-set_same g q x bare l

-- ---- where the sinks are
abbrev At : ℕ → ℕ → Node → Type 0
At i p y = (i < length y.sinks) × ((get_or y.sinks i no_edge).to ≡ p)

sink-moved : (g h : Graph) (q i p : ℕ) → (node_at h q).sinks ≡ (node_at g q).sinks → SinkAt g q i p → SinkAt h q i p
sink-moved g h q i p e s = record { inside = rw e s.inside; leads = rw e s.leads }

names-moved : (g h : Graph) → ((q i p : ℕ) → SinkAt g q i p → SinkAt h q i p) → (p : ℕ) (es : List Edge) → All (Names g p) es → All (Names h p) es
names-moved g h f p es a = all_map (λ e n i m. f e.to i p (n i m)) es a

-- ---- completion
pub record Good (n : ℕ) (g : Graph) : Type 0 where
  pub long : length g ≡ n
  pub marks : Marked g

some_is : (i j : ℕ) → some i ≡ some j → i ≡ j
some_is i j e = cc

module _ (g : Graph) (p i q : ℕ) (s : SinkAt g p i q) (m : Marked g) where
  abbrev es : List Edge
  es = (node_at g q).sources

  abbrev new : Edge
  new = record { to = p; mark = some i; text = no_text }

  abbrev h : Graph
  h = with_sources g q (es ++ one new)

  pub moved : (r k x : ℕ) → SinkAt g r k x → SinkAt h r k x
  moved r k x = sink-moved g h r k x (sinks-at g h (map-set_same (λ (y : Node). y.sinks) g q _ bare refl) r)

  source_marks : Marked h
  source_marks r =
      node-set (λ (y : Node). All (Names h r) y.sources) g q _ r
      (λ e.
      let at : SinkAt h p i r = subst (λ (k : ℕ). SinkAt h p i k) (sym e) (moved p i q s) in
      all_join (Names h r) es (one new) (subst (λ (k : ℕ). All (Names h k) es) (sym e) (names-moved g h moved q es (m q)))
      (λ k z. subst (λ (l : ℕ). SinkAt h p l r) (some_is i k z) at, tt))
      (names-moved g h moved r (node_at g r).sources (m r))

pub gain_source_good : (n : ℕ) (g : Graph) (p i q : ℕ) → p < n → q < length g → SinkAt g p i q → Good n g → Good n (gain_source g p i q)
gain_source_good n g p i q l t s a =
    pick (Good n) (has_marked (node_at g q).sources p i) g (h g p i q s a.marks) a
    (record { long = length-set g q _ ∙ a.long; marks = source_marks g p i q s a.marks })

module _ (n : ℕ) (g : Graph) (p j : ℕ) (e : Edge) (l : p < n) (t : e.to < length g) (s : SourceAt g p j e) (a : Good n g) where
  abbrev q : ℕ
  q = e.to

  abbrev es₂ : List Edge
  es₂ = (node_at g q).sinks

  abbrev new₂ : Edge
  new₂ = record { to = p; mark = none; text = no_text }

  abbrev pub h₂ : Graph
  h₂ = with_sinks g q (es₂ ++ one new₂)

  abbrev fs : List Edge
  fs = set (node_at h₂ p).sources j (marked (length es₂) e)

  abbrev pub k₂ : Graph
  k₂ = with_sources h₂ p fs

  grown : (r i x : ℕ) → SinkAt g r i x → SinkAt h₂ r i x
  grown r i x k =
      let f : At i x (node_at h₂ r) =
      node-set (At i x) g q _ r
      (λ z.
      let i-in : i < length es₂ = subst (λ (r : ℕ). i < degree g r) z k.inside in
      (simp length-append (omega (arith, i-in)), ap (λ (y : Edge). y.to) (get_or-append es₂ (one new₂) no_edge i i-in) ∙ subst (λ (r : ℕ). (get_or (node_at g r).sinks i no_edge).to ≡ x) z k.leads))
      (k.inside, k.leads) in
      record { inside = f.0; leads = f.1 }

  kept : (r i x : ℕ) → SinkAt h₂ r i x → SinkAt k₂ r i x
  kept r i x = sink-moved h₂ k₂ r i x (sinks-at h₂ k₂ (map-set_same (λ (y : Node). y.sinks) h₂ p _ bare refl) r)

  pub both : (r i x : ℕ) → SinkAt g r i x → SinkAt k₂ r i x
  both r i x k = kept r i x (grown r i x k)

  made : SinkAt k₂ q (length es₂) p
  made =
      let z : node_at h₂ q ≡ _ = node-same g q (record { sources = (node_at g q).sources; lines = (node_at g q).lines; sinks = es₂ ++ one new₂ }) t in
      kept q (length es₂) p
      (record {
        inside = rw z (simp length-append (omega arith));
        leads = rw z (ap (λ (y : Edge). y.to) (get_or-append_seam es₂ new₂ [] no_edge));
      })

  pub sources-same : (r : ℕ) → (node_at h₂ r).sources ≡ (node_at g r).sources
  sources-same r = node-set (λ (y : Node). y.sources ≡ (node_at g r).sources) g q _ r (λ z. ap (λ (k : ℕ). (node_at g k).sources) (sym z)) refl

  olds : (r : ℕ) → All (Names k₂ r) (node_at h₂ r).sources
  olds r = rw (sources-same r) (names-moved g k₂ both r (node_at g r).sources (a.marks r))

  sink_marks : Marked k₂
  sink_marks r =
      node-set (λ (y : Node). All (Names k₂ r) y.sources) h₂ p _ r
      (λ z.
      subst (λ (k : ℕ). All (Names k₂ k) fs) (sym z)
      (all_set (Names k₂ p) (node_at h₂ p).sources j (marked (length es₂) e) (λ i m. subst (λ (k : ℕ). SinkAt k₂ q k p) (some_is (length es₂) i m) made) (olds p)))
      (olds r)

pub gain-sink-good : (n : ℕ) (g : Graph) (p j : ℕ) (e : Edge) → p < n → e.to < length g → SourceAt g p j e → Good n g → Good n (gain_sink g p j e)
gain-sink-good n g p j e l t s a =
    pick-by (Good n) (leads_to (node_at g e.to).sinks p) g (k₂ n g p j e l t s a) (λ z. a)
    (λ z. record { long = length-set (h₂ n g p j e l t s a) p _ ∙ length-set g e.to _ ∙ a.long; marks = sink_marks n g p j e l t s a })

pub complete-good : (n : ℕ) (g : Graph) → Good n g → Good n (complete g)
complete-good n g a = complete-holds n (Good n) (gain_source_good n) (gain-sink-good n) g a.long a

-- ---- a cut
-- the nodes after a cut
module _ (P : ℕ → Node → Type 0) (g : Graph) (x y : Node) where
  nodes-by : (r : ℕ) → ((r : ℕ) → r < length g → P r (node_at g r)) → P (length g) x → P (length g + 1) y → ((r : ℕ) → P r bare) → (b : Bool) → ltb r (length g) ≡ b → P r (node_at (g ++ (x ∷ y ∷ [])) r)
  nodes-by r f a b c true e = let l : r < length g = ltb-true r (length g) e in rw (get_or-append g (x ∷ y ∷ []) bare r l) (f r l)
  nodes-by r f a b c false e =
      let l : length g ≤ r = ltb-false r (length g) e in
      let z : length g + (r - length g) ≡ r = omega arith in
      subst (λ (k : ℕ). P k (node_at (g ++ (x ∷ y ∷ [])) k)) z (rw (get_or-append-add g (x ∷ y ∷ []) (r - length g) bare) (after (r - length g)))
    where
      after : (k : ℕ) → P (length g + k) (get_or (x ∷ y ∷ []) k bare)
      after zero = let z : length g ≡ length g + 0 = omega arith in subst (λ (k : ℕ). P k x) z a
      after (suc zero) = b
      after (suc (suc k)) = c (length g + suc (suc k))

module _ (g : Graph) (c s : ℕ) (hc : c < length g) (hs : s < degree g c) (hq : (get_or (node_at g c).sinks s no_edge).to < length g) (m : Marked g) where
  abbrev e₀ : Edge
  e₀ = get_or (node_at g c).sinks s no_edge

  abbrev q₀ : ℕ
  q₀ = e₀.to

  abbrev n₀ : ℕ
  n₀ = length g

  abbrev fs₀ : List Edge
  fs₀ = set (node_at g c).sinks s (pointed n₀ e₀)

  abbrev g₁ : Graph
  g₁ = with_sinks g c fs₀

  abbrev hs₁ : List Edge
  hs₁ = map (turned c (suc n₀)) (node_at g₁ q₀).sources

  abbrev g₂ : Graph
  g₂ = with_sources g₁ q₀ hs₁

  abbrev g₃ : Graph
  g₃ = cut_graph g c s e₀

  size₁ : length g₁ ≡ n₀
  size₁ = length-set g c _

  size₂ : length g₂ ≡ n₀
  size₂ = length-set g₁ q₀ _ ∙ size₁

  old-node : (r : ℕ) → r < n₀ → node_at g₃ r ≡ node_at g₂ r
  old-node r l = get_or-append g₂ _ bare r (omega (arith, size₂))

  second-node : node_at g₃ (suc n₀) ≡ second_node q₀
  second-node = let z : suc n₀ ≡ length g₂ + 1 = omega (arith, size₂) in ap (λ (k : ℕ). node_at g₃ k) z ∙ get_or-append-add g₂ (first_node c s q₀ ∷ second_node q₀ ∷ []) 1 bare

  sinks₂ : (r : ℕ) → (node_at g₂ r).sinks ≡ (node_at g₁ r).sinks
  sinks₂ r = sinks-at g₁ g₂ (map-set_same (λ (y : Node). y.sinks) g₁ q₀ _ bare refl) r

  sources₁ : (r : ℕ) → (node_at g₁ r).sources ≡ (node_at g r).sources
  sources₁ r = node-set (λ (y : Node). y.sources ≡ (node_at g r).sources) g c _ r (λ z. ap (λ (k : ℕ). (node_at g k).sources) (sym z)) refl

  -- every sink but the one that is cut stays where it is
  in_graph : (t i x : ℕ) → SinkAt g t i x → (b : Bool) → ltb t n₀ ≡ b → t < n₀
  in_graph t i x k true e = ltb-true t n₀ e
  in_graph t i x k false e =
      let z : node_at g t ≡ bare = get_or-eq_default g bare (ltb-false t n₀ e) in
      let y : i < 0 = subst (λ (y : Node). i < length y.sinks) z k.inside in
      absurd (not-suc-le-zero y)

  stays : (t i x : ℕ) → SinkAt g t i x → ((t ≡ c) → (i ≡ s) → ⊥) → SinkAt g₃ t i x
  stays t i x k o =
      let l : t < n₀ = in_graph t i x k (ltb t n₀) refl in
      let f : At i x (node_at g₁ t) =
      node-set (At i x) g c _ t
      (λ z. (
        rw (length-set (node_at g c).sinks s (pointed n₀ e₀)) (subst (λ (j : ℕ). i < degree g j) z k.inside),
        ap (λ (y : Edge). y.to) (get_or-set_other (node_at g c).sinks s i (pointed n₀ e₀) no_edge (o z)) ∙ subst (λ (j : ℕ). (get_or (node_at g j).sinks i no_edge).to ≡ x) z k.leads,
      ))
      (k.inside, k.leads) in
      record { inside = rw (old-node t l, sinks₂ t) f.0; leads = rw (old-node t l, sinks₂ t) f.1 }

  pointed-at : SinkAt g₃ c s n₀
  pointed-at =
      let z : node_at g₁ c ≡ record { sources = (node_at g c).sources; lines = (node_at g c).lines; sinks = fs₀ } = node-same g c _ hc in
      record {
        inside = rw (old-node c hc, sinks₂ c, z, length-set (node_at g c).sinks s (pointed n₀ e₀)) hs;
        leads = rw (old-node c hc, sinks₂ c, z) (ap (λ (y : Edge). y.to) (get_or-set_same (node_at g c).sinks s (pointed n₀ e₀) no_edge hs));
      }

  turned-to : SinkAt g₃ (suc n₀) 0 q₀
  turned-to = record { inside = rw second-node (omega arith); leads = rw second-node refl }

  -- the sources of q
  turned-names : (x : Edge) → Names g q₀ x → Names g₃ q₀ (turned c (suc n₀) x)
  turned-names x k =
      pick-by (Names g₃ q₀) (eqb x.to c) (record { to = suc n₀; mark = some 0; text = x.text }) x
      (λ e i z. subst (λ (j : ℕ). SinkAt g₃ (suc n₀) j q₀) (some_is 0 i z) turned-to)
      (λ e i z. stays x.to i q₀ (k i z) (λ a b. eqb-false x.to c e a))

  -- the sources of any other node
  other-names : (r : ℕ) → (r ≡ q₀ → ⊥) → (x : Edge) → Names g r x → Names g₃ r x
  other-names r n x k i z = stays x.to i r (k i z) (λ a b. n (sym (k i z).leads ∙ ap (λ (t : ℕ). (get_or (node_at g t).sinks i no_edge).to) a ∙ ap (λ (j : ℕ). (get_or (node_at g c).sinks j no_edge).to) b))

  abbrev Named : ℕ → Node → Type 0
  Named r y = All (Names g₃ r) y.sources

  cut-olds : (r : ℕ) → r < length g₂ → Named r (node_at g₂ r)
  cut-olds r l =
      node-set-by (Named r) g₁ q₀ _ r (omega (arith, size₁))
      (λ z.
      subst (λ (k : ℕ). All (Names g₃ k) hs₁) (sym z)
      (subst (λ (l : List Edge). All (Names g₃ q₀) (map (turned c (suc n₀)) l)) (sym (sources₁ q₀)) (all_made (Names g q₀) (Names g₃ q₀) (turned c (suc n₀)) turned-names (node_at g q₀).sources (m q₀))))
      (λ z. subst (λ (l : List Edge). All (Names g₃ r) l) (sym (sources₁ r)) (all_map (other-names r z) (node_at g r).sources (m r)))

  pub cut-marks : Marked g₃
  cut-marks r =
      let a : Named (length g₂) (first_node c s q₀) = (λ i z. rw size₂ (subst (λ (j : ℕ). SinkAt g₃ c j n₀) (some_is s i z) pointed-at), tt) in
      nodes-by Named g₂ (first_node c s q₀) (second_node q₀) r cut-olds a tt (λ k. tt) (ltb r (length g₂)) refl

pub cutting-marks : (g : Graph) → Marked g → Marked (cutting g).graph
cutting-marks g m =
    (cutting_keeps (length g) (reached g) (λ w. Marked w.graph) (λ w c x h. h)
    (λ w c s hc hs hq lo bz fr h. cut-marks w.graph c s (omega arith) hs (omega arith) h) g refl refl m).keeps
