-- A board without a lead to nothing: completion is document 01's, word for word, and nothing is joined. And refusal 13.
-- Assumes nothing.
use Prim.Native.Nat.{ℕ, suc, ◌+◌, ◌*◌, ◌≤◌, ◌<◌}
use native.Mathlib.Omega.{arith}
use mathlib.Core.Path.{◌≡◌, refl, ap, ◌∙◌}
use mathlib.Core.Bool.{Bool, cond}
use mathlib.Core.List.{List, [], ◌∷◌}
use lib.Dec.{ltb}
use lib.ListN.{length, length-set, length-map}
use borrow.Author.Tests.{ltb-true, lt-ltb, le-leb, lt-leb}
use Rattle.laws.specs.Each.{each}
use Rattle.laws.specs.Lists.{All}
use Rattle.laws.proofs.Each.{each_holds}
use Rattle.laws.proofs.Tests.{pick}
use Rattle.chart.specs.Chart.{Board}
use Rattle.graph.specs.Graph.{Edge, Graph, node_at, leads_to, has_marked, given_node, given_graph}
use Rattle.graph.specs.Completion.{gain_source, complete_sinks, gain_sink, complete_sources, complete_node, complete}
use Rattle.graph.specs.Cutting.{cutting}
use Rattle.graph.specs.Joining.{outside, leads, leads_of, uncut}
use Rattle.refusals.specs.declared.Refusal.TheVariants.{ManyBoxes}
use Rattle.graph.specs.Graphed.{dag_of, ready, refusal, boxed}
use Rattle.graph.specs.Laws.{Aimed, SinkAt}
use Rattle.graph.proofs.Completes.{SourceAt, sinks_hold, sources_hold}
use Rattle.graph.proofs.AimLaws.{To, node-aims, gain_source_aims, gain-sink-aims, cutting-count}
use Rattle.graph.proofs.JoinLaws.{either-by}
use Rattle.graph.proofs.Uncut.{uncut-long, uncut-none}

-- ---- completion without the test
abbrev pub plain_sinks : Graph → ℕ → ℕ → List Edge → Graph
plain_sinks g p i [] = g
plain_sinks g p i (e ∷ es) = plain_sinks (gain_source g p i e.to) p (suc i) es

abbrev pub plain_sources : Graph → ℕ → ℕ → List Edge → Graph
plain_sources g p j [] = g
plain_sources g p j (e ∷ es) = plain_sources (gain_sink g p j e) p (suc j) es

abbrev pub plain_node : Graph → ℕ → Graph
plain_node g p =
    let h = plain_sinks g p 0 (node_at g p).sinks in
    plain_sources h p 0 (node_at h p).sources

unfoldable pub plain : Graph → Graph
unfolding each
plain g = each g (λ p h. plain_node h p) (length g)

-- ---- the same where each end leads to a node
source_long : (g : Graph) (p i q : ℕ) → length (gain_source g p i q) ≡ length g
source_long g p i q = pick (λ u. length u ≡ length g) (has_marked (node_at g q).sources p i) g _ refl (length-set g q _)

sink-long : (g : Graph) (p j : ℕ) (e : Edge) → length (gain_sink g p j e) ≡ length g
sink-long g p j e = pick (λ u. length u ≡ length g) (leads_to (node_at g e.to).sinks p) g _ refl (simp length-set)

sinks-plain : (n : ℕ) (es : List Edge) (g : Graph) (p i : ℕ) → length g ≡ n → All (To n) es → complete_sinks g p i es ≡ plain_sinks g p i es
sinks-plain n [] g p i l a = refl
sinks-plain n (e ∷ es) g p i l a =
    ap (λ (c : Bool). complete_sinks (cond c (gain_source g p i e.to) g) p (suc i) es) (ap (ltb e.to) l ∙ lt-ltb e.to n a.0)
    ∙ sinks-plain n es (gain_source g p i e.to) p (suc i) (source_long g p i e.to ∙ l) a.1

sources-plain : (n : ℕ) (es : List Edge) (g : Graph) (p j : ℕ) → length g ≡ n → All (To n) es → complete_sources g p j es ≡ plain_sources g p j es
sources-plain n [] g p j l a = refl
sources-plain n (e ∷ es) g p j l a =
    ap (λ (c : Bool). complete_sources (cond c (gain_sink g p j e) g) p (suc j) es) (ap (ltb e.to) l ∙ lt-ltb e.to n a.0)
    ∙ sources-plain n es (gain_sink g p j e) p (suc j) (sink-long g p j e ∙ l) a.1

-- what each step keeps
pub record Led (n : ℕ) (g : Graph) : Type 0 where
  pub long : length g ≡ n
  pub aimed : Aimed n g

module _ (n : ℕ) where
  led_source : (g : Graph) (p i q : ℕ) → p < n → q < length g → SinkAt g p i q → Led n g → Led n (gain_source g p i q)
  led_source g p i q l t s a = record { long = source_long g p i q ∙ a.long; aimed = gain_source_aims n n (omega arith) g p i q l t s a.aimed }

  led-sink : (g : Graph) (p j : ℕ) (e : Edge) → p < n → e.to < length g → SourceAt g p j e → Led n g → Led n (gain_sink g p j e)
  led-sink g p j e l t s a = record { long = sink-long g p j e ∙ a.long; aimed = gain-sink-aims n n (omega arith) g p j e l t s a.aimed }

  node-plain : (g : Graph) (p : ℕ) → p < n → Led n g → (complete_node g p ≡ plain_node g p) × Led n (complete_node g p)
  node-plain g p l a =
      let h : Graph = complete_sinks g p 0 (node_at g p).sinks in
      let b : Led n h = sinks_hold n (Led n) led_source (node_at g p).sinks g p 0 l refl a in (
        sources-plain n (node_at h p).sources h p 0 b.long (node-aims n h p b.aimed).sources
            ∙ ap (λ (u : Graph). plain_sources u p 0 (node_at u p).sources) (sinks-plain n (node_at g p).sinks g p 0 a.long (node-aims n g p a.aimed).sinks),
        sources_hold n (Led n) led-sink (node_at h p).sources h p 0 l refl b,
      )

-- 'completion is the old one'
pub complete-plain : (g : Graph) → Aimed (length g) g → complete g ≡ plain g
unfolding complete plain each
complete-plain g a =
    (each_holds (λ k u. (u ≡ each g (λ p h. plain_node h p) k) × Led (length g) u) (λ p u. complete_node u p) (length g)
    (λ p u l b. let r = node-plain (length g) u p l b.1 in (r.0 ∙ ap (λ (v : Graph). plain_node v p) b.0, r.1))
    g (refl, record { long = refl; aimed = a }) (length g) (omega arith)).0

-- ---- no lead: each end leads to a node
none-outside : (n : ℕ) (es : List Edge) → outside n es ≡ 0 → All (To n) es
none-outside n [] h = tt
none-outside n (e ∷ es) h =
    either-by (ltb e.to n) (λ c. cond c (outside n es) (suc (outside n es)) ≡ 0 → (e.to < n) × All (To n) es)
    (λ z k. (ltb-true e.to n z, none-outside n es k)) (λ z k. absurd (omega (arith, k))) h

pub aimed-none : (n : ℕ) (g : Graph) → leads n g ≡ 0 → Aimed n g
aimed-none n [] h = tt
aimed-none n (x ∷ g) h = (record { sources = none-outside n x.sources (omega arith); sinks = none-outside n x.sinks (omega arith) }, aimed-none n g (omega arith))

-- and where each end leads to a node there is none
all-inside : (n : ℕ) (es : List Edge) → All (To n) es → outside n es ≡ 0
all-inside n [] a = refl
all-inside n (e ∷ es) a = rw (lt-ltb e.to n a.0) (all-inside n es a.1)

pub none-aimed : (n : ℕ) (g : Graph) → Aimed n g → leads n g ≡ 0
none-aimed n [] a = refl
none-aimed n (x ∷ g) a = omega (arith, all-inside n x.sinks a.0.sinks, all-inside n x.sources a.0.sources, none-aimed n g a.1)

-- the graph before cutting is then document 01's
pub uncut-plain : (ps : Board) → leads_of ps ≡ 0 → uncut ps ≡ plain (given_graph ps)
uncut-plain ps h = let n : length (given_graph ps) ≡ length ps = length-map ps given_node in uncut-none ps h ∙ complete-plain (given_graph ps) (rw n (aimed-none (length ps) (given_graph ps) h))

-- ---- refusal 13
module _ (ps : Board) where
  abbrev boxes : ℕ
  boxes = length ps + leads_of ps + 2 * (cutting (uncut ps)).cuts

  pub boxes-are : length (cutting (uncut ps)).graph ≡ boxes
  boxes-are = omega (arith, cutting-count (uncut ps), uncut-long ps)

  pub thirteen : 48 < boxes → boxed (cutting (uncut ps)) ≡ refusal ManyBoxes
  thirteen h = rw (lt-leb (length (cutting (uncut ps)).graph) 48 (omega (arith, boxes-are)))

  pub not_thirteen : boxes ≤ 48 → boxed (cutting (uncut ps)) ≡ ready (dag_of (cutting (uncut ps)))
  not_thirteen h = rw (le-leb (length (cutting (uncut ps)).graph) 48 (omega (arith, boxes-are)))

  -- 'given too if they alone bring the boxes over 48'
  pub leads-alone : 48 < length ps + leads_of ps → boxed (cutting (uncut ps)) ≡ refusal ManyBoxes
  leads-alone h = thirteen (omega arith)
