-- A given node keeps the texts of its sources and sinks, in order; those that it gains have none.
-- Assumes nothing.
use Prim.Native.Nat.{ℕ, zero, suc, ◌≤◌, ◌<◌}
use native.Mathlib.Omega.{arith}
use mathlib.Core.Path.{◌≡◌, refl, ap, sym, ◌∙◌, subst}
use mathlib.Core.Bool.{Bool, true, false, cond}
use mathlib.Core.Option.{none, some}
use mathlib.Core.List.{List, [], ◌∷◌, ◌++◌, map, map-append, append_assoc, append-nil}
use lib.Dec.{eqb}
use lib.ListN.{length, get_or, set, replicate, length-set, get_or-append}
use lib.Seq.{map-set_same}
use Rattle.laws.specs.Lists.{one}
use Rattle.laws.proofs.Tests.{pick}
use Rattle.chart.specs.Chart.{Part}
use Rattle.graph.specs.Graph.{Edge, Node, Graph, no_text, no_edge, bare, node_at, leads_to, has_marked, with_sources, with_sinks}
use Rattle.graph.specs.Completion.{gain_source, marked, gain_sink, complete}
use Rattle.graph.specs.Cutting.{turned, pointed, cut_graph, reached, cutting}
use Rattle.graph.specs.Laws.{SinkAt, texts_at, Begins, Texts}
use Rattle.graph.proofs.Keeps.{cutting_keeps}
use Rattle.graph.proofs.Completes.{SourceAt, complete-holds}
use Rattle.graph.proofs.MarkLaws.{node-set}

abbrev text_of : Edge → Part
text_of e = e.text

blank-last : (k : ℕ) → replicate k no_text ++ one no_text ≡ replicate (suc k) no_text
blank-last zero = refl
blank-last (suc k) = cc (blank-last k)

-- one empty text more
begins-more : (old : List Part) (es : List Edge) (e : Edge) → e.text ≡ no_text → Begins old (texts_at es) → Begins old (texts_at (es ++ one e))
begins-more old es e z b =
    record {
      blanks = suc b.blanks;
      texts =
          map-append text_of es (one e) ∙ ap (λ (t : Part). texts_at es ++ one t) z ∙ ap (λ (l : List Part). l ++ one no_text) b.texts
          ∙ append_assoc old (replicate b.blanks no_text) (one no_text) ∙ ap (λ (l : List Part). old ++ l) (blank-last b.blanks);
    }

begins-same : (old new more : List Part) → more ≡ new → Begins old new → Begins old more
begins-same old new more e b = record { blanks = b.blanks; texts = e ∙ b.texts }

pub begins_refl : (old : List Part) → Begins old old
begins_refl old = record { blanks = 0; texts = sym (append-nil old) }

-- ---- completion
abbrev Kept : Graph → Graph → Type 0
Kept g₀ g = (p : ℕ) → Texts g₀ g p

module _ (g₀ g : Graph) (k : Kept g₀ g) where
  with-sources : (q : ℕ) (es : List Edge) → Begins (texts_at (node_at g₀ q).sources) (texts_at es) → Kept g₀ (with_sources g q es)
  with-sources q es b r =
      record {
        sources =
            node-set (λ (y : Node). Begins (texts_at (node_at g₀ r).sources) (texts_at y.sources)) g q _ r
            (λ z. subst (λ (i : ℕ). Begins (texts_at (node_at g₀ i).sources) (texts_at es)) (sym z) b) (k r).sources;
        sinks =
            node-set (λ (y : Node). Begins (texts_at (node_at g₀ r).sinks) (texts_at y.sinks)) g q _ r
            (λ z. subst (λ (i : ℕ). Begins (texts_at (node_at g₀ i).sinks) (texts_at (node_at g q).sinks)) (sym z) (k q).sinks) (k r).sinks;
      }

  with-sinks : (q : ℕ) (es : List Edge) → Begins (texts_at (node_at g₀ q).sinks) (texts_at es) → Kept g₀ (with_sinks g q es)
  with-sinks q es b r =
      record {
        sources =
            node-set (λ (y : Node). Begins (texts_at (node_at g₀ r).sources) (texts_at y.sources)) g q _ r
            (λ z. subst (λ (i : ℕ). Begins (texts_at (node_at g₀ i).sources) (texts_at (node_at g q).sources)) (sym z) (k q).sources) (k r).sources;
        sinks =
            node-set (λ (y : Node). Begins (texts_at (node_at g₀ r).sinks) (texts_at y.sinks)) g q _ r
            (λ z. subst (λ (i : ℕ). Begins (texts_at (node_at g₀ i).sinks) (texts_at es)) (sym z) b) (k r).sinks;
      }

gain_source_texts : (g₀ : Graph) (n : ℕ) (g : Graph) (p i q : ℕ) → p < n → q < length g → SinkAt g p i q → Kept g₀ g → Kept g₀ (gain_source g p i q)
gain_source_texts g₀ n g p i q l t s k =
    let es : List Edge = (node_at g q).sources in
    let new : Edge = record { to = p; mark = some i; text = no_text } in
    pick (Kept g₀) (has_marked es p i) g (with_sources g q (es ++ one new)) k
    (with-sources g₀ g k q (es ++ one new) (begins-more (texts_at (node_at g₀ q).sources) es new refl (k q).sources))

gain-sink-texts : (g₀ : Graph) (n : ℕ) (g : Graph) (p j : ℕ) (e : Edge) → p < n → e.to < length g → SourceAt g p j e → Kept g₀ g → Kept g₀ (gain_sink g p j e)
gain-sink-texts g₀ n g p j e l t s k =
    let q : ℕ = e.to in
    let es : List Edge = (node_at g q).sinks in
    let new : Edge = record { to = p; mark = none; text = no_text } in
    let h : Graph = with_sinks g q (es ++ one new) in
    let kh : Kept g₀ h = with-sinks g₀ g k q (es ++ one new) (begins-more (texts_at (node_at g₀ q).sinks) es new refl (k q).sinks) in
    let same : (node_at h p).sources ≡ (node_at g p).sources = node-set (λ (y : Node). y.sources ≡ (node_at g p).sources) g q _ p (λ z. ap (λ (i : ℕ). (node_at g i).sources) (sym z)) refl in
    let text : e.text ≡ (get_or (node_at h p).sources j no_edge).text = sym (ap (λ (x : Edge). x.text) s.is) ∙ ap (λ (xs : List Edge). (get_or xs j no_edge).text) (sym same) in
    pick (Kept g₀) (leads_to es p) g (with_sources h p (set (node_at h p).sources j (marked (length es) e))) k
    (with-sources g₀ h kh p (set (node_at h p).sources j (marked (length es) e))
    (begins-same (texts_at (node_at g₀ p).sources) (texts_at (node_at h p).sources) _ (map-set_same text_of (node_at h p).sources j (marked (length es) e) no_edge text) (kh p).sources))

pub complete-texts : (g : Graph) → Kept g (complete g)
complete-texts g =
    complete-holds (length g) (Kept g) (gain_source_texts g (length g)) (gain-sink-texts g (length g)) g refl
    (λ p. record { sources = begins_refl (texts_at (node_at g p).sources); sinks = begins_refl (texts_at (node_at g p).sinks) })

-- ---- cutting
turned-texts : (c to : ℕ) (es : List Edge) → texts_at (map (turned c to) es) ≡ texts_at es
turned-texts c to [] = refl
turned-texts c to (e ∷ es) = cc (one-text (eqb e.to c), turned-texts c to es)
  where
    one-text : (b : Bool) → text_of (cond b (record { to = to; mark = some 0; text = e.text }) e) ≡ e.text
    one-text true = refl
    one-text false = refl

cut-texts : (g₀ g : Graph) (c s p : ℕ) → p < length g → Texts g₀ g p → Texts g₀ (cut_graph g c s (get_or (node_at g c).sinks s no_edge)) p
cut-texts g₀ g c s p l t =
    let e : Edge = get_or (node_at g c).sinks s no_edge in
    let q : ℕ = e.to in
    let fs : List Edge = set (node_at g c).sinks s (pointed (length g) e) in
    let g₁ : Graph = with_sinks g c fs in
    let hs : List Edge = map (turned c (suc (length g))) (node_at g₁ q).sources in
    let g₂ : Graph = with_sources g₁ q hs in
    let size : length g₂ ≡ length g = length-set g₁ q _ ∙ length-set g c _ in
    let at : node_at (cut_graph g c s e) p ≡ node_at g₂ p = get_or-append g₂ _ bare p (omega (arith, size)) in
    let sinks₁ : texts_at (node_at g₁ p).sinks ≡ texts_at (node_at g p).sinks =
    node-set (λ (y : Node). texts_at y.sinks ≡ texts_at (node_at g p).sinks) g c _ p (λ z. map-set_same text_of (node_at g c).sinks s (pointed (length g) e) no_edge refl ∙ ap (λ (i : ℕ). texts_at (node_at g i).sinks) (sym z)) refl in
    let sources₁ : texts_at (node_at g₁ p).sources ≡ texts_at (node_at g p).sources =
    node-set (λ (y : Node). texts_at y.sources ≡ texts_at (node_at g p).sources) g c _ p (λ z. ap (λ (i : ℕ). texts_at (node_at g i).sources) (sym z)) refl in
    let sinks₂ : texts_at (node_at g₂ p).sinks ≡ texts_at (node_at g₁ p).sinks =
    node-set (λ (y : Node). texts_at y.sinks ≡ texts_at (node_at g₁ p).sinks) g₁ q _ p (λ z. ap (λ (i : ℕ). texts_at (node_at g₁ i).sinks) (sym z)) refl in
    let sources₂ : texts_at (node_at g₂ p).sources ≡ texts_at (node_at g₁ p).sources =
    node-set (λ (y : Node). texts_at y.sources ≡ texts_at (node_at g₁ p).sources) g₁ q _ p (λ z. turned-texts c (suc (length g)) (node_at g₁ q).sources ∙ ap (λ (i : ℕ). texts_at (node_at g₁ i).sources) (sym z)) refl in
    record {
      sources = begins-same _ (texts_at (node_at g p).sources) _ (ap (λ (y : Node). texts_at y.sources) at ∙ sources₂ ∙ sources₁) t.sources;
      sinks = begins-same _ (texts_at (node_at g p).sinks) _ (ap (λ (y : Node). texts_at y.sinks) at ∙ sinks₂ ∙ sinks₁) t.sinks;
    }

pub cutting-texts : (g₀ g : Graph) (n : ℕ) → n ≤ length g → ((p : ℕ) → p < n → Texts g₀ g p) → (p : ℕ) → p < n → Texts g₀ (cutting g).graph p
cutting-texts g₀ g n small k =
    (cutting_keeps (length g) (reached g) (λ w. (p : ℕ) → p < n → Texts g₀ w.graph p) (λ w c x h. h)
    (λ w c s hc hs hq lo bz fr h p l. cut-texts g₀ w.graph c s p (omega arith) (h p l)) g refl refl k).keeps
