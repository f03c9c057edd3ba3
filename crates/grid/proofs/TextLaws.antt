-- Completion and cutting add no text to an edge, and an inserted node has one short line: the chart's limits are the drawn graph's.
-- Assumes nothing.
use Prim.Native.Nat.{ℕ, zero, suc, ◌+◌, ◌-◌, ◌*◌, ◌≤◌, ◌<◌}
use native.Mathlib.Omega.{arith}
use native.Mathlib.Nat.{not-suc-le-zero}
use mathlib.Core.Path.{◌≡◌, refl, ap, sym, ◌∙◌, subst}
use mathlib.Core.Bool.{Bool, true, false, cond}
use mathlib.Core.Logic.{⊎_elim}
use mathlib.Core.List.{List, [], ◌∷◌, ◌++◌, map}
use lib.Dec.{ltb}
use lib.ListN.{length, get_or, set, drop, replicate, length-map, length-set, length-drop}
use lib.Seq.{get_or-drop, drop-length, drop-append-le, drop-set-lt}
use borrow.Author.Tests.{ltb-true, ltb-false}
use Rattle.laws.specs.Lists.{All, one}
use Rattle.laws.proofs.Lists.{all_join, all_made}
use Rattle.laws.proofs.Tests.{pick}
use Rattle.chart.specs.Chart.{Part, End, Board, ends_of}
use Rattle.chart.specs.Chart.{Node as GivenNode}
use Rattle.chart.specs.declared.Setting.{Setting}
use Rattle.chart.specs.Accepted.{Fitting, Aimed, Formed, Accepted}
use Rattle.chart.proofs.Accepts.{accepted}
use Rattle.graph.specs.Graph.{Line, given, number, invalid, Edge, Node, Graph, no_text, no_edge, bare, unmarked, given_node, given_graph, node_at, with_sources, with_sinks}
use Rattle.graph.specs.Joining.{leads_of, uncut}
use Rattle.graph.specs.Cutting.{turned, pointed, first_node, second_node, cut_graph, reached, cutting}
use Rattle.graph.specs.Graphed.{Dag, ready, graphed}
use Rattle.graph.specs.Laws.{texts_at, Begins, Texts, Named, BoxOf, Laws}
use Rattle.graph.proofs.Keeps.{cutting_keeps}
use Rattle.graph.proofs.Uncut.{uncut-long}
use Rattle.graph.proofs.AimLaws.{all_in}
use Rattle.graph.proofs.Gathers.{graph-laws}
use Rattle.grid.specs.Lists.{largest, total}
use Rattle.grid.specs.RenderNode.{line_length, text_length}
use Rattle.grid.proofs.SheetTheorem.{edge_length, Small}

-- ---- a given node keeps its characters
abbrev pub length_of : List Edge → ℕ
length_of es = total (map text_length es)

abbrev lengths : List Part → ℕ
lengths ts = total (map (λ (t : Part). t.len) ts)

length-texts : (es : List Edge) → length_of es ≡ lengths (texts_at es)
length-texts [] = refl
length-texts (e ∷ es) = cc (length-texts es)

lengths-blanks : (ts : List Part) (k : ℕ) → lengths (ts ++ replicate k no_text) ≡ lengths ts
lengths-blanks [] zero = refl
lengths-blanks [] (suc k) = omega (arith, lengths-blanks [] k)
lengths-blanks (t ∷ ts) k = cc (lengths-blanks ts k)

pub length-kept : (es fs : List Edge) → Begins (texts_at es) (texts_at fs) → length_of fs ≡ length_of es
length-kept es fs b = length-texts fs ∙ ap lengths b.texts ∙ lengths-blanks (texts_at es) b.blanks ∙ sym (length-texts es)

node_kept : (g h : Graph) (k : ℕ) → Texts g h k → edge_length (node_at h k) ≡ edge_length (node_at g k)
node_kept g h k t = cc (length-kept (node_at g k).sources (node_at h k).sources t.sources, length-kept (node_at g k).sinks (node_at h k).sinks t.sinks)

-- ---- an inserted node has none
abbrev pub Blank : Node → Type 0
Blank x = edge_length x ≡ 0

-- the two nodes of a cut
abbrev two : ℕ → ℕ → ℕ → List Node
two c s q = first_node c s q ∷ second_node q ∷ []

-- a cut changes none of the nodes inserted before it
cut-inserted : (n : ℕ) (g : Graph) (c s : ℕ) (e : Edge) → c < n → e.to < n → n ≤ length g → drop n (cut_graph g c s e) ≡ drop n g ++ two c s e.to
cut-inserted n g c s e hc hq l =
    let g₁ : Graph = with_sinks g c (set (node_at g c).sinks s (pointed (length g) e)) in
    let g₂ : Graph = with_sources g₁ e.to (map (turned c (suc (length g))) (node_at g₁ e.to).sources) in
    let long : length g₂ ≡ length g = length-set g₁ e.to _ ∙ length-set g c _ in
    drop-append-le n g₂ (two c s e.to) (omega arith) ∙ ap (λ (l : Graph). l ++ two c s e.to) (drop-set-lt n g₁ e.to _ hq ∙ drop-set-lt n g c _ hc)

cut-blank : (g : Graph) → All Blank (drop (length g) (cutting g).graph)
cut-blank g =
    let n : ℕ = length g in
    (cutting_keeps n (reached g) (λ w. All Blank (drop n w.graph)) (λ w c x b. b)
    (λ w c s hc hs hq l bz fr b.
    let e : Edge = get_or (node_at w.graph c).sinks s no_edge in
    rw (cut-inserted n w.graph c s e hc hq l) (all_join Blank (drop n w.graph) (two c s e.to) b (refl, (refl, tt))))
    g refl refl (rw (drop-length g) tt)).keeps

-- the box of a lead
box-blank : (g j : Graph) (n k : ℕ) (x : Node) → BoxOf g j n k x → Blank x
box-blank g j n k x b =
    ⊎_elim (λ o. rw (o.sources, o.sinks)) (λ o. rw (o.sources, o.sinks)) b.end

-- by number
blank-from : (n : ℕ) (h : Graph) → ((k : ℕ) → n ≤ k → k < length h → Blank (node_at h k)) → All Blank (drop n h)
blank-from zero [] f = tt
blank-from zero (x ∷ h) f = (f 0 (omega arith) (omega arith), blank-from zero h (λ k a b. f (suc k) (omega arith) (omega arith)))
blank-from (suc n) [] f = tt
blank-from (suc n) (x ∷ h) f = blank-from n h (λ k a b. f (suc k) (omega arith) (omega arith))

-- h is the nodes of g, with as many characters each, and inserted ones after them
total_kept : (g h : Graph) → length g ≤ length h → ((k : ℕ) → k < length g → edge_length (node_at h k) ≡ edge_length (node_at g k)) → All Blank (drop (length g) h) → total (map edge_length h) ≡ total (map edge_length g)
total_kept [] [] l f a = refl
total_kept [] (y ∷ h) l f a = omega (arith, a.0, total_kept [] h (omega arith) (λ k m. absurd (not-suc-le-zero m)) a.1)
total_kept (x ∷ g) [] l f a = absurd (not-suc-le-zero l)
total_kept (x ∷ g) (y ∷ h) l f a = omega (arith, f 0 (omega arith), total_kept g h (omega arith) (λ k m. f (suc k) (omega arith)) a)

-- ---- the given nodes
module _ (w : Setting) (s : List ℕ) (n : ℕ) where
  ends-few : (es : List End) → All (Aimed w s n) es → length_of (map unmarked es) ≤ 24 * length es
  ends-few [] a = omega arith
  ends-few (e ∷ es) a = omega (arith, a.0.fits.text.short, ends-few es a.1)

  given-few : (ps : Board) → All (Formed w s n) ps → total (map edge_length (given_graph ps)) ≤ 24 * ends_of ps
  given-few [] a = omega arith
  given-few (p ∷ ps) a = omega (arith, ends-few p.sources a.0.sources, ends-few p.sinks a.0.sinks, given-few ps a.1)

-- ---- lines
record Short (ls : List Line) : Type 0 where
  few : length ls ≤ 4
  narrow : largest (map line_length ls) ≤ 24

given-short : (w : Setting) (s : List ℕ) (n : ℕ) (p : GivenNode) → Formed w s n p → Short (given_node p).lines
given-short w s n p f = record { few = omega (arith, length-map p.lines given, f.few); narrow = narrow p.lines f.lines }
  where
    narrow : (ts : List Part) → All (Fitting s) ts → largest (map line_length (map given ts)) ≤ 24
    narrow [] a = omega arith
    narrow (t ∷ ts) a = omega (arith, a.0.short, narrow ts a.1)

number_short : (q : ℕ) → Short (one (number q))
number_short q = record { few = omega arith; narrow = omega (arith, pick (λ (k : ℕ). k ≤ 24) (ltb q 10) 2 3 (omega arith) (omega arith)) }

invalid-short : (t : ℕ) → Short (one (invalid t))
invalid-short t =
    record {
      few = omega arith;
      narrow = omega (arith, pick (λ (k : ℕ). k ≤ 24) (ltb t 10) 11 (cond (ltb t 100) 12 13) (omega arith) (pick (λ (k : ℕ). k ≤ 24) (ltb t 100) 12 13 (omega arith) (omega arith)));
    }

-- ---- the drawn graph
module _ (w : Setting) (s : List ℕ) (d : Dag) (laws : Laws w s d) where
  abbrev ps : Board
  ps = laws.board

  abbrev old : Graph
  old = given_graph ps

  abbrev a : Accepted w s ps
  a = accepted w s ps laws.read

  long : length old ≡ length ps
  long = length-map ps given_node

  -- a cut's box
  past_blank : (k : ℕ) → length (uncut ps) ≤ k → k < length d.graph → Blank (node_at d.graph k)
  past_blank k l h =
      let c : All Blank (drop (length (uncut ps)) d.graph) = subst (λ (x : Dag). All Blank (drop (length (uncut ps)) x.graph)) (sym laws.walk) (cut-blank (uncut ps)) in
      let z : length (uncut ps) + (k - length (uncut ps)) ≡ k = omega arith in
      let b : Blank (get_or (drop (length (uncut ps)) d.graph) (k - length (uncut ps)) bare) =
      all_in Blank (drop (length (uncut ps)) d.graph) (k - length (uncut ps)) bare (omega (arith, length-drop (length (uncut ps)) d.graph)) c in
      rw (get_or-drop (length (uncut ps)) d.graph (k - length (uncut ps)) bare, z) at b

  node-blank : (k : ℕ) → length old ≤ k → k < length d.graph → (b : Bool) → ltb k (length (uncut ps)) ≡ b → Blank (node_at d.graph k)
  node-blank k l h true e =
      let i : k < length (uncut ps) = ltb-true k (length (uncut ps)) e in
      let m : length ps ≤ k = omega (arith, long) in
      let j : k < length ps + leads_of ps = omega (arith, uncut-long ps) in
      rw (laws.kept k m j) (box-blank _ _ _ _ _ (laws.joined k m j))
  node-blank k l h false e = past_blank k (ltb-false k (length (uncut ps)) e) h

  pub blank : All Blank (drop (length old) d.graph)
  blank = blank-from (length old) d.graph (λ k l h. node-blank k l h (ltb k (length (uncut ps))) refl)

  few-characters : total (map edge_length d.graph) ≤ 64 * 24
  few-characters =
      omega (
        arith,
        total_kept old d.graph (omega (arith, long, laws.nodes)) (λ k l. node_kept old d.graph k (laws.texts k (omega (arith, long)))) blank,
        given-few w s (length ps) ps a.formed,
        a.ends,
      )

  short : (k : ℕ) → k < length d.graph → (b : Bool) → ltb k (length ps) ≡ b → Short (node_at d.graph k).lines
  short k h true t =
      let i : k < length ps = ltb-true k (length ps) t in
      rw (laws.lines k i)
      (all_in (λ (x : Node). Short x.lines) old k bare (omega (arith, long))
      (all_made (Formed w s (length ps)) (λ (x : Node). Short x.lines) given_node (given-short w s (length ps)) ps a.formed))
  short k h false t = past k (ltb-false k (length ps) t) h (ltb k (length ps + leads_of ps)) refl
    where
      past : (k : ℕ) → length ps ≤ k → k < length d.graph → (b : Bool) → ltb k (length ps + leads_of ps) ≡ b → Short (node_at d.graph k).lines
      past k l h true e =
          let j : k < length ps + leads_of ps = ltb-true k (length ps + leads_of ps) e in
          let b = laws.joined k l j in
          rw (laws.kept k l j, b.line) (invalid-short b.target)
      past k l h false e =
          let named : Named (length ps) (node_at d.graph k).lines = laws.inserted k (ltb-false k (length ps + leads_of ps) e) h in
          rw named.line (number_short named.q)

  drawn-small : Small d.graph
  drawn-small =
      record {
        nodes = laws.boxes;
        texts = few-characters;
        lines = λ k h. (short k h (ltb k (length ps)) refl).few;
        narrow = λ k h. (short k h (ltb k (length ps)) refl).narrow;
      }

-- a graph that is drawn is small
pub small : (w : Setting) (s : List ℕ) (d : Dag) → graphed w s ≡ ready d → Small d.graph
small w s d e = drawn-small w s d (graph-laws w s d e)
