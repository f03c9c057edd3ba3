-- The lines: a node keeps its lines, and a cut's box has the line of a given node's number.
-- Assumes nothing.
use Prim.Native.Nat.{ℕ, zero, suc, ◌+◌, ◌*◌, ◌≤◌, ◌<◌}
use native.Mathlib.Omega.{arith}
use mathlib.Core.Path.{◌≡◌, refl, ap, sym, ◌∙◌, subst}
use mathlib.Core.Bool.{Bool, true, false}
use mathlib.Core.Option.{none}
use mathlib.Core.Logic.{◌⊎◌, inl, inr, ⊎_elim}
use mathlib.Core.List.{List, [], ◌∷◌, ◌++◌, map, map-append, append_assoc, append-nil}
use lib.Dec.{ltb}
use lib.ListN.{length, get_or, set, length-map, length-set, get_or-append}
use lib.Seq.{map-set_same, get_or-append-add, get_or-set_other}
use borrow.Author.Tests.{ltb-true, ltb-false}
use Rattle.laws.specs.Lists.{All, one}
use Rattle.laws.proofs.Lists.{all_map, all_join}
use Rattle.laws.proofs.Tests.{pick}
use Rattle.chart.specs.Chart.{Board}
use Rattle.chart.specs.Chart.{Node as GivenNode}
use Rattle.graph.specs.declared.reach.Seen.TheVariants.{Unseen}
use Rattle.graph.specs.Graph.{Line, given, number, Edge, Node, Graph, no_text, no_edge, bare, given_node, given_graph, node_at, degree, leads_to, has_marked, with_sources, with_sinks}
use Rattle.graph.specs.Completion.{gain_source, marked, gain_sink, complete}
use Rattle.graph.specs.Cutting.{Walk, turned, pointed, first_node, second_node, cut_graph, cut, seen_at, reached, cutting}
use Rattle.graph.specs.Laws.{Named}
use Rattle.graph.proofs.Resumes.{Grown, cut-grown, length_cut}
use Rattle.graph.proofs.Keeps.{steps_keep, root_seen, cutting_keeps}
use Rattle.graph.proofs.AimLaws.{all_set, all-at, all_in}

-- what a change of sources and sinks leaves alone
module _ {A : Type 0} (f : Node → A) (sourced : (n : Node) (es : List Edge) → f (record { sources = es; lines = n.lines; sinks = n.sinks }) ≡ f n) (sunk : (n : Node) (es : List Edge) → f (record { sources = n.sources; lines = n.lines; sinks = es }) ≡ f n) where
  pub sources-alone : (g : Graph) (p : ℕ) (es : List Edge) → map f (with_sources g p es) ≡ map f g
  sources-alone g p es = map-set_same f g p _ bare (sourced (node_at g p) es)

  pub sinks-alone : (g : Graph) (p : ℕ) (es : List Edge) → map f (with_sinks g p es) ≡ map f g
  sinks-alone g p es = map-set_same f g p _ bare (sunk (node_at g p) es)

  gain_source_alone : (g : Graph) (p i q : ℕ) → map f (gain_source g p i q) ≡ map f g
  gain_source_alone g p i q = pick (λ x. map f x ≡ map f g) (has_marked (node_at g q).sources p i) g _ refl (sources-alone g q _)

  gain-sink-alone : (g : Graph) (p j : ℕ) (e : Edge) → map f (gain_sink g p j e) ≡ map f g
  gain-sink-alone g p j e =
      let es : List Edge = (node_at g e.to).sinks in
      let new : List Edge = es ++ one (record { to = p; mark = none; text = no_text }) in
      let h : Graph = with_sinks g e.to new in
      let fs : List Edge = set (node_at h p).sources j (marked (length es) e) in
      pick (λ x. map f x ≡ map f g) (leads_to es p) g (with_sources h p fs) refl (sources-alone h p fs ∙ sinks-alone g e.to new)

  pub complete-alone : (g : Graph) → map f (complete g) ≡ map f g
  complete-alone g = steps_keep (λ h. map f h ≡ map f g) (λ h p i q e. gain_source_alone h p i q ∙ e) (λ h p j d e. gain-sink-alone h p j d ∙ e) g refl

  pub cut-alone : (g : Graph) (c s : ℕ) (e : Edge) → map f (cut_graph g c s e) ≡ map f g ++ (f (first_node c s e.to) ∷ f (second_node e.to) ∷ [])
  cut-alone g c s e =
      let g₁ : Graph = with_sinks g c (set (node_at g c).sinks s (pointed (length g) e)) in
      let hs : List Edge = map (turned c (suc (length g))) (node_at g₁ e.to).sources in
      let g₂ : Graph = with_sources g₁ e.to hs in
      map-append f g₂ (first_node c s e.to ∷ second_node e.to ∷ [])
      ∙ ap (λ (l : List A). l ++ (f (first_node c s e.to) ∷ f (second_node e.to) ∷ [])) (sources-alone g₁ e.to hs ∙ sinks-alone g c (set (node_at g c).sinks s (pointed (length g) e)))

abbrev pub lines_in : Graph → List (List Line)
lines_in g = map (λ (x : Node). x.lines) g

pub complete-lines : (g : Graph) → lines_in (complete g) ≡ lines_in g
complete-lines g = complete-alone (λ (x : Node). x.lines) (λ n es. refl) (λ n es. refl) g

pub complete-length : (g : Graph) → length (complete g) ≡ length g
complete-length g = sym (length-map (complete g) (λ (x : Node). x.lines)) ∙ ap (λ (l : List (List Line)). length l) (complete-lines g) ∙ length-map g (λ (x : Node). x.lines)

-- ---- a cut's box shows a given node: a sink leads to a given node, or to one that has no sinks and so is never on the path
abbrev pub Ends : ℕ → Graph → Edge → Type 0
Ends n g e = (e.to < n) ⊎ ((e.to < length g) × (degree g e.to ≡ 0))

abbrev pub Closed : ℕ → Graph → Type 0
Closed n g = All (λ (x : Node). All (Ends n g) x.sinks) g

ends-grown : (n : ℕ) (g h : Graph) → Grown g h → (e : Edge) → Ends n g e → Ends n h e
ends-grown n g h k e a = ⊎_elim (λ z. inl z) (λ z. inr (omega (arith, z.0, k.longer), k.same e.to z.0 ∙ z.1)) a

closed-grown : (n : ℕ) (g h : Graph) → Grown g h → (u : Graph) → All (λ (x : Node). All (Ends n g) x.sinks) u → All (λ (x : Node). All (Ends n h) x.sinks) u
closed-grown n g h k u a = all_map (λ x b. all_map (ends-grown n g h k) x.sinks b) u a

-- the sink that is cut leads to a given node
pub closed-given : (n : ℕ) (g : Graph) (c s : ℕ) → s < degree g c → 0 < degree g (get_or (node_at g c).sinks s no_edge).to → Closed n g → (get_or (node_at g c).sinks s no_edge).to < n
closed-given n g c s hs b a =
    let f : All (Ends n g) (node_at g c).sinks = all-at (λ (x : Node). All (Ends n g) x.sinks) g c bare tt a in
    ⊎_elim (λ z. z) (λ z. absurd (omega (arith, b, z.1))) (all_in (Ends n g) (node_at g c).sinks s no_edge hs f)

closed-cut : (n : ℕ) (w : Walk) (c s : ℕ) → n ≤ length w.graph → s < degree w.graph c → 0 < degree w.graph (get_or (node_at w.graph c).sinks s no_edge).to → Closed n w.graph →
    Closed n (cut w c s (get_or (node_at w.graph c).sinks s no_edge)).graph
closed-cut n w c s lo hs b a =
    let g : Graph = w.graph in
    let e : Edge = get_or (node_at g c).sinks s no_edge in
    let q : ℕ = e.to in
    let fs : List Edge = set (node_at g c).sinks s (pointed (length g) e) in
    let g₁ : Graph = with_sinks g c fs in
    let g₂ : Graph = with_sources g₁ q (map (turned c (suc (length g))) (node_at g₁ q).sources) in
    let new : List Node = first_node c s q ∷ second_node q ∷ [] in
    let h : Graph = (cut w c s e).graph in
    let size : length g₂ ≡ length g = length-set g₁ q _ ∙ length-set g c _ in
    let at : node_at h (length g) ≡ first_node c s q = (let z : length g ≡ length g₂ + 0 = omega (arith, size) in ap (λ (k : ℕ). node_at h k) z ∙ get_or-append-add g₂ new 0 bare) in
    let a' : All (λ (x : Node). All (Ends n h) x.sinks) g = closed-grown n g h (cut-grown w c s e) g a in
    let old : All (Ends n h) (node_at g c).sinks = all-at (λ (x : Node). All (Ends n h) x.sinks) g c bare tt a' in
    let new-end : Ends n h (pointed (length g) e) = inr (omega (arith, length_cut g c s e), ap (λ (x : Node). length x.sinks) at) in
    let b₁ : All (λ (x : Node). All (Ends n h) x.sinks) g₁ = all_set (λ (x : Node). All (Ends n h) x.sinks) g c _ (all_set (Ends n h) (node_at g c).sinks s (pointed (length g) e) new-end old) a' in
    let b₂ : All (λ (x : Node). All (Ends n h) x.sinks) g₂ = all_set (λ (x : Node). All (Ends n h) x.sinks) g₁ q _ (all-at (λ (x : Node). All (Ends n h) x.sinks) g₁ q bare tt b₁) b₁ in
    all_join (λ (x : Node). All (Ends n h) x.sinks) g₂ new b₂ (tt, ((inl (closed-given n g c s hs b a), tt), tt))

-- two and two, the same
abbrev pub Paired : {A : Type 0} → List A → Type 0
Paired [] = Unit {0}
Paired (x ∷ []) = ⊥
Paired (x ∷ y ∷ zs) = (x ≡ y) × Paired zs

paired-join : {A : Type 0} (xs ys : List A) → Paired xs → Paired ys → Paired (xs ++ ys)
paired-join [] ys p q = q
paired-join (x ∷ []) ys p q = absurd p
paired-join (x ∷ y ∷ zs) ys p q = (p.0, paired-join zs ys p.1 q)

pub paired_at : {A : Type 0} (xs : List A) (j : ℕ) (z : A) → Paired xs → get_or xs (2 * j) z ≡ get_or xs (2 * j + 1) z
paired_at [] j z p = refl
paired_at (x ∷ []) j z p = absurd p
paired_at (x ∷ y ∷ zs) zero z p = p.0
paired_at (x ∷ y ∷ zs) (suc j) z p =
    let a : 2 * suc j ≡ suc (suc (2 * j)) = omega arith in
    let b : 2 * suc j + 1 ≡ suc (suc (2 * j + 1)) = omega arith in
    ap (λ (k : ℕ). get_or (x ∷ y ∷ zs) k z) a ∙ paired_at zs j z p.1 ∙ sym (ap (λ (k : ℕ). get_or (x ∷ y ∷ zs) k z) b)

-- the lines ls of the nodes before cutting, and after them those of the cuts' boxes
pub record Lined (n : ℕ) (ls : List (List Line)) (g : Graph) : Type 0 where
  pub rest : List (List Line)
  pub lines : lines_in g ≡ ls ++ rest
  pub named : All (Named n) rest
  pub paired : Paired rest

module _ (n : ℕ) (ls : List (List Line)) where
  lined_cut : (w : Walk) (c s : ℕ) (e : Edge) → e.to < n → Lined n ls w.graph → Lined n ls (cut w c s e).graph
  lined_cut w c s e h l =
      let two : List (List Line) = one (number e.to) ∷ one (number e.to) ∷ [] in
      record {
        rest = l.rest ++ two;
        lines =
            cut-alone (λ (x : Node). x.lines) (λ n es. refl) (λ n es. refl) w.graph c s e
            ∙ ap (λ (k : List (List Line)). k ++ two) l.lines ∙ append_assoc ls l.rest two;
        named = all_join (Named n) l.rest two l.named (record { q = e.to; inside = h; line = refl }, (record { q = e.to; inside = h; line = refl }, tt));
        paired = paired-join l.rest two l.paired (refl, tt);
      }

  -- n given nodes, and others that no sink goes on from
  pub cutting_lined : (g : Graph) → n ≤ length g → Closed n g → lines_in g ≡ ls → Lined n ls (cutting g).graph × Closed n (cutting g).graph
  cutting_lined g lo k i =
      (cutting_keeps (length g) (reached g) (λ w. Lined n ls w.graph × Closed n w.graph) (λ w c x l. l)
      (λ w c s hc hs h m bz fr l. (lined_cut w c s _ (closed-given n w.graph c s hs bz l.1) l.0, closed-cut n w c s (omega arith) hs bz l.1)) g refl refl
      (record { rest = []; lines = i ∙ sym (append-nil ls); named = tt; paired = tt }, k)).keeps

-- ---- nodes after the first n that have no sinks, or are roots: cutting leaves them as they are
kept-cut : (n : ℕ) (g : Graph) (c s : ℕ) (e : Edge) (k : ℕ) → c < n → e.to < n → n ≤ k → k < length g → node_at (cut_graph g c s e) k ≡ node_at g k
kept-cut n g c s e k hc hq l h =
    let g₁ : Graph = with_sinks g c (set (node_at g c).sinks s (pointed (length g) e)) in
    let g₂ : Graph = with_sources g₁ e.to (map (turned c (suc (length g))) (node_at g₁ e.to).sources) in
    let size : length g₂ ≡ length g = length-set g₁ e.to _ ∙ length-set g c _ in
    get_or-append g₂ _ bare k (omega (arith, size)) ∙ get_or-set_other g₁ e.to k _ bare (λ z. omega arith) ∙ get_or-set_other g c k _ bare (λ z. omega arith)

abbrev pub Idle : ℕ → Graph → Type 0
Idle n g = (k : ℕ) → n ≤ k → k < length g → (degree g k ≡ 0) ⊎ ((node_at g k).sources ≡ [])

pub cutting-kept : (n : ℕ) (g : Graph) → n ≤ length g → Closed n g → Idle n g → (k : ℕ) → n ≤ k → k < length g → node_at (cutting g).graph k ≡ node_at g k
cutting-kept n g lo cl idle =
    (cutting_keeps (length g) (reached g) (λ w. ((k : ℕ) → n ≤ k → k < length g → node_at w.graph k ≡ node_at g k) × Closed n w.graph) (λ w c x h. h)
    (λ w c s hc hs hq m bz fr h.
    let q-in : (get_or (node_at w.graph c).sinks s no_edge).to < n = closed-given n w.graph c s hs bz h.1 in
    let c-in : c < n = given_in w c s hc hs fr h.0 (ltb c n) refl in
    (λ k l i. kept-cut n w.graph c s (get_or (node_at w.graph c).sinks s no_edge) k c-in q-in l (omega arith) ∙ h.0 k l i, closed-cut n w c s (omega arith) hs bz h.1))
    g refl refl (λ k l i. refl, cl)).keeps.0
  where
    given_in : (w : Walk) (c s : ℕ) → c < length g → s < degree w.graph c → seen_at (reached g) c ≡ Unseen → ((k : ℕ) → n ≤ k → k < length g → node_at w.graph k ≡ node_at g k) → (b : Bool) → ltb c n ≡ b → c < n
    given_in w c s hc hs fr f true z = ltb-true c n z
    given_in w c s hc hs fr f false z =
        let l : n ≤ c = ltb-false c n z in
        let d : s < degree g c = subst (λ (x : Node). s < length x.sinks) (f c l hc) hs in
        ⊎_elim (λ o. absurd (omega (arith, o, d))) (λ o. absurd (root_seen g c hc o fr)) (idle c l hc)

-- ---- the graph of a board
abbrev pub given_lines : Board → List (List Line)
given_lines ps = map (λ (p : GivenNode). map given p.lines) ps

pub completed-length : (ps : Board) → length (complete (given_graph ps)) ≡ length ps
completed-length ps = complete-length (given_graph ps) ∙ length-map ps given_node

pub given-lines : (ps : Board) → lines_in (given_graph ps) ≡ given_lines ps
given-lines [] = refl
given-lines (p ∷ ps) = cc (given-lines ps)
