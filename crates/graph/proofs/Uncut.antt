-- The graph before cutting, completed and joined: what holds of it.
-- Assumes nothing.
use Prim.Native.Nat.{ℕ, suc, ◌+◌, ◌-◌, ◌*◌, ◌≤◌, ◌<◌}
use native.Mathlib.Omega.{arith}
use mathlib.Core.Path.{◌≡◌, refl, ap, sym, ◌∙◌, subst}
use mathlib.Core.Option.{Option, none, some}
use mathlib.Core.Logic.{inl, inr, ⊎_elim}
use mathlib.Core.List.{List, [], ◌∷◌, ◌++◌, map, append_assoc}
use lib.ListN.{length, get_or, set, length-map, length-append, get_or-map, get_or-append}
use lib.Seq.{get_or-append-add}
use Rattle.laws.specs.Lists.{All, one}
use Rattle.laws.proofs.Lists.{all_map, all_join}
use Rattle.laws.proofs.Tests.{pick}
use Rattle.chart.specs.Chart.{Part, End, Board, ends_of}
use Rattle.chart.specs.Chart.{Node as GivenNode}
use Rattle.chart.specs.declared.Setting.{Setting}
use Rattle.chart.specs.Accepted.{Aimed as AimedEnd, Formed}
use Rattle.graph.specs.Graph.{Line, given, Edge, Node, Graph, no_text, no_edge, bare, unmarked, given_node, given_graph, node_at, degree, leads_to, has_marked, with_sources, with_sinks}
use Rattle.graph.specs.Completion.{gain_source, marked, gain_sink, complete}
use Rattle.graph.specs.Cutting.{turned, pointed, first_node, second_node, cut_graph, reached, cutting}
use Rattle.graph.specs.Joining.{leads, leads_of, joined, uncut}
use Rattle.graph.specs.Laws.{Aimed, SinkAt, Names, Marked, Begins, Texts, Unmarked, ends, Named, SourceTo, OfSink, OfSource, BoxOf, OwnBox}
use Rattle.graph.specs.Outcome.{texts_in}
use Rattle.graph.proofs.Keeps.{cutting_keeps}
use Rattle.graph.proofs.Completes.{SourceAt, complete-holds}
use Rattle.graph.proofs.LineLaws.{lines_in, complete-lines, complete-length, Closed, Idle, paired_at, Lined, cutting_lined, cutting-kept, given_lines, completed-length, given-lines}
use Rattle.graph.proofs.AimLaws.{all_set, all-at, all_in, complete-aims}
use Rattle.graph.proofs.MarkLaws.{Good, complete-good}
use Rattle.graph.proofs.TextLaws.{complete-texts}
use Rattle.graph.proofs.RoomLaws.{few_sources, few_sinks, complete_leads}
use Rattle.graph.proofs.Joins.{boxes_from, joined-long}
use Rattle.graph.proofs.JoinLaws.{Off, OffIn, boxes-off_in, joined-aims, joined-none, joined-texts, joined-boxes, own-sink, own_source, joined-marks, joined-closed, joined-lines, boxes-off, joined-unmarked, outers, leads-all, joined-sources, joined-sinks}
use Rattle.graph.proofs.Orders.{Textless}

-- ---- no sink has a mark
abbrev pub Plain : Edge → Type 0
Plain e = e.mark ≡ none

abbrev PlainSinks : Node → Type 0
PlainSinks x = All Plain x.sinks

plain_at : (g : Graph) (p : ℕ) → Unmarked g → All Plain (node_at g p).sinks
plain_at g p a = all-at PlainSinks g p bare tt a

plain_source : (n : ℕ) (g : Graph) (p i q : ℕ) → p < n → q < length g → SinkAt g p i q → Unmarked g → Unmarked (gain_source g p i q)
plain_source n g p i q l t s a = pick Unmarked (has_marked (node_at g q).sources p i) g _ a (all_set PlainSinks g q _ (plain_at g q a) a)

plain-sink : (n : ℕ) (g : Graph) (p j : ℕ) (e : Edge) → p < n → e.to < length g → SourceAt g p j e → Unmarked g → Unmarked (gain_sink g p j e)
plain-sink n g p j e l t s a =
    let es : List Edge = (node_at g e.to).sinks in
    let new : List Edge = one (record { to = p; mark = none; text = no_text }) in
    let h : Graph = with_sinks g e.to (es ++ new) in
    let b : Unmarked h = all_set PlainSinks g e.to _ (all_join Plain es new (plain_at g e.to a) (refl, tt)) a in
    pick Unmarked (leads_to es p) g (with_sources h p (set (node_at h p).sources j (marked (length es) e))) a (all_set PlainSinks h p _ (plain_at h p b) b)

plain-cut : (g : Graph) (c s : ℕ) → s < degree g c → Unmarked g → Unmarked (cut_graph g c s (get_or (node_at g c).sinks s no_edge))
plain-cut g c s l a =
    let e : Edge = get_or (node_at g c).sinks s no_edge in
    let fs : List Edge = set (node_at g c).sinks s (pointed (length g) e) in
    let g₁ : Graph = with_sinks g c fs in
    let g₂ : Graph = with_sources g₁ e.to (map (turned c (suc (length g))) (node_at g₁ e.to).sources) in
    let a₁ : Unmarked g₁ = all_set PlainSinks g c _ (all_set Plain (node_at g c).sinks s (pointed (length g) e) (all_in Plain (node_at g c).sinks s no_edge l (plain_at g c a)) (plain_at g c a)) a in
    let a₂ : Unmarked g₂ = all_set PlainSinks g₁ e.to _ (plain_at g₁ e.to a₁) a₁ in
    all_join PlainSinks g₂ (first_node c s e.to ∷ second_node e.to ∷ []) a₂ (tt, ((refl, tt), tt))

-- ---- the given graph
ends-plain : (es : List End) → All Plain (map unmarked es)
ends-plain [] = tt
ends-plain (e ∷ es) = (refl, ends-plain es)

pub given-plain : (ps : Board) → Unmarked (given_graph ps)
given-plain [] = tt
given-plain (p ∷ ps) = (ends-plain p.sinks, given-plain ps)

-- a bound of the given targets
module _ (w : Setting) (s : List ℕ) (n m : ℕ) (bound : (e : End) → AimedEnd w s n e → e.to < m) where
  ends-aimed : (es : List End) → All (AimedEnd w s n) es → All (λ (e : Edge). e.to < m) (map unmarked es)
  ends-aimed [] a = tt
  ends-aimed (e ∷ es) a = (bound e a.0, ends-aimed es a.1)

  pub given-aimed : (ps : Board) → All (Formed w s n) ps → Aimed m (given_graph ps)
  given-aimed [] a = tt
  given-aimed (p ∷ ps) a = (record { sources = ends-aimed p.sources a.0.sources; sinks = ends-aimed p.sinks a.0.sinks }, given-aimed ps a.1)

unnamed : (g : Graph) (p : ℕ) (es : List Edge) → All Plain es → All (Names g p) es
unnamed g p es a = all_map (λ e z i m. let y : ◌≡◌ {A = ℕ} 0 1 = apart i (sym z ∙ m) in absurd (omega arith)) es a
  where
    apart : (i : ℕ) → ◌≡◌ {A = Option ℕ} none (some i) → ◌≡◌ {A = ℕ} 0 1
    apart i e = cc

sources-plain : (ps : Board) → All (λ (x : Node). All Plain x.sources) (given_graph ps)
sources-plain [] = tt
sources-plain (p ∷ ps) = (ends-plain p.sources, sources-plain ps)

pub given-marks : (ps : Board) → Marked (given_graph ps)
given-marks ps p = unnamed (given_graph ps) p (node_at (given_graph ps) p).sources (all-at (λ (x : Node). All Plain x.sources) (given_graph ps) p bare tt (sources-plain ps))

pub given-ends : (ps : Board) → ends (λ (x : Node). x.sources) (given_graph ps) + ends (λ (x : Node). x.sinks) (given_graph ps) ≡ ends_of ps
given-ends [] = refl
given-ends (p ∷ ps) = omega (arith, given-ends ps, length-map p.sources unmarked, length-map p.sinks unmarked)

-- ---- lines by number
pub lines_at_lem : (g : Graph) (k : ℕ) → (node_at g k).lines ≡ get_or (lines_in g) k []
lines_at_lem g k = sym (get_or-map (λ (x : Node). x.lines) g k bare)

-- ---- the graph of a board
module _ (ps : Board) where
  abbrev g₀ : Graph
  g₀ = given_graph ps

  abbrev w : Graph
  w = complete g₀

  abbrev n : ℕ
  n = length ps

  given-long : length g₀ ≡ n
  given-long = length-map ps given_node

  pub whole_long : length w ≡ n
  whole_long = completed-length ps

  pub uncut-is : uncut ps ≡ joined (length w) w
  unfolding uncut
  uncut-is = ap (λ (k : ℕ). joined k w) (sym whole_long)

  given-good : Good (length g₀) g₀
  given-good = record { long = refl; marks = given-marks ps }

  whole-good : Good (length g₀) w
  whole-good = complete-good (length g₀) g₀ given-good

  -- as many leads as were given
  same-outers : (outers (λ (x : Node). x.sinks) (length w) w ≡ outers (λ (x : Node). x.sinks) (length g₀) g₀) × (outers (λ (x : Node). x.sources) (length w) w ≡ outers (λ (x : Node). x.sources) (length g₀) g₀)
  same-outers = let a = complete_leads (length g₀) g₀ refl in rw (complete-length g₀) (a.sinks, a.sources)

  pub same-leads : leads (length w) w ≡ leads_of ps
  same-leads = omega (arith, leads-all (length w) w, leads-all (length g₀) g₀, same-outers.0, same-outers.1) ∙ ap (λ (k : ℕ). leads k g₀) given-long

  pub uncut-long : length (uncut ps) ≡ n + leads_of ps
  uncut-long = ap length uncut-is ∙ joined-long w ∙ omega (arith, whole_long, same-leads)

  pub uncut-aims : Aimed (length (uncut ps)) (uncut ps)
  uncut-aims = rw uncut-is (joined-aims w)

  pub uncut-marks : Marked (uncut ps)
  uncut-marks = rw uncut-is (joined-marks w whole-good.marks)

  pub uncut-plain : Unmarked (uncut ps)
  uncut-plain =
      rw uncut-is (joined-unmarked w (complete-holds (length g₀) Unmarked (plain_source (length g₀)) (plain-sink (length g₀)) g₀ refl (given-plain ps)))

  pub uncut-closed : Closed n (uncut ps)
  uncut-closed = subst (λ (k : ℕ). Closed k (uncut ps)) whole_long (rw uncut-is (joined-closed w))

  -- at most as many sources, and as many sinks, as ends were given
  module _ (m : ℕ) (few : ends_of ps ≤ m) where
    given-few : ends (λ (x : Node). x.sources) g₀ + ends (λ (x : Node). x.sinks) g₀ ≤ m
    given-few = omega (arith, given-ends ps)

    pub uncut-sources : ends (λ (x : Node). x.sources) (uncut ps) ≤ m
    uncut-sources = rw uncut-is (omega (arith, joined-sources w, few_sources g₀ m given-good given-few, same-outers.0))

    pub uncut-sinks : ends (λ (x : Node). x.sinks) (uncut ps) ≤ m
    uncut-sinks =
        let a : outers (λ (x : Node). x.sources) (length g₀) w ≡ outers (λ (x : Node). x.sources) (length w) w = ap (λ (k : ℕ). outers (λ (x : Node). x.sources) k w) (sym (complete-length g₀)) in
        rw uncut-is (omega (arith, joined-sinks w, few_sinks g₀ m given-good given-few, a))

  -- texts and lines
  begins_as : (old new more : List Part) → more ≡ new → Begins old new → Begins old more
  begins_as old new more e b = record { blanks = b.blanks; texts = e ∙ b.texts }

  pub uncut-texts : (k : ℕ) → k < n → Texts g₀ (uncut ps) k
  uncut-texts k h =
      let j = joined-texts w k (omega (arith, whole_long)) in
      let t = complete-texts g₀ k in
      rw uncut-is (record { sources = begins_as _ _ _ j.0 t.sources; sinks = begins_as _ _ _ j.1 t.sinks })

  abbrev ls : List (List Line)
  ls = given_lines ps

  -- the lines of the leads' boxes
  pub offs : List (List Line)
  offs = lines_in (boxes_from (length w) 0 w)

  pub uncut-lines : lines_in (uncut ps) ≡ ls ++ offs
  unfolding offs
  uncut-lines = ap lines_in uncut-is ∙ joined-lines w ∙ ap (λ (l : List (List Line)). l ++ lines_in (boxes_from (length w) 0 w)) (complete-lines g₀ ∙ given-lines ps)

  pub uncut-offs : All (Off n) offs
  unfolding offs
  uncut-offs = subst (λ (k : ℕ). All (Off k) (lines_in (boxes_from (length w) 0 w))) whole_long (boxes-off w)

  -- where the given targets are below m, those that the boxes show are
  pub uncut-offs_in : (m : ℕ) → n ≤ m → Aimed m g₀ → All (OffIn n m) offs
  unfolding offs
  uncut-offs_in m l a = subst (λ (k : ℕ). All (OffIn k m) (lines_in (boxes_from (length w) 0 w))) whole_long (boxes-off_in m w (complete-aims m (length g₀) (omega (arith, given-long)) g₀ refl a))

  -- the boxes
  pub uncut-boxes : (k : ℕ) → n ≤ k → k < n + leads_of ps → BoxOf w (uncut ps) n k (node_at (uncut ps) k)
  uncut-boxes k l h =
      subst (λ (i : ℕ). BoxOf w (uncut ps) i k (node_at (uncut ps) k)) whole_long
      (rw uncut-is (joined-boxes w whole-good.marks k (omega (arith, whole_long)) (omega (arith, whole_long, same-leads))))

  -- each lead has its own box
  own_as : (Of : Graph → ℕ → Node → Type 0) (t : ℕ) → OwnBox (Of (joined (length w) w)) (joined (length w) w) (length w) (leads (length w) w) t → OwnBox (Of (uncut ps)) (uncut ps) n (leads_of ps) t
  own_as Of t o = rw uncut-is (record { at = o.at; after = omega (arith, whole_long); before = omega (arith, whole_long, same-leads); line = o.line; box = o.box })

  pub uncut-own-sinks : (p i t : ℕ) → p < n → SinkAt w p i t → n ≤ t → OwnBox (OfSink w (uncut ps) p i t) (uncut ps) n (leads_of ps) t
  uncut-own-sinks p i t h s l = own_as (λ j. OfSink w j p i t) t (own-sink w p i t (omega (arith, whole_long)) s (omega (arith, whole_long)))

  pub uncut-own-sources : (p i t : ℕ) → p < n → SourceTo w p i t → n ≤ t → OwnBox (OfSource w (uncut ps) p i t) (uncut ps) n (leads_of ps) t
  uncut-own-sources p i t h s l = own_as (λ j. OfSource w j p i t) t (own_source w p i t (omega (arith, whole_long)) whole-good.marks s (omega (arith, whole_long)))

  -- nothing is joined where nothing leads outside
  pub uncut-none : leads_of ps ≡ 0 → uncut ps ≡ w
  uncut-none h = uncut-is ∙ joined-none w (same-leads ∙ h)

  -- ---- and after cutting
  uncut_idle : Idle n (uncut ps)
  uncut_idle k l h = ⊎_elim (λ s. inl (ap length s.sinks)) (λ s. inr s.sources) (uncut-boxes k l (omega (arith, uncut-long))).end

  pub cut-kept : (k : ℕ) → n ≤ k → k < n + leads_of ps → node_at (cutting (uncut ps)).graph k ≡ node_at (uncut ps) k
  cut-kept k l h = cutting-kept n (uncut ps) (omega (arith, uncut-long)) uncut-closed uncut_idle k l (omega (arith, uncut-long))

  pub cut_lined : Lined n (ls ++ offs) (cutting (uncut ps)).graph
  cut_lined = (cutting_lined n (ls ++ offs) (uncut ps) (omega (arith, uncut-long)) uncut-closed uncut-lines).0

  pub cut-rest : lines_in (cutting (uncut ps)).graph ≡ ls ++ (offs ++ cut_lined.rest)
  cut-rest = cut_lined.lines ∙ append_assoc ls offs cut_lined.rest

  off-textless : (l : List Line) → Off n l → Textless l
  off-textless l o = ap texts_in o.line

  named-textless : (l : List Line) → Named n l → Textless l
  named-textless l o = ap texts_in o.line

  pub offs-textless : All Textless offs
  offs-textless = all_map off-textless offs uncut-offs

  pub rest-textless : All Textless (offs ++ cut_lined.rest)
  rest-textless = all_join Textless offs cut_lined.rest offs-textless (all_map named-textless cut_lined.rest cut_lined.named)

  pub cut-plain : Unmarked (cutting (uncut ps)).graph
  cut-plain =
      (cutting_keeps (length (uncut ps)) (reached (uncut ps)) (λ u. Unmarked u.graph) (λ u c x h. h) (λ u c s hc hs hq lo bz fr h. plain-cut u.graph c s hs h) (uncut ps) refl refl uncut-plain).keeps

  ls-long : length ls ≡ n
  ls-long = length-map ps (λ (p : GivenNode). map given p.lines)

  -- given node k keeps its lines, and a cut's box has a number
  pub lines-kept : (k : ℕ) → k < n → (node_at (cutting (uncut ps)).graph k).lines ≡ (node_at g₀ k).lines
  lines-kept k h =
      let g : Graph = (cutting (uncut ps)).graph in
      lines_at_lem g k ∙ ap (λ (m : List (List Line)). get_or m k []) cut-rest ∙ get_or-append ls (offs ++ cut_lined.rest) [] k (omega (arith, ls-long))
      ∙ ap (λ (m : List (List Line)). get_or m k []) (sym (given-lines ps)) ∙ sym (lines_at_lem g₀ k)

  -- the boxes of the cuts come after the given nodes and the leads' boxes
  abbrev before-cuts : List (List Line)
  before-cuts = ls ++ offs

  before-long : length before-cuts ≡ n + leads_of ps
  before-long = sym (ap (λ (y : List (List Line)). length y) uncut-lines) ∙ length-map (uncut ps) (λ (x : Node). x.lines) ∙ uncut-long

  new-at : (j : ℕ) → (node_at (cutting (uncut ps)).graph (n + leads_of ps + j)).lines ≡ get_or cut_lined.rest j []
  new-at j =
      let g : Graph = (cutting (uncut ps)).graph in
      lines_at_lem g (n + leads_of ps + j) ∙ ap (λ (y : List (List Line)). get_or y (n + leads_of ps + j) []) cut_lined.lines
      ∙ ap (λ (m : ℕ). get_or (before-cuts ++ cut_lined.rest) (m + j) []) (sym before-long) ∙ get_or-append-add before-cuts cut_lined.rest j []

  pub lines_new : (k : ℕ) → n + leads_of ps ≤ k → k < length (cutting (uncut ps)).graph → Named n (node_at (cutting (uncut ps)).graph k).lines
  lines_new k h m =
      let g : Graph = (cutting (uncut ps)).graph in
      let z : n + leads_of ps + (k - (n + leads_of ps)) ≡ k = omega arith in
      let long : length g ≡ length before-cuts + length cut_lined.rest =
      sym (length-map g (λ (x : Node). x.lines)) ∙ ap (λ (y : List (List Line)). length y) cut_lined.lines ∙ length-append before-cuts cut_lined.rest in
      subst (λ (i : ℕ). Named n (node_at g i).lines) z
      (rw (new-at (k - (n + leads_of ps))) (all_in (Named n) cut_lined.rest (k - (n + leads_of ps)) [] (omega (arith, before-long, long)) cut_lined.named))

  pub lines-halves : (j : ℕ) → (node_at (cutting (uncut ps)).graph (n + leads_of ps + 2 * j)).lines ≡ (node_at (cutting (uncut ps)).graph (n + leads_of ps + 2 * j + 1)).lines
  lines-halves j =
      let e : n + leads_of ps + (2 * j + 1) ≡ n + leads_of ps + 2 * j + 1 = omega arith in
      new-at (2 * j) ∙ paired_at cut_lined.rest j [] cut_lined.paired ∙ sym (new-at (2 * j + 1)) ∙ ap (λ (k : ℕ). (node_at (cutting (uncut ps)).graph k).lines) e

  -- the line of a lead's box, where the given targets are below m
  pub lines-off : (m : ℕ) → n ≤ m → Aimed m g₀ → (k : ℕ) → n ≤ k → k < n + leads_of ps → OffIn n m (node_at (uncut ps) k).lines
  lines-off m l a k h i =
      let z : length ls + (k - n) ≡ k = omega (arith, ls-long) in
      let e : (node_at (uncut ps) k).lines ≡ get_or offs (k - n) [] =
      lines_at_lem (uncut ps) k ∙ ap (λ (y : List (List Line)). get_or y k []) uncut-lines ∙ ap (λ (j : ℕ). get_or (ls ++ offs) j []) (sym z) ∙ get_or-append-add ls offs (k - n) [] in
      rw e (all_in (OffIn n m) offs (k - n) [] (omega (arith, before-long, length-append ls offs, ls-long)) (uncut-offs_in m l a))
