-- The laws of a completed graph, and of one that is drawn, together, and the contract of `graph`.
-- Assumes nothing.
use Prim.Native.Nat.{ℕ, zero, suc, ◌+◌, ◌-◌, ◌≤◌, ◌<◌}
use native.Mathlib.Omega.{arith}
use mathlib.Core.Path.{◌≡◌, refl, ap, sym, ◌∙◌, subst}
use mathlib.Core.Bool.{Bool, true, false, cond}
use mathlib.Core.Option.{Option, none, some}
use mathlib.Core.List.{List, [], ◌∷◌, ◌++◌, map}
use lib.Dec.{leb}
use lib.ListN.{length, get_or, length-map, length-append}
use borrow.Author.Tests.{leb-true}
use Rattle.laws.specs.Lists.{All, flat, padded}
use Rattle.laws.proofs.Lists.{all_map, all_join, all-flat}
use Rattle.std.specs.Prelude.{Result, Ok}
use Rattle.refusals.specs.Refusals.{numbers_in}
use Rattle.refusals.specs.declared.Refusal.{Refusal}
use Rattle.refusals.specs.declared.Refusal.TheVariants.{ManyBoxes}
use Rattle.chart.specs.declared.Setting.{Setting}
use Rattle.chart.specs.declared.Setting.TheVariants.{Strict}
use Rattle.chart.specs.Chart.{Part, Board, Reading, ready as accepted, refusal as refused, chart}
use Rattle.chart.specs.Accepted.{Accepted}
use Rattle.chart.proofs.Accepts.{accepted as accepts}
use Rattle.graph.specs.declared.Item.{Item}
use Rattle.graph.specs.declared.Name.{Name}
use Rattle.graph.specs.declared.Name.TheVariants.{Nothing}
use Rattle.graph.specs.declared.Tables.{Tables}
use Rattle.graph.specs.Graph.{Line, given, Edge, Node, Graph, bare, given_node, given_graph, node_at, degree}
use Rattle.graph.specs.Completion.{complete}
use Rattle.graph.specs.Joining.{leads_of, uncut}
use Rattle.graph.specs.Cutting.{Walk, cutting}
use Rattle.graph.specs.Graphed.{Dag, dag_of, ready, refusal, boxed, drawn, graphed}
use Rattle.graph.specs.code.Tables.{items_of, Linked}
use Rattle.graph.specs.Laws.{Aimed, Names, Named, Marked, Unmarked, ends, Laws, Walks}
use Rattle.graph.specs.Completed.{CompletedLaws}
use Rattle.graph.specs.Outcome.{held_mark, item_of, sources_from, sinks_from, texts_from, name_of, names_of, tables_of, answer_of, IsGraph}
use Rattle.graph.specs.code.Graphs.{dag_in, graphed_of, NameWithin, Sound, Graphs, IsAnswer}
use Rattle.graph.proofs.LineLaws.{lines_in, given_lines, complete-lines, completed-length}
use Rattle.graph.proofs.AimLaws.{cutting-aims, cutting-count}
use Rattle.graph.proofs.MarkLaws.{cutting-marks}
use Rattle.graph.proofs.MutualLaws.{complete_mutual}
use Rattle.graph.proofs.TextLaws.{complete-texts, cutting-texts}
use Rattle.graph.proofs.RoomLaws.{cutting-ends}
use Rattle.graph.proofs.JoinLaws.{OffIn}
use Rattle.graph.proofs.DepthLaws.{reached-enough, cutting-enough}
use Rattle.graph.proofs.Orders.{table-back}
use Rattle.graph.proofs.Uncut.{Plain, given-aimed, lines_at_lem, uncut-long, uncut-aims, uncut-marks, uncut-plain, uncut-none, uncut-sources, uncut-sinks, uncut-texts, lines-off, uncut-boxes, uncut-own-sinks, uncut-own-sources, uncut-offs_in, offs, cut_lined, cut-rest, cut-kept, cut-plain, lines-kept, lines_new, lines-halves}
use Rattle.graph.proofs.NoLeads.{none-aimed}
use Rattle.graph.proofs.Begins.{cut-lines, few-lines}

-- ---- the laws of the graph of an accepted board
boxed-ready : (w : Walk) (d : Dag) → (b : Bool) → leb (length w.graph) 48 ≡ b → cond b (ready (dag_of w)) (refusal ManyBoxes) ≡ ready d → (d ≡ dag_of w) × (length w.graph ≤ 48)
boxed-ready w d true t e = (cc, leb-true (length w.graph) 48 t)
boxed-ready w d false t e = let z : ◌≡◌ {A = ℕ} 0 1 = cc in absurd (omega arith)

module _ (v : Setting) (s : List ℕ) (ps : Board) (r : chart v s ≡ accepted ps) (d : Dag) (e : boxed (cutting (uncut ps)) ≡ ready d) where
  abbrev a : Accepted v s ps
  a = accepts v s ps r

  abbrev g : Graph
  g = uncut ps

  abbrev w : Walk
  w = cutting g

  abbrev is : (d ≡ dag_of w) × (length w.graph ≤ 48)
  is = boxed-ready w d (leb (length w.graph) 48) refl e

  gathered : Laws v s (dag_of w)
  gathered =
      record {
        board = ps;
        read = r;
        walk = refl;
        given = a.count;
        nodes = omega (arith, cutting-count g, uncut-long ps);
        strict = λ z. none-aimed (length ps) (given_graph ps) (given-aimed v s (length ps) (length ps) (λ e h. h.target z) ps a.formed);
        boxes = is.1;
        aimed = cutting-aims g (uncut-aims ps);
        sources = omega (arith, uncut-sources ps 64 a.ends, (cutting-ends g).0, cutting-count g, is.1);
        sinks = omega (arith, uncut-sinks ps 64 a.ends, (cutting-ends g).1, cutting-count g, is.1);
        marks = cutting-marks g (uncut-marks ps);
        unmarked = cut-plain ps;
        lines = lines-kept ps;
        texts = cutting-texts (given_graph ps) g (length ps) (omega (arith, uncut-long ps)) (uncut-texts ps);
        sinks_joined = uncut-own-sinks ps;
        sources_joined = uncut-own-sources ps;
        joined = uncut-boxes ps;
        kept = cut-kept ps;
        inserted = lines_new ps;
        halves = λ j h. lines-halves ps j;
      }

  pub board-laws : Laws v s d
  board-laws = subst (Laws v s) (sym is.0) gathered

-- ---- the laws of the completed graph of a chart that strict accepts: no lead, so nothing is joined
module _ (s : List ℕ) (ps : Board) (r : chart Strict s ≡ accepted ps) where
  abbrev given-of : Graph
  given-of = given_graph ps

  abbrev whole : Graph
  whole = complete given-of

  accepted-of : Accepted Strict s ps
  accepted-of = accepts Strict s ps r

  board-aims : Aimed (length ps) given-of
  board-aims = given-aimed Strict s (length ps) (length ps) (λ e h. h.target refl) ps accepted-of.formed

  pub board-none : leads_of ps ≡ 0
  board-none = none-aimed (length ps) given-of board-aims

  pub strict-uncut : uncut ps ≡ whole
  strict-uncut = uncut-none ps board-none

  pub completed-laws : CompletedLaws s (given_graph ps) (complete (given_graph ps))
  completed-laws =
      record {
        nodes = completed-length ps ∙ accepted-of.count;
        few = omega (arith, completed-length ps, accepted-of.nodes);
        aimed = subst (λ (g : Graph). Aimed (length g) g) strict-uncut (uncut-aims ps);
        both = complete_mutual given-of (subst (λ (k : ℕ). Aimed k given-of) (sym (length-map ps given_node)) board-aims);
        sources = subst (λ (g : Graph). ends (λ (x : Node). x.sources) g ≤ 64) strict-uncut (uncut-sources ps 64 accepted-of.ends);
        sinks = subst (λ (g : Graph). ends (λ (x : Node). x.sinks) g ≤ 64) strict-uncut (uncut-sinks ps 64 accepted-of.ends);
        marks = subst Marked strict-uncut (uncut-marks ps);
        unmarked = subst Unmarked strict-uncut (uncut-plain ps);
        lines = λ k h. lines_at_lem whole k ∙ ap (λ (m : List (List Line)). get_or m k []) (complete-lines given-of) ∙ sym (lines_at_lem given-of k);
        texts = λ k h. complete-texts given-of k;
      }

-- the walks of a board: no depth is used up
pub board-walks : (ps : Board) → Walks ps
board-walks ps = record { roots = reached-enough (uncut ps); starts = cutting-enough (uncut ps) }

pub laws-drawn : (w : Setting) (s : List ℕ) (d : Dag) → (c : Reading) → chart w s ≡ c → drawn c ≡ ready d → Laws w s d
laws-drawn w s d (accepted ps) r e = board-laws w s ps r d e
laws-drawn w s d (refused why) r e = let z : ◌≡◌ {A = ℕ} 0 1 = cc in absurd (omega arith)

-- the laws of every graph that is drawn
pub graph-laws : (w : Setting) (s : List ℕ) (d : Dag) → graphed w s ≡ ready d → Laws w s d
unfolding graphed
graph-laws w s d e = laws-drawn w s d (chart w s) refl e

-- ---- the tables of the graph
pub flat-long : (list : Node → List Edge) (p : ℕ) (g : Graph) → length (flat item_of list p g) ≡ ends list g
flat-long list p [] = refl
flat-long list p (x ∷ g) =
    length-append (map (item_of p) (list x)) (flat item_of list (suc p) g)
    ∙ rw (length-map (list x) (item_of p), flat-long list (suc p) g)

pub all_from : {A : Type 0} (P : A → Type 0) (xs : List A) (d : A) → ((i : ℕ) → P (get_or xs i d)) → All P xs
all_from P [] d f = tt
all_from P (x ∷ xs) d f = (f 0, all_from P xs d (λ i. f (suc i)))

degree_le : (g : Graph) (q : ℕ) → degree g q ≤ ends (λ (x : Node). x.sinks) g
degree_le [] q = omega arith
degree_le (x ∷ g) zero = omega arith
degree_le (x ∷ g) (suc q) = omega (arith, degree_le g q)

abbrev Low : Edge → Type 0
Low e = held_mark e.mark ≤ 88

low-mark : (g : Graph) (p : ℕ) → ends (λ (x : Node). x.sinks) g ≤ 88 → (e : Edge) → Names g p e → Low e
low-mark g p h e n = go e.mark refl
  where
    go : (m : Option ℕ) → e.mark ≡ m → held_mark m ≤ 88
    go none z = omega arith
    go (some i) z = omega (arith, (n i z).inside, degree_le g e.to)

pub given_name : (ts : List Part) → name_of (map given ts) ≡ Nothing
given_name [] = refl
given_name (t ∷ ts) = given_name ts

-- ---- names: of a given node's lines, of a lead's box, of a cut's
all-padded : {A : Type 0} (P : A → Type 0) (m : ℕ) (z : A) (xs : List A) → P z → All P xs → All P (padded m z xs)
all-padded P zero z xs h a = tt
all-padded P (suc m) z [] h a = (h, all-padded P m z [] h tt)
all-padded P (suc m) z (x ∷ xs) h a = (a.0, all-padded P m z xs h a.1)

given-names : (ps : Board) → All (λ (l : List Line). NameWithin (name_of l)) (given_lines ps)
given-names [] = tt
given-names (p ∷ ps) = (subst NameWithin (sym (given_name p.lines)) tt, given-names ps)

off_name : (n : ℕ) (l : List Line) → OffIn n 256 l → NameWithin (name_of l)
off_name n l o = rw o.line (omega (arith, o.given, o.past), o.small)

number_name : (n : ℕ) → n ≤ 32 → (l : List Line) → Named n l → NameWithin (name_of l)
number_name n h l o = rw o.line (omega (arith, o.inside))

all-names : (ls : List (List Line)) → All (λ (l : List Line). NameWithin (name_of l)) ls → All NameWithin (map name_of ls)
all-names [] a = tt
all-names (l ∷ ls) a = (a.0, all-names ls a.1)

map-names : (g : Graph) → names_of g ≡ map name_of (lines_in g)
map-names [] = refl
map-names (x ∷ g) = cc (map-names g)

-- the chart is made of bytes
abbrev pub Bytes : List ℕ → Type 0
Bytes s = (i : ℕ) → get_or s i 0 < 256

-- a bound of the given targets; a target is one byte of the chart
given-bytes : (w : Setting) (s : List ℕ) → Bytes s → (ps : Board) → chart w s ≡ accepted ps → Aimed 256 (given_graph ps)
given-bytes w s b ps r = given-aimed w s (length ps) 256 (λ e h. omega (arith, h.fits.byte, b (e.text.at - 2))) ps (accepts w s ps r).formed

-- a lead's box shows a target that is 1 to 255
pub box-byte : (w : Setting) (s : List ℕ) → Bytes s → (d : Dag) (l : Laws w s d) (k : ℕ) → length l.board ≤ k → k < length l.board + leads_of l.board → OffIn (length l.board) 256 (node_at d.graph k).lines
box-byte w s b d l k h i =
    let ps : Board = l.board in
    rw (l.kept k h i) (lines-off ps 256 (omega (arith, (accepts w s ps l.read).nodes)) (given-bytes w s b ps l.read) k h i)

-- ---- the tables of a graph that is drawn
module _ (w : Setting) (s : List ℕ) (t : Tables) (e : t ≡ tables_of (dag_in t)) where
  abbrev d : Dag
  d = dag_in t

  module _ (l : Laws w s d) where
    abbrev u : Graph
    u = d.graph

    items-are : items_of t.sources ≡ sources_from 0 u
    items-are = ap (λ (y : Tables). items_of y.sources) e ∙ table-back (sources_from 0 u) (omega (arith, flat-long (λ (x : Node). x.sources) 0 u, l.sources))

    sinks-are : items_of t.sinks ≡ sinks_from 0 u
    sinks-are = ap (λ (y : Tables). items_of y.sinks) e ∙ table-back (sinks_from 0 u) (omega (arith, flat-long (λ (x : Node). x.sinks) 0 u, l.sinks))

    lows : All (λ (x : Node). All Low x.sources) u
    lows = all_from (λ (x : Node). All Low x.sources) u bare (λ p. all_map (low-mark u p l.sinks) (node_at u p).sources (l.marks p))

    pub line-room : t.lines.count ≤ 128
    line-room =
        let z : length (texts_from 0 u) ≡ length (texts_from 0 (cutting (uncut l.board)).graph) = ap (λ (c : Dag). length (texts_from 0 c.graph)) l.walk in
        omega (arith, ap (λ (y : Tables). y.lines.count) e, z, few-lines w s l.board l.read _ (cut-lines l.board))

    pub source-marks : All (λ (x : Item). x.mark ≤ 88) (items_of t.sources)
    source-marks = rw items-are (all-flat item_of (λ (x : Node). x.sources) (length u) Low (λ (x : Item). x.mark ≤ 88) (λ p y h k. k) 0 u (omega arith) lows)

    pub sink-marks : All (λ (x : Item). x.mark ≡ 0) (items_of t.sinks)
    sink-marks = rw sinks-are (all-flat item_of (λ (x : Node). x.sinks) (length u) Plain (λ (x : Item). x.mark ≡ 0) (λ p y h k. ap held_mark k) 0 u (omega arith) l.unmarked)

    names : Bytes s → All NameWithin t.names
    names bytes =
        let ps : Board = l.board in
        let a : Accepted w s ps = accepts w s ps l.read in
        let g : Graph = (cutting (uncut ps)).graph in
        let us : List (List Line) = given_lines ps in
        let z : names_of u ≡ map name_of (us ++ (offs ps ++ (cut_lined ps).rest)) = ap (λ (c : Dag). names_of c.graph) l.walk ∙ map-names g ∙ ap (map name_of) (cut-rest ps) in
        let P : List Line → Type 0 = λ m. NameWithin (name_of m) in
        let all : All P (us ++ (offs ps ++ (cut_lined ps).rest)) =
        all_join P us (offs ps ++ (cut_lined ps).rest) (given-names ps)
        (all_join P (offs ps) (cut_lined ps).rest
        (all_map (off_name (length ps)) (offs ps) (uncut-offs_in ps 256 (omega (arith, a.nodes)) (given-bytes w s bytes ps l.read)))
        (all_map (number_name (length ps) a.nodes) (cut_lined ps).rest (cut_lined ps).named)) in
        rw (ap (λ (y : Tables). y.names) e)
        (all-padded NameWithin 48 Nothing (names_of u) tt (rw z (all-names (us ++ (offs ps ++ (cut_lined ps).rest)) all)))

-- a chart of bytes: the names too
module _ (w : Setting) (s : List ℕ) (bytes : Bytes s) (t : Tables) (b : Linked t) (e : t ≡ tables_of (dag_in t)) (l : Laws w s (dag_in t)) where
  pub tables-sound : Sound t
  tables-sound = record { linked = b; line_room = line-room w s t e l; source_marks = source-marks w s t e l; sink_marks = sink-marks w s t e l; names = names w s t e l bytes }

-- ---- an answer's tables
module _ (w : Setting) (s : List ℕ) (r : Result Tables Refusal) (a : IsAnswer (graphed w s) r) (t : Tables) (e : r ≡ Ok t) where
  drawn-is : graphed w s ≡ ready (dag_in t)
  drawn-is = sym a.graphs ∙ ap graphed_of e

  pub tables-are : t ≡ tables_of (dag_in t)
  tables-are = let z : Ok t ≡ answer_of (ready (dag_in t)) = sym e ∙ a.whole ∙ ap answer_of drawn-is in cc

  pub laws-of : Laws w s (dag_in t)
  laws-of = graph-laws w s (dag_in t) drawn-is

-- ---- the contract of `graph`
module _ (w : Setting) (s : List ℕ) (bytes : Bytes s) (r : Result Tables Refusal) (a : IsAnswer (graphed w s) r) where
  pub is-graphs : Graphs w s r
  is-graphs =
      record {
        graphs = a.graphs;
        whole = a.whole;
        sound = λ t e. tables-sound w s bytes t (a.linked t e) (tables-are w s r a t e) (laws-of w s r a t e);
        laws = laws-of w s r a;
      }

  pub is-graph : IsGraph w s r
  is-graph =
      record {
        whole = a.whole;
        refused = λ why e. a.whole ∙ ap answer_of e;
        numbers = λ why e. ap numbers_in (a.whole ∙ ap answer_of e);
        laws = graph-laws w s;
        walks = λ ps e. board-walks ps;
        bytes = bytes;
      }
