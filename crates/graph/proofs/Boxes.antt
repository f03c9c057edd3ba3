-- A box in the tables is a box of the graph that they hold, and the tables have room for all of them.
-- Assumes nothing.
use Prim.Native.Nat.{ℕ, zero, suc, ◌+◌, ◌-◌, ◌≤◌, ◌<◌}
use native.Mathlib.Omega.{arith}
use native.Mathlib.Nat.{zero-add}
use native.Mathlib.Numerals.{add-one}
use mathlib.Core.Path.{◌≡◌, refl, ap, sym, ◌∙◌, subst}
use mathlib.Core.Bool.{Bool, true, false, cond}
use mathlib.Core.Option.{Option, some}
use mathlib.Core.List.{List, [], ◌∷◌, ◌++◌}
use lib.Dec.{eqb, leb, ltb}
use lib.ListN.{length, get_or, set, take, drop, length-set, length-append, get_or-append}
use lib.Seq.{get_or-set_same, get_or-set_other, get_or_at, get_or-take, set-get_or, drop-cons, drop-set-lt, take-set-le}
use Rattle.std.specs.List.{filter}
use Rattle.std.proofs.lemmas.List.{length-take}
use borrow.Author.Tests.{eq-eqb, eqb-true, eqb-false, ltb-true, ltb-false, lt-leb, le-leb, le-ltb}
use Rattle.laws.specs.Each.{each}
use Rattle.laws.specs.Lists.{All, keep, one, tabulate}
use Rattle.laws.proofs.Each.{next}
use Rattle.laws.proofs.Lists.{length-tabulate, tabulate-same, tabulate-snoc}
use Rattle.laws.proofs.Tests.{pick}
use Rattle.chart.specs.declared.Line.{Line as LineItem}
use Rattle.chart.specs.code.Filled.{lines_of as texts_of}
use Rattle.graph.specs.declared.Item.{Item}
use Rattle.graph.specs.Items.{Items}
use Rattle.graph.specs.declared.Name.{Name}
use Rattle.graph.specs.declared.Name.TheVariants.{Nothing, Invalid}
use Rattle.graph.specs.declared.Tables.{Tables}
use Rattle.graph.specs.Graph.{Line, invalid, Edge, Node, Graph, no_text, node_at, with_sources, with_sinks}
use Rattle.graph.specs.Cutting.{pointed}
use Rattle.graph.specs.Joining.{outside, leads, sink_box, source_box, join_sink, join_source, join_sinks, join_sources, join_node, joined}
use Rattle.graph.specs.Laws.{ends, Aimed as GraphAimed}
use Rattle.graph.specs.code.Tables.{owned, edge_of, mark_of, source_of, sink_of, node_of, lines_at, lines_of, graph_from, graph_of, items_of, point_item, far, dues, Below, Texted, Sunk, Owned, Standing, Fits, EndJoined, EndsJoined, Joined}
use Rattle.graph.specs.Outcome.{no_item}
use Rattle.graph.specs.code.Tables.{Aimed}
use Rattle.graph.proofs.Lists.{node-graph, owned-end, owned-other, owned-own}
use Rattle.graph.proofs.Gains.{owned-new, owned-old}
use Rattle.graph.proofs.Cuts.{length-graph, point_graph, mark-graph, below_set, below_one, below_more, none_owned, texted-none, texted-more, counted-own, counted-other}
use Rattle.graph.proofs.Pairs.{false_true, dues-gone, dues-none}
use Rattle.graph.proofs.AimLaws.{node-aims}
use Rattle.graph.proofs.Joins.{either}
use Rattle.graph.proofs.JoinLaws.{either-by, ends-append, joined-none}

-- ---- as many records as the graph has ends
dues_in : (z : Item) (zs : List Item) (p k : ℕ) → p ≤ z.owner → z.owner < p + k → dues (z ∷ zs) p k ≡ suc (dues zs p k)
dues_in z zs p zero a b = absurd (omega arith)
dues_in z zs p (suc k) a b =
    either-by (eqb z.owner p) (λ c. length (keep c (edge_of z) (owned p zs)) + dues (z ∷ zs) (suc p) k ≡ suc (length (owned p zs) + dues zs (suc p) k))
    (λ e. let o : z.owner ≡ p = eqb-true z.owner p e in let d : dues (z ∷ zs) (suc p) k ≡ dues zs (suc p) k = dues-gone z zs (suc p) k (omega arith) in omega (arith, d))
    (λ e. let o : z.owner ≡ p → ⊥ = eqb-false z.owner p e in let d : dues (z ∷ zs) (suc p) k ≡ suc (dues zs (suc p) k) = dues_in z zs (suc p) k (omega (arith, o)) (omega arith) in omega (arith, d))

pub dues-all : (n : ℕ) (xs : List Item) → Below n xs → dues xs 0 n ≡ length xs
dues-all n [] a = dues-none 0 n
dues-all n (x ∷ xs) a = dues_in x xs 0 n (omega arith) (omega (arith, a.0)) ∙ ap suc (dues-all n xs a.1)

module _ (ls : List (List Line)) (xs ys : List Item) where
  sources-dues : (p k : ℕ) → ends (λ (x : Node). x.sources) (tabulate (node_of ls xs ys) p k) ≡ dues xs p k
  sources-dues p zero = refl
  sources-dues p (suc k) = ap (λ (m : ℕ). length (owned p xs) + m) (sources-dues (suc p) k)

  sinks-dues : (p k : ℕ) → ends (λ (x : Node). x.sinks) (tabulate (node_of ls xs ys) p k) ≡ dues ys p k
  sinks-dues p zero = refl
  sinks-dues p (suc k) = ap (λ (m : ℕ). length (owned p ys) + m) (sinks-dues (suc p) k)

  pub sources-held : (n : ℕ) → Below n xs → ends (λ (x : Node). x.sources) (graph_from n ls xs ys) ≡ length xs
  unfolding graph_from
  sources-held n a = sources-dues 0 n ∙ dues-all n xs a

  pub sinks-held : (n : ℕ) → Below n ys → ends (λ (x : Node). x.sinks) (graph_from n ls xs ys) ≡ length ys
  unfolding graph_from
  sinks-held n a = sinks-dues 0 n ∙ dues-all n ys a

-- ---- the records that lead to none of the first n nodes
module _ (n : ℕ) where
  -- as `filter` keeps them
  pub filter-far : (xs : List Item) → filter (λ (x : Item). leb n x.to) xs ≡ far n xs
  filter-far [] = refl
  filter-far (x ∷ xs) =
      either-by (ltb x.to n) (λ c. filter (λ (y : Item). leb n y.to) (x ∷ xs) ≡ cond c (far n xs) (x ∷ far n xs))
      (λ z. rw (lt-leb n x.to (ltb-true x.to n z)) (filter-far xs))
      (λ z. rw (le-leb n x.to (ltb-false x.to n z), filter-far xs))

  pub far_le : (xs : List Item) → length (far n xs) ≤ length xs
  far_le [] = omega arith
  far_le (x ∷ xs) = either (λ c. length (cond c (far n xs) (x ∷ far n xs)) ≤ suc (length xs)) (omega (arith, far_le xs)) (omega (arith, far_le xs)) (ltb x.to n)

  far-below : (m : ℕ) (xs : List Item) → Below m xs → Below m (far n xs)
  far-below m [] a = tt
  far-below m (x ∷ xs) a = either (λ c. Below m (cond c (far n xs) (x ∷ far n xs))) (far-below m xs a.1) (a.0, far-below m xs a.1) (ltb x.to n)

  out_skip : (b : Bool) (e : Edge) (es : List Edge) → ltb e.to n ≡ true → outside n (keep b e es) ≡ outside n es
  out_skip true e es z = ap (λ (c : Bool). cond c (outside n es) (suc (outside n es))) z
  out_skip false e es z = refl

  out_take : (b : Bool) (e : Edge) (es fs : List Edge) → ltb e.to n ≡ false → outside n es ≡ length fs → outside n (keep b e es) ≡ length (keep b e fs)
  out_take true e es fs z h = ap (λ (c : Bool). cond c (outside n es) (suc (outside n es))) z ∙ ap suc h
  out_take false e es fs z h = h

  outside-far : (p : ℕ) (xs : List Item) → outside n (owned p xs) ≡ length (owned p (far n xs))
  outside-far p [] = refl
  outside-far p (x ∷ xs) =
      either-by (ltb x.to n) (λ c. outside n (keep (eqb x.owner p) (edge_of x) (owned p xs)) ≡ length (owned p (cond c (far n xs) (x ∷ far n xs))))
      (λ z. out_skip (eqb x.owner p) (edge_of x) (owned p xs) z ∙ outside-far p xs)
      (λ z. out_take (eqb x.owner p) (edge_of x) (owned p xs) (owned p (far n xs)) z (outside-far p xs))

  leads-dues : (ls : List (List Line)) (xs ys : List Item) (p k : ℕ) → leads n (tabulate (node_of ls xs ys) p k) ≡ dues (far n ys) p k + dues (far n xs) p k
  leads-dues ls xs ys p zero = refl
  leads-dues ls xs ys p (suc k) = omega (arith, outside-far p xs, outside-far p ys, leads-dues ls xs ys (suc p) k)

  pub leads-held : (m : ℕ) (ls : List (List Line)) (xs ys : List Item) → Below m xs → Below m ys → leads n (graph_from m ls xs ys) ≡ length (far n ys) + length (far n xs)
  unfolding graph_from
  leads-held m ls xs ys a b = leads-dues ls xs ys 0 m ∙ omega (arith, dues-all m (far n ys) (far-below m ys b), dues-all m (far n xs) (far-below m xs a))

-- ---- one node more: r is its one source, or its one sink
module _ (n : ℕ) (ls : List (List Line)) (xs ys : List Item) (r : Item) (m : List Line) (full : length ls ≡ n) (bx : Below n xs) (by : Below n ys) (hr : r.owner ≡ n) where
  tab-one : (f h : ℕ → Node) (x : Node) → ((p : ℕ) → p < n → h p ≡ f p) → h n ≡ x → tabulate f 0 n ++ one x ≡ tabulate h 0 (suc n)
  tab-one f h x k e =
      let old : tabulate h 0 n ≡ tabulate f 0 n = tabulate-same h f 0 n (λ p l i. k p (omega arith)) in
      let new : h (0 + n) ≡ x = ap h (zero-add n) ∙ e in
      sym (tabulate-snoc h 0 n ∙ cc (old, new))

  pub one_source : graph_from n ls xs ys ++ one (record { sources = one (edge_of r); lines = m; sinks = [] }) ≡ graph_from (suc n) (ls ++ one m) (xs ++ one r) ys
  unfolding graph_from
  one_source =
      tab-one (node_of ls xs ys) (node_of (ls ++ one m) (xs ++ one r) ys) (record { sources = one (edge_of r); lines = m; sinks = [] })
      (λ p h. rw (owned-old p xs r (λ e. omega arith), get_or-append ls (one m) [] p (omega arith)))
      (rw (owned-new n xs r hr, none_owned n n (omega arith) xs bx, none_owned n n (omega arith) ys by, get_or_at ls m [] [] n full))

  pub one-sink : graph_from n ls xs ys ++ one (record { sources = []; lines = m; sinks = one (edge_of r) }) ≡ graph_from (suc n) (ls ++ one m) xs (ys ++ one r)
  unfolding graph_from
  one-sink =
      tab-one (node_of ls xs ys) (node_of (ls ++ one m) xs (ys ++ one r)) (record { sources = []; lines = m; sinks = one (edge_of r) })
      (λ p h. rw (owned-old p ys r (λ e. omega arith), get_or-append ls (one m) [] p (omega arith)))
      (rw (owned-new n ys r hr, none_owned n n (omega arith) xs bx, none_owned n n (omega arith) ys by, get_or_at ls m [] [] n full))

-- the line of one node more, the target t's
module _ (ts : List LineItem) (names : List Name) (n t : ℕ) (h : n < length names) (a : Texted n ts) where
  abbrev renamed : List Name
  renamed = set names n (Invalid t)

  line-new : lines_at ts renamed n ≡ one (invalid t)
  line-new =
      let e : get_or renamed n Nothing ≡ Invalid t = get_or-set_same names n (Invalid t) Nothing h in
      rw (e, texted-none n n (omega arith) ts a)

  pub lines-one : tabulate (lines_at ts renamed) 0 (n + 1) ≡ tabulate (lines_at ts names) 0 n ++ one (one (invalid t))
  lines-one =
      let f = lines_at ts renamed in
      let old : tabulate f 0 n ≡ tabulate (lines_at ts names) 0 n = tabulate-same f (lines_at ts names) 0 n (λ p i k. rw (get_or-set_other names n p (Invalid t) Nothing (omega arith))) in
      let new : f (0 + n) ≡ one (invalid t) = ap f (zero-add n) ∙ line-new in
      ap (tabulate f 0) (add-one n) ∙ tabulate-snoc f 0 n ∙ cc (old, new)

-- ---- an end that leads to none of the first n nodes gets its box: t before it, r after it
module _ (t r : Tables) (b : Standing t) (n p i k : ℕ) (hp : p < t.n) (room : t.n < 48) (long : length t.names ≡ 48) (to : ℕ)
    (en : r.n ≡ t.n + 1)
    (el : r.lines ≡ t.lines)
    (em : r.names ≡ set t.names t.n (Invalid to)) where
  abbrev xs : List Item
  xs = items_of t.sources

  abbrev ys : List Item
  ys = items_of t.sinks

  abbrev g : Graph
  g = graph_of t

  size : length (lines_of t) ≡ t.n
  size = length-tabulate (lines_at (texts_of t.lines) t.names) 0 t.n

  lines : lines_of r ≡ lines_of t ++ one (one (invalid to))
  lines = rw (en, em, el) (lines-one (texts_of t.lines) t.names t.n to (omega arith) b.owned.line_owners)

  next-is : r.n ≡ suc t.n
  next-is = omega arith

  blank : (m : ℕ) → r.n ≤ m → m < 48 → get_or r.names m Nothing ≡ Nothing
  blank m h l = rw em (get_or-set_other t.names t.n m (Invalid to) Nothing (omega arith) ∙ b.blank m (omega arith) l)

  held : some i ≡ mark_of (i + 1)
  held = rw add-one

  module _ (f : Sunk ys p i k) (is : (get_or ys k no_item).to ≡ to) (out : n ≤ to)
      (ex : items_of r.sources ≡ xs ++ one (source_of p i t.n)) (ey : items_of r.sinks ≡ set ys k (point_item t.n (get_or ys k no_item)))
      (cx : r.sources.count ≡ t.sources.count + 1) (cy : r.sinks.count ≡ t.sinks.count) (left : t.sources.count < 88) where
    abbrev y : Item
    y = get_or ys k no_item

    abbrev ys₁ : List Item
    ys₁ = set ys k (point_item t.n y)

    below₁ : Below t.n ys₁
    below₁ = below_set t.n ys k (point_item t.n y) (omega (arith, f.owner)) b.owned.sink_owners

    abbrev box : Option ℕ → Node
    box m = record { sources = one (record { to = p; mark = m; text = no_text }); lines = one (invalid to); sinks = [] }

    sink-graph : graph_of r ≡ join_sink n g p i (edge_of y)
    sink-graph =
        rw (lines, ex, ey, next-is)
        (sym
        (ap (λ (c : Bool). cond c g (with_sinks g p (set (node_at g p).sinks i (pointed (length g) (edge_of y))) ++ one (sink_box p i y.to))) (le-ltb y.to n (rw is out))
        ∙ ap (λ (d : ℕ). with_sinks g p (set (node_at g p).sinks i (pointed (length g) (edge_of y))) ++ one (sink_box p i d)) is
        ∙ ap (λ (a : ℕ). with_sinks g p (set (node_at g p).sinks i (pointed a (edge_of y))) ++ one (box (some i))) (length-graph t.n (lines_of t) xs ys)
        ∙ ap (λ (l : Node). with_sinks g p (set l.sinks i (pointed t.n (edge_of y))) ++ one (box (some i))) (node-graph t.n (lines_of t) xs ys p hp)
        ∙ ap (λ (h : Graph). h ++ one (box (some i))) (point_graph ys p i k f t.n (lines_of t) xs t.n hp)
        ∙ ap (λ (m : Option ℕ). graph_from t.n (lines_of t) xs ys₁ ++ one (box m)) held
        ∙ one_source t.n (lines_of t) xs ys₁ (source_of p i t.n) (one (invalid to)) size b.owned.source_owners below₁ refl))

    sink-owned : Owned r
    sink-owned =
        record {
          nodes = omega arith;
          source_room = omega arith;
          sink_room = omega (arith, b.owned.sink_room);
          source_owners = rw (ex, en) (below_one t.n (t.n + 1) xs (source_of p i t.n) (omega arith) (omega arith) b.owned.source_owners);
          sink_owners = rw (ey, en) (below_more t.n (t.n + 1) ys₁ (omega arith) below₁);
          line_owners = rw (el, en) (texted-more t.n (t.n + 1) (omega arith) (texts_of t.lines) b.owned.line_owners);
        }

    pub sink-joined : r.cuts ≡ t.cuts → EndJoined (λ u. u.sinks) (join_sink n) t p i k r
    sink-joined c =
        record {
          graph = sink-graph;
          standing = record { owned = sink-owned; blank = blank };
          cuts = c;
          lines = el;
          more = omega arith;
          count = cy;
          to = t.n;
          items = ey;
        }

  module _ (f : Sunk xs p i k) (is : (get_or xs k no_item).to ≡ to) (out : n ≤ to)
      (ex : items_of r.sources ≡ set xs k (point_item t.n (get_or xs k no_item))) (ey : items_of r.sinks ≡ ys ++ one (sink_of p t.n))
      (cx : r.sources.count ≡ t.sources.count) (cy : r.sinks.count ≡ t.sinks.count + 1) (left : t.sinks.count < 88) where
    abbrev x : Item
    x = get_or xs k no_item

    abbrev xs₁ : List Item
    xs₁ = set xs k (point_item t.n x)

    below₂ : Below t.n xs₁
    below₂ = below_set t.n xs k (point_item t.n x) (omega (arith, f.owner)) b.owned.source_owners

    source_graph : graph_of r ≡ join_source n g p i (edge_of x)
    source_graph =
        rw (lines, ex, ey, next-is)
        (sym
        (ap (λ (c : Bool). cond c g (with_sources g p (set (node_at g p).sources i (pointed (length g) (edge_of x))) ++ one (source_box p x.to))) (le-ltb x.to n (rw is out))
        ∙ ap (λ (d : ℕ). with_sources g p (set (node_at g p).sources i (pointed (length g) (edge_of x))) ++ one (source_box p d)) is
        ∙ ap (λ (a : ℕ). with_sources g p (set (node_at g p).sources i (pointed a (edge_of x))) ++ one (source_box p to)) (length-graph t.n (lines_of t) xs ys)
        ∙ ap (λ (h : Graph). h ++ one (source_box p to)) (mark-graph xs p i k f t.n (lines_of t) ys (point_item t.n x) f.owner hp)
        ∙ one-sink t.n (lines_of t) xs₁ ys (sink_of p t.n) (one (invalid to)) size below₂ b.owned.sink_owners refl))

    source_owned : Owned r
    source_owned =
        record {
          nodes = omega arith;
          source_room = omega (arith, b.owned.source_room);
          sink_room = omega arith;
          source_owners = rw (ex, en) (below_more t.n (t.n + 1) xs₁ (omega arith) below₂);
          sink_owners = rw (ey, en) (below_one t.n (t.n + 1) ys (sink_of p t.n) (omega arith) (omega arith) b.owned.sink_owners);
          line_owners = rw (el, en) (texted-more t.n (t.n + 1) (omega arith) (texts_of t.lines) b.owned.line_owners);
        }

    pub source_joined : r.cuts ≡ t.cuts → EndJoined (λ u. u.sources) (join_source n) t p i k r
    source_joined c =
        record {
          graph = source_graph;
          standing = record { owned = source_owned; blank = blank };
          cuts = c;
          lines = el;
          more = omega arith;
          count = cx;
          to = t.n;
          items = ex;
        }

-- an end that leads to one of them stays
pub end_kept : (side : Tables → Items) (step : Graph → ℕ → ℕ → Edge → Graph) (t : Tables) (p i k : ℕ) → Standing t → step (graph_of t) p i (edge_of (get_or (items_of (side t)) k no_item)) ≡ graph_of t → EndJoined side step t p i k t
end_kept side step t p i k b e =
    record {
      graph = sym e;
      standing = b;
      cuts = refl;
      lines = refl;
      more = omega arith;
      count = refl;
      to = (get_or (items_of (side t)) k no_item).to;
      items = sym (set-get_or (items_of (side t)) k no_item);
    }

-- ---- joining takes nothing away
pub record Within (g h : Graph) : Type 0 where
  pub nodes : length g ≤ length h
  pub sources : ends (λ (x : Node). x.sources) g ≤ ends (λ (x : Node). x.sources) h
  pub sinks : ends (λ (x : Node). x.sinks) g ≤ ends (λ (x : Node). x.sinks) h

pub within_refl : (g : Graph) → Within g g
within_refl g = record { nodes = omega arith; sources = omega arith; sinks = omega arith }

pub within_trans : {g h k : Graph} → Within g h → Within h k → Within g k
within_trans a b = record { nodes = omega (arith, a.nodes, b.nodes); sources = omega (arith, a.sources, b.sources); sinks = omega (arith, a.sinks, b.sinks) }

pub fits-within : {g h : Graph} → Within g h → Fits h → Fits g
fits-within a f = record { nodes = omega (arith, a.nodes, f.nodes); sources = omega (arith, a.sources, f.sources); sinks = omega (arith, a.sinks, f.sinks) }

pub ends_same : (list : Node → List Edge) (g : Graph) (p : ℕ) (x : Node) → length (list x) ≡ length (list (node_at g p)) → ends list (set g p x) ≡ ends list g
ends_same list [] p x e = refl
ends_same list (y ∷ g) zero x e = ap (λ (k : ℕ). k + ends list g) e
ends_same list (y ∷ g) (suc p) x e = ap (λ (k : ℕ). length (list y) + k) (ends_same list g p x e)

-- one node more, and a node with as many ends
module _ (g : Graph) (p : ℕ) (x y : Node) (es : length x.sources ≡ length (node_at g p).sources) (fs : length x.sinks ≡ length (node_at g p).sinks) where
  abbrev h : Graph
  h = set g p x ++ one y

  pub more-nodes : length h ≡ length g + 1
  more-nodes = simp (length-append, length-set)

  pub more-sources : ends (λ (z : Node). z.sources) h ≡ ends (λ (z : Node). z.sources) g + length y.sources
  more-sources = ends-append (λ (z : Node). z.sources) (set g p x) (one y) ∙ omega (arith, ends_same (λ (z : Node). z.sources) g p x es)

  pub more-sinks : ends (λ (z : Node). z.sinks) h ≡ ends (λ (z : Node). z.sinks) g + length y.sinks
  more-sinks = ends-append (λ (z : Node). z.sinks) (set g p x) (one y) ∙ omega (arith, ends_same (λ (z : Node). z.sinks) g p x fs)

  within_more : Within g h
  within_more = record { nodes = omega (arith, more-nodes); sources = omega (arith, more-sources); sinks = omega (arith, more-sinks) }

module _ (n : ℕ) where
  abbrev pointed_sink : Graph → ℕ → ℕ → Edge → Node
  pointed_sink g p i e = record { sources = (node_at g p).sources; lines = (node_at g p).lines; sinks = set (node_at g p).sinks i (pointed (length g) e) }

  abbrev pointed_source : Graph → ℕ → ℕ → Edge → Node
  pointed_source g p i e = record { sources = set (node_at g p).sources i (pointed (length g) e); lines = (node_at g p).lines; sinks = (node_at g p).sinks }

  sink-within : (g : Graph) (p i : ℕ) (e : Edge) → Within g (join_sink n g p i e)
  sink-within g p i e =
      pick (Within g) (ltb e.to n) g (set g p (pointed_sink g p i e) ++ one (sink_box p i e.to)) (within_refl g)
      (within_more g p (pointed_sink g p i e) (sink_box p i e.to) refl (length-set (node_at g p).sinks i (pointed (length g) e)))

  source_within : (g : Graph) (p i : ℕ) (e : Edge) → Within g (join_source n g p i e)
  source_within g p i e =
      pick (Within g) (ltb e.to n) g (set g p (pointed_source g p i e) ++ one (source_box p e.to)) (within_refl g)
      (within_more g p (pointed_source g p i e) (source_box p e.to) (length-set (node_at g p).sources i (pointed (length g) e)) refl)

  -- there is room where a box is made
  pub sink_room : (g : Graph) (p i : ℕ) (e : Edge) → n ≤ e.to → Fits (join_sink n g p i e) → (length g < 48) × (ends (λ (x : Node). x.sources) g < 88)
  sink_room g p i e l f =
      let x : Node = pointed_sink g p i e in
      let y : Node = sink_box p i e.to in
      let k : Fits (set g p x ++ one y) = rw (le-ltb e.to n l) at f in
      let fs : length x.sinks ≡ length (node_at g p).sinks = length-set (node_at g p).sinks i (pointed (length g) e) in
      (omega (arith, k.nodes, more-nodes g p x y refl fs), omega (arith, k.sources, more-sources g p x y refl fs))

  pub source_room : (g : Graph) (p i : ℕ) (e : Edge) → n ≤ e.to → Fits (join_source n g p i e) → (length g < 48) × (ends (λ (x : Node). x.sinks) g < 88)
  source_room g p i e l f =
      let x : Node = pointed_source g p i e in
      let y : Node = source_box p e.to in
      let k : Fits (set g p x ++ one y) = rw (le-ltb e.to n l) at f in
      let es : length x.sources ≡ length (node_at g p).sources = length-set (node_at g p).sources i (pointed (length g) e) in
      (omega (arith, k.nodes, more-nodes g p x y es refl), omega (arith, k.sinks, more-sinks g p x y es refl))

  pub sinks-within : (es : List Edge) (g : Graph) (p i : ℕ) → Within g (join_sinks n g p i es)
  sinks-within [] g p i = within_refl g
  sinks-within (e ∷ es) g p i = within_trans (sink-within g p i e) (sinks-within es (join_sink n g p i e) p (suc i))

  pub sources-within : (es : List Edge) (g : Graph) (p i : ℕ) → Within g (join_sources n g p i es)
  sources-within [] g p i = within_refl g
  sources-within (e ∷ es) g p i = within_trans (source_within g p i e) (sources-within es (join_source n g p i e) p (suc i))

  pub node-within : (g : Graph) (p : ℕ) → Within g (join_node n g p)
  node-within g p =
      let u : Graph = join_sinks n g p 0 (node_at g p).sinks in
      within_trans (sinks-within (node_at g p).sinks g p 0) (sources-within (node_at u p).sources u p 0)

  each_within : (g : Graph) (k m : ℕ) → Within (each g (λ p h. join_node n h p) k) (each g (λ p h. join_node n h p) (m + k))
  unfolding each
  each_within g k zero = let z : 0 + k ≡ k = zero-add k in subst (λ (i : ℕ). Within (each g (λ p h. join_node n h p) k) (each g (λ p h. join_node n h p) i)) (sym z) (within_refl (each g (λ p h. join_node n h p) k))
  each_within g k (suc m) =
      let z : suc m + k ≡ suc (m + k) = omega arith in
      subst (λ (i : ℕ). Within (each g (λ p h. join_node n h p) k) (each g (λ p h. join_node n h p) i)) (sym z)
      (within_trans (each_within g k m) (node-within (each g (λ p h. join_node n h p) (m + k)) (m + k)))

  -- after node p, where p is one of those to come
  pub after-within : (g : Graph) (p : ℕ) → p < n → Within (join_node n (each g (λ q h. join_node n h q) p) p) (joined n g)
  unfolding joined each
  after-within g p h =
      let z : n - suc p + suc p ≡ n = omega arith in
      subst (λ (i : ℕ). Within (join_node n (each g (λ q u. join_node n u q) p) p) (each g (λ q u. join_node n u q) i)) z (each_within g (suc p) (n - suc p))

-- ---- the loop over the ends of a node on one side
module _ (side : Tables → Items) (step : Graph → ℕ → ℕ → Edge → Graph) (all : Graph → ℕ → ℕ → List Edge → Graph) where
  -- Before record k, with i ends of p gone through: the records from k on are as given, and what is left to do gives the whole.
  pub record Going (t : Tables) (p : ℕ) (s : Tables) (i k : ℕ) : Type 0 where
    pub standing : Standing s
    pub cuts : s.cuts ≡ t.cuts
    pub lines : s.lines ≡ t.lines
    pub more : t.n ≤ s.n
    pub within : k ≤ length (items_of (side t))
    pub size : length (items_of (side s)) ≡ length (items_of (side t))
    pub ahead : drop k (items_of (side s)) ≡ drop k (items_of (side t))
    pub number : length (owned p (take k (items_of (side s)))) ≡ i
    pub less : i ≤ k
    pub rest : all (graph_of s) p i (owned p (drop k (items_of (side t)))) ≡ all (graph_of t) p 0 (owned p (items_of (side t)))

  pub going_first : (t : Tables) (p : ℕ) → Standing t → Going t p t 0 0
  going_first t p b = record { standing = b; cuts = refl; lines = refl; more = omega arith; within = omega arith; size = refl; ahead = refl; number = refl; less = omega arith; rest = refl }

  module _ (unrolled : (g : Graph) (p i : ℕ) (e : Edge) (es : List Edge) → all g p i (e ∷ es) ≡ all (step g p i e) p (suc i) es)
      (t : Tables) (p : ℕ) (s : Tables) (i k : ℕ) (l : Going t p s i k) where
    abbrev ts : List Item
    ts = items_of (side t)

    abbrev ss : List Item
    ss = items_of (side s)

    pub going_end : length ts ≤ k → all (graph_of s) p i [] ≡ all (graph_of t) p 0 (owned p ts)
    going_end h = rw (owned-end p k ts h) at l.rest

    module _ (h : k < length ts) where
      in_list : k < length ss
      in_list = omega (arith, l.size)

      pub going_at : get_or ss k no_item ≡ get_or (side s).items k no_item
      going_at = get_or-take (side s).count (side s).items k no_item (omega (arith, in_list, length-take (side s).count (side s).items))

      still : get_or ss k no_item ≡ get_or ts k no_item
      still = cc (l.ahead, drop-cons ss k no_item in_list, drop-cons ts k no_item h)

      further : drop (suc k) ss ≡ drop (suc k) ts
      further = cc (l.ahead, drop-cons ss k no_item in_list, drop-cons ts k no_item h)

      pub going_other : ((get_or (side s).items k no_item).owner ≡ p → ⊥) → Going t p s i (k + 1)
      going_other o =
          let o' : (get_or ss k no_item).owner ≡ p → ⊥ = λ z. o (rw going_at at z) in
          record {
            standing = l.standing;
            cuts = l.cuts;
            lines = l.lines;
            more = l.more;
            within = omega arith;
            size = l.size;
            ahead = rw add-one further;
            number = counted-other ss p k in_list o' ∙ l.number;
            less = omega (arith, l.less);
            rest = rw (add-one k, ← owned-other p k ts h (λ z. o' (rw still z))) l.rest;
          }

      module _ (o : (get_or (side s).items k no_item).owner ≡ p) where
        own : (get_or ss k no_item).owner ≡ p
        own = rw going_at o

        given_own : (get_or ts k no_item).owner ≡ p
        given_own = rw (← still) own

        pub going_sunk : Sunk ss p i k
        going_sunk = record { inside = in_list; owner = own; number = l.number }

        unroll : all (step (graph_of s) p i (edge_of (get_or ss k no_item))) p (suc i) (owned p (drop (suc k) ts)) ≡ all (graph_of t) p 0 (owned p ts)
        unroll =
            ap (λ (x : Item). all (step (graph_of s) p i (edge_of x)) p (suc i) (owned p (drop (suc k) ts))) still
            ∙ sym (unrolled (graph_of s) p i (edge_of (get_or ts k no_item)) (owned p (drop (suc k) ts)))
            ∙ (rw (owned-own p k ts h given_own) at l.rest)

        pub going_fits : ((es : List Edge) (g : Graph) (q j : ℕ) → Within g (all g q j es)) → Fits (all (graph_of t) p 0 (owned p ts)) → Fits (step (graph_of s) p i (edge_of (get_or ss k no_item)))
        going_fits w f = fits-within (w (owned p (drop (suc k) ts)) (step (graph_of s) p i (edge_of (get_or ss k no_item))) p (suc i)) (subst Fits (sym unroll) f)

        pub going_own : (r : Tables) → EndJoined side step s p i k r → Going t p r (i + 1) (k + 1)
        going_own r a =
            let y : Item = point_item a.to (get_or ss k no_item) in
            let rs : List Item = items_of (side r) in
            let front : take k rs ≡ take k ss = rw a.items (take-set-le k ss k y (omega arith)) in
            let at : get_or rs k no_item ≡ y = rw a.items (get_or-set_same ss k y no_item in_list) in
            let size : length rs ≡ length ss = rw a.items (length-set ss k y) in
            record {
              standing = a.standing;
              cuts = a.cuts ∙ l.cuts;
              lines = a.lines ∙ l.lines;
              more = omega (arith, a.more, l.more);
              within = omega arith;
              size = size ∙ l.size;
              ahead = rw (add-one k, a.items) (drop-set-lt (suc k) ss k y (omega arith) ∙ further);
              number =
                  counted-own rs p k (omega (arith, in_list, size)) (ap (λ (x : Item). x.owner) at ∙ own)
                  ∙ ap (λ (m : List Item). length (owned p m) + 1) front ∙ ap (λ (m : ℕ). m + 1) l.number;
              less = omega (arith, l.less);
              rest = rw (add-one i, add-one k, a.graph) unroll;
            }

-- ---- no lead: nothing is joined
pub none-joined : (t : Tables) → Standing t → leads t.n (graph_of t) ≡ 0 → Joined t t
none-joined t b h =
    let g : Graph = graph_of t in
    let size : length g ≡ t.n = length-graph t.n (lines_of t) (items_of t.sources) (items_of t.sinks) in
    let same : joined (length g) g ≡ g = joined-none g (ap (λ (k : ℕ). leads k g) size ∙ h) in
    record { graph = sym same ∙ ap (λ (k : ℕ). joined k g) size; standing = b; cuts = refl; lines = refl }

-- ---- the loop over the nodes
pub record Passing (t s : Tables) (p : ℕ) : Type 0 where
  pub within : p ≤ t.n
  pub standing : Standing s
  pub cuts : s.cuts ≡ t.cuts
  pub lines : s.lines ≡ t.lines
  pub more : t.n ≤ s.n
  pub graph : graph_of s ≡ each (graph_of t) (λ q h. join_node t.n h q) p

module _ (t s : Tables) (p : ℕ) (d : Passing t s p) where
  pub passing_last : t.n ≤ p → Joined t s
  unfolding joined
  passing_last h = let z : p ≡ t.n = omega (arith, d.within) in record { graph = d.graph ∙ ap (each (graph_of t) (λ q u. join_node t.n u q)) z; standing = d.standing; cuts = d.cuts; lines = d.lines }

  module _ (h : p < t.n) (f : Fits (joined t.n (graph_of t))) where
    abbrev u : Graph
    u = graph_of s

    abbrev half : Graph
    half = join_sinks t.n u p 0 (node_at u p).sinks

    node-fits : Fits (join_node t.n u p)
    node-fits = rw d.graph (fits-within (after-within t.n (graph_of t) p h) f)

    pub passing_sinks : Fits half
    passing_sinks = fits-within (sources-within t.n (node_at half p).sources half p 0) node-fits

    pub passing_sources : (x : Tables) → EndsJoined (join_sinks t.n) (λ (y : Node). y.sinks) s p x → Fits (join_sources t.n (graph_of x) p 0 (node_at (graph_of x) p).sources)
    passing_sources x a = rw a.graph node-fits

    pub passing_next : (x : Tables) → EndsJoined (join_sinks t.n) (λ (y : Node). y.sinks) s p x → (r : Tables) → EndsJoined (join_sources t.n) (λ (y : Node). y.sources) x p r → Passing t r (p + 1)
    passing_next x a r b =
        record {
          within = omega arith;
          standing = b.standing;
          cuts = b.cuts ∙ a.cuts ∙ d.cuts;
          lines = b.lines ∙ a.lines ∙ d.lines;
          more = omega (arith, a.more, b.more, d.more);
          graph =
              b.graph ∙ ap (λ (v : Graph). join_sources t.n v p 0 (node_at v p).sources) a.graph
              ∙ ap (λ (v : Graph). join_node t.n v p) d.graph ∙ sym (next (graph_of t) (λ q v. join_node t.n v q) p);
        }

pub passing_first : (t : Tables) → Standing t → Passing t t 0
unfolding each
passing_first t b = record { within = omega arith; standing = b; cuts = refl; lines = refl; more = omega arith; graph = refl }

-- ---- each record leads where its edge does
keep-rest : (P : Edge → Type 0) (b : Bool) (e : Edge) (es : List Edge) → All P (keep b e es) → All P es
keep-rest P true e es a = a.1
keep-rest P false e es a = a

keep-first : (P : Edge → Type 0) (b : Bool) (e : Edge) (es : List Edge) → b ≡ true → All P (keep b e es) → P e
keep-first P true e es z a = a.0
keep-first P false e es z a = false_true z

aims-from : (m n : ℕ) (xs : List Item) → Below n xs → ((p : ℕ) → p < n → All (λ (e : Edge). e.to < m) (owned p xs)) → Aimed m xs
aims-from m n [] a f = tt
aims-from m n (x ∷ xs) a f = (
  keep-first (λ (e : Edge). e.to < m) (eqb x.owner x.owner) (edge_of x) (owned x.owner xs) (eq-eqb x.owner x.owner refl) (f x.owner a.0),
  aims-from m n xs a.1 (λ p h. keep-rest (λ (e : Edge). e.to < m) (eqb x.owner p) (edge_of x) (owned p xs) (f p h)),
)

module _ (m n : ℕ) (ls : List (List Line)) (xs ys : List Item) (a : GraphAimed m (graph_from n ls xs ys)) where
  pub sources-from : Below n xs → Aimed m xs
  sources-from b = aims-from m n xs b (λ p h. subst (λ (x : Node). All (λ (e : Edge). e.to < m) x.sources) (node-graph n ls xs ys p h) (node-aims m (graph_from n ls xs ys) p a).sources)

  pub sinks-from : Below n ys → Aimed m ys
  sinks-from b = aims-from m n ys b (λ p h. subst (λ (x : Node). All (λ (e : Edge). e.to < m) x.sinks) (node-graph n ls xs ys p h) (node-aims m (graph_from n ls xs ys) p a).sinks)
