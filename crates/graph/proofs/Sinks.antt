-- A record at the end of the table of sinks is a sink at the end of its node's list: the second half of edge completion.
-- Assumes nothing.
use Prim.Native.Nat.{ℕ, suc, ◌+◌, ◌≤◌, ◌<◌}
use native.Mathlib.Omega.{arith}
use native.Mathlib.Nat.{zero-add}
use native.Mathlib.Numerals.{add-one}
use mathlib.Core.Path.{◌≡◌, refl, ap, sym, ◌∙◌, subst}
use mathlib.Core.Option.{Option, none, some}
use mathlib.Core.Bool.{Bool, true, false, cond}
use mathlib.Core.List.{List, [], ◌++◌}
use lib.Dec.{ltb}
use lib.ListN.{length, get_or, set, take, drop, length-set, length-append}
use lib.Seq.{take-append-le, set-get_or, get_or-set_same, take-set-le, drop-set-lt, drop-cons}
use Rattle.graph.proofs.AimLaws.{all_in}
use borrow.Author.Tests.{lt-ltb, le-ltb}
use Rattle.laws.specs.Lists.{one}
use Rattle.laws.proofs.Lists.{tabulate-set}
use Rattle.graph.specs.declared.Item.{Item}
use Rattle.graph.specs.Items.{Items}
use Rattle.graph.specs.declared.Tables.{Tables}
use Rattle.graph.specs.Graph.{Edge, Node, Graph, Line, no_text, node_at, leads_to, with_sources, with_sinks}
use Rattle.graph.specs.Completion.{marked, gain_sink, complete_sources}
use Rattle.graph.specs.code.Tables.{owned, edge_of, mark_of, node_of, graph_from, graph_of, lines_of, items_of, mark_item, sink_of, before, Sunk, Owned, Fit, SinkGained, SourcesDone, SameBut, bares}
use Rattle.graph.specs.Outcome.{no_item}
use Rattle.graph.proofs.Lists.{node-graph, owned-end, owned-other, owned-own, table_le}
use Rattle.graph.proofs.Gains.{owned-new, owned-old}
use Rattle.graph.proofs.Cuts.{length-graph, mark-graph, below_set, below_one, counted-own, counted-other}
use Rattle.graph.proofs.Pairs.{gained-sinked, gained-paired, gained-bares}

-- q gains a sink
module _ (n : ℕ) (ls : List (List Line)) (xs ys : List Item) (p q : ℕ) (h : q < n) where
  abbrev edge : Edge
  edge = record { to = p; mark = none; text = no_text }

  pub sink-graph : with_sinks (graph_from n ls xs ys) q ((node_at (graph_from n ls xs ys) q).sinks ++ one edge) ≡ graph_from n ls xs (ys ++ one (sink_of p q))
  unfolding graph_from
  sink-graph =
      let z : Item = sink_of p q in
      let x : Node = record { sources = owned q xs; lines = get_or ls q []; sinks = owned q ys ++ one edge } in
      ap (λ (u : Node). set (graph_from n ls xs ys) q (record { sources = u.sources; lines = u.lines; sinks = u.sinks ++ one edge })) (node-graph n ls xs ys q h)
      ∙ tabulate-set (node_of ls xs ys) (node_of ls xs (ys ++ one z)) x 0 n q h
      (rw (zero-add q, owned-new q ys z refl))
      (λ m o. rw (owned-old m ys z (λ e. o (omega arith))))

-- source j of p, record k
module _ (n : ℕ) (ls : List (List Line)) (xs ys : List Item) (p j k : ℕ) (f : Sunk xs p j k) (hp : p < n) (hq : (get_or xs k no_item).to < n) where
  abbrev x : Item
  x = get_or xs k no_item

  abbrev q : ℕ
  q = x.to

  abbrev g : Graph
  g = graph_from n ls xs ys

  sinks-are : (node_at g q).sinks ≡ owned q ys
  sinks-are = rw (node-graph n ls xs ys q hq)

  sinks_test : (b : Bool) → leads_to (owned q ys) p ≡ b → leads_to (node_at g q).sinks p ≡ b
  sinks_test b e = ap (λ (l : List Edge). leads_to l p) sinks-are ∙ e

  pub keeps : leads_to (owned q ys) p ≡ true → g ≡ gain_sink g p j (edge_of x)
  keeps e = rw (sinks_test true e)

  abbrev with-sink : Graph
  with-sink = graph_from n ls xs (ys ++ one (sink_of p q))

  abbrev setting : Graph → Edge → Graph
  setting u e = with_sources u p (set (node_at u p).sources j e)

  abbrev marked_as : Option ℕ → Edge
  marked_as m = record { to = x.to; mark = m; text = (edge_of x).text }

  number-held : (m : ℕ) → some m ≡ mark_of (m + 1)
  number-held m = rw add-one

  pub gains : leads_to (owned q ys) p ≡ false →
      gain_sink g p j (edge_of x) ≡ graph_from n ls (set xs k (mark_item (length (owned q ys) + 1) x)) (ys ++ one (sink_of p q))
  gains e =
      ap (λ (b : Bool). cond b g (setting (with_sinks g q ((node_at g q).sinks ++ one (record { to = p; mark = none; text = no_text }))) (marked (length (node_at g q).sinks) (edge_of x)))) (sinks_test false e)
      ∙ ap (λ (u : Graph). setting u (marked (length (node_at g q).sinks) (edge_of x))) (sink-graph n ls xs ys p q hq)
      ∙ ap (λ (l : List Edge). setting with-sink (marked (length l) (edge_of x))) sinks-are
      ∙ ap (λ (m : Option ℕ). setting with-sink (marked_as m)) (number-held (length (owned q ys)))
      ∙ mark-graph xs p j k f n ls (ys ++ one (sink_of p q)) (mark_item (length (owned q ys) + 1) x) f.owner hp

pub same_refl : (t : Tables) → SameBut t t
same_refl t = record { nodes = refl; cuts = refl; names = refl; lines = refl }

pub same_trans : (t s r : Tables) → SameBut t s → SameBut s r → SameBut t r
same_trans t s r a b = record { nodes = b.nodes ∙ a.nodes; cuts = b.cuts ∙ a.cuts; names = b.names ∙ a.names; lines = b.lines ∙ a.lines }

-- the same as the code makes it: y is the table of sources with the mark, z that of sinks with the sink
module _ (t : Tables) (b : Owned t) (k : ℕ) (h : k < length (items_of t.sources)) where
  abbrev xk : Item
  xk = get_or (items_of t.sources) k no_item

  abbrev p : ℕ
  p = xk.owner

  abbrev j : ℕ
  j = before p k (items_of t.sources)

  f : Sunk (items_of t.sources) p j k
  f = record { inside = h; owner = refl; number = refl }

  hp : p < t.n
  hp = all_in (λ (x : Item). x.owner < t.n) (items_of t.sources) k no_item h b.source_owners

  abbrev stepped : Graph
  stepped = gain_sink (graph_of t) p j (edge_of xk)

  -- the source leads to a node, or to none
  test_is : (c : Bool) → ltb xk.to t.n ≡ c → cond (ltb xk.to (length (graph_of t))) stepped (graph_of t) ≡ cond c stepped (graph_of t)
  test_is c z = ap (λ (d : Bool). cond d stepped (graph_of t)) (ap (ltb xk.to) (length-graph t.n (lines_of t) (items_of t.sources) (items_of t.sinks)) ∙ z)

  pub sink-gained : xk.to < t.n → t.sinks.count < 88 → leads_to (owned xk.to (items_of t.sinks)) p ≡ false → (m : ℕ) → m ≡ length (owned xk.to (items_of t.sinks)) → (y z : Items) →
      (items_of y ≡ set (items_of t.sources) k (mark_item (m + 1) xk)) × (y.count ≡ t.sources.count) →
      (items_of z ≡ items_of t.sinks ++ one (sink_of p xk.to)) × (z.count ≡ t.sinks.count + 1) →
      SinkGained t k (record { n = t.n; cuts = t.cuts; names = t.names; lines = t.lines; sources = y; sinks = z })
  sink-gained hq room lacks m em y z hy hz =
      let xs : List Item = items_of t.sources in
      let ys : List Item = items_of t.sinks in
      let after : Owned (record { n = t.n; cuts = t.cuts; names = t.names; lines = t.lines; sources = y; sinks = z }) =
      record {
        nodes = b.nodes;
        source_room = omega (arith, b.source_room);
        sink_room = omega arith;
        source_owners = rw hy.0 (below_set t.n xs k (mark_item (m + 1) xk) hp b.source_owners);
        sink_owners = rw hz.0 (below_one t.n t.n ys (sink_of p xk.to) (omega arith) hq b.sink_owners);
        line_owners = b.line_owners;
      } in
      record {
        graph = rw (test_is true (lt-ltb xk.to t.n hq)) (rw (hy.0, hz.0, em) (sym (gains t.n (lines_of t) xs ys p j k f hp hq lacks)));
        linked = after;
        same = record { nodes = refl; cuts = refl; names = refl; lines = refl };
        source_count = hy.1;
        sink_count = omega arith;
        m = m + 1;
        marks = hy.0;
        fits = λ g f'.
            let fewer : suc (bares (set xs k (mark_item (m + 1) xk))) ≡ bares xs = gained-bares g xs ys p j k f f'.sinked lacks m em in
            let left : bares (items_of y) ≡ bares (set xs k (mark_item (m + 1) xk)) = ap bares hy.0 in
            let size : length (items_of z) ≡ length ys + 1 = ap (λ (l : List Item). length l) hz.0 ∙ length-append ys (one (sink_of p xk.to)) in (
              record {
                linked = after;
                sinked = rw (hy.0, hz.0) (gained-sinked g xs ys p j k f f'.sinked lacks m em);
                paired = rw (hy.0, hz.0) (gained-paired g xs ys p j k f f'.sinked lacks m em f'.paired);
                room = omega (arith, f'.room, hz.1, fewer, left);
                given = omega (arith, f'.given, size);
              },
              rw hz.0 (take-append-le g ys (one (sink_of p xk.to)) f'.given),
            );
      }

  kept : graph_of t ≡ cond (ltb xk.to (length (graph_of t))) stepped (graph_of t) → SinkGained t k t
  kept e =
      record {
        graph = e;
        linked = b;
        same = same_refl t;
        source_count = refl;
        sink_count = omega arith;
        m = xk.mark;
        marks = sym (set-get_or (items_of t.sources) k no_item);
        fits = λ g f'. (f', refl);
      }

  pub sink-kept : xk.to < t.n → leads_to (owned xk.to (items_of t.sinks)) p ≡ true → SinkGained t k t
  sink-kept hq leads = kept (keeps t.n (lines_of t) (items_of t.sources) (items_of t.sinks) p j k f hp hq leads ∙ sym (test_is true (lt-ltb xk.to t.n hq)))

  pub sink_out : t.n ≤ xk.to → SinkGained t k t
  sink_out hq = kept (sym (test_is false (le-ltb xk.to t.n hq)))

-- Before record k: the records from k on are as given, and what is left to do gives the whole.
pub record Right (g : ℕ) (t : Tables) (p : ℕ) (s : Tables) (k : ℕ) : Type 0 where
  pub same : SameBut t s
  pub count : s.sources.count ≡ t.sources.count
  pub fit : Fit g s
  pub given : take g (items_of s.sinks) ≡ take g (items_of t.sinks)
  pub size : length (items_of s.sources) ≡ length (items_of t.sources)
  pub ahead : drop k (items_of s.sources) ≡ drop k (items_of t.sources)
  pub rest : complete_sources (graph_of s) p (before p k (items_of s.sources)) (owned p (drop k (items_of t.sources))) ≡ complete_sources (graph_of t) p 0 (owned p (items_of t.sources))

-- the graph where source j of p, the record x, has its sink
abbrev gained_by : Graph → ℕ → ℕ → Item → Graph
gained_by u p j x = cond (ltb x.to (length u)) (gain_sink u p j (edge_of x)) u

module _ (g : ℕ) (t : Tables) (p : ℕ) (s : Tables) (k : ℕ) (l : Right g t p s k) where
  abbrev ts : List Item
  ts = items_of t.sources

  abbrev ss : List Item
  ss = items_of s.sources

  pub right_end : p < t.n → t.sources.count ≤ k → SourcesDone g t p s
  right_end hp h =
      record {
        graph =
            rw (node-graph t.n (lines_of t) ts (items_of t.sinks) p hp)
            (rw (owned-end p k ts (omega (arith, table_le t.sources))) at l.rest);
        fit = l.fit;
        same = l.same;
        count = l.count;
        given = l.given;
      }

  module _ (h : k < length ss) where
    in_given : k < length ts
    in_given = omega (arith, l.size)

    -- record k is as given, and so are those after it
    still : get_or ss k no_item ≡ get_or ts k no_item
    still = cc (l.ahead, drop-cons ss k no_item h, drop-cons ts k no_item in_given)

    further : drop (suc k) ss ≡ drop (suc k) ts
    further = cc (l.ahead, drop-cons ss k no_item h, drop-cons ts k no_item in_given)

    pub right-other : ((get_or ss k no_item).owner ≡ p → ⊥) → Right g t p s (k + 1)
    right-other o =
        record {
          same = l.same;
          count = l.count;
          fit = l.fit;
          given = l.given;
          size = l.size;
          ahead = rw add-one further;
          rest = rw (counted-other ss p k h o, add-one k, ← owned-other p k ts in_given (λ z. o (rw still z))) l.rest;
        }

    module _ (o : (get_or ss k no_item).owner ≡ p) where
      pub right-own : (r : Tables) → SinkGained s k r → Right g t p r (k + 1)
      right-own r h' =
          let y : Item = mark_item h'.m (get_or ss k no_item) in
          let rs : List Item = items_of r.sources in
          let front : take k rs ≡ take k ss = rw h'.marks (take-set-le k ss k y (omega arith)) in
          let at : get_or rs k no_item ≡ y = rw h'.marks (get_or-set_same ss k y no_item h) in
          let size : length rs ≡ length ss = rw h'.marks (length-set ss k y) in
          let step : graph_of r ≡ gained_by (graph_of s) p (before p k ss) (get_or ss k no_item) = subst (λ (q : ℕ). graph_of r ≡ gained_by (graph_of s) q (before q k ss) (get_or ss k no_item)) o h'.graph in
          let number : before p (k + 1) rs ≡ suc (before p k ss) = counted-own rs p k (omega arith) (ap (λ (x : Item). x.owner) at ∙ o) ∙ rw (front, add-one) in
          record {
            same = same_trans t s r l.same h'.same;
            count = h'.source_count ∙ l.count;
            fit = (h'.fits g l.fit).0;
            given = (h'.fits g l.fit).1 ∙ l.given;
            size = size ∙ l.size;
            ahead = rw (add-one k, h'.marks) (drop-set-lt (suc k) ss k y (omega arith) ∙ further);
            rest = rw (number, add-one k, step, still) (rw (owned-own p k ts in_given (sym (ap (λ (x : Item). x.owner) still) ∙ o)) at l.rest);
          }
