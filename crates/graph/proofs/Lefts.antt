-- The sinks of one node gain their sources: what each turn keeps.
-- Assumes nothing.
use Prim.Native.Nat.{ℕ, suc, ◌+◌, ◌≤◌, ◌<◌}
use native.Mathlib.Omega.{arith}
use native.Mathlib.Numerals.{add-one}
use mathlib.Core.Path.{◌≡◌, refl, ap, sym, ◌∙◌, subst}
use mathlib.Core.Bool.{Bool, true, false, cond}
use mathlib.Core.List.{List, ◌++◌}
use lib.Dec.{ltb}
use lib.ListN.{length, get_or, take, drop}
use lib.Seq.{get_or-take, length-take-le}
use borrow.Author.Tests.{ltb-true, ltb-false}
use Rattle.laws.specs.Lists.{one}
use Rattle.graph.specs.declared.Item.{Item}
use Rattle.graph.specs.Items.{Items}
use Rattle.graph.specs.declared.Tables.{Tables}
use Rattle.graph.specs.Graph.{Edge, Graph, has_marked, leads_to}
use Rattle.graph.specs.Completion.{gain_source, complete_sinks}
use Rattle.graph.specs.code.Tables.{owned, source_of, held, gained_in, graph_from, graph_of, lines_of, items_of, Below, Sinked, Paired, bares, Fit, SinksDone}
use Rattle.graph.specs.Outcome.{no_item}
use Rattle.graph.proofs.Lists.{any-marked, node-graph, owned-end, owned-other, owned-own}
use Rattle.graph.proofs.Gains.{gained_at, gain-graph}
use Rattle.graph.proofs.Cuts.{length-graph, below_one, counted-own, counted-other}
use Rattle.graph.proofs.Pairs.{leads-at, source_sinked, source_paired, source_bares}

-- Before record k, with i sinks of p gone through and the table s of sources: what is left to do gives the whole.
pub record Left (g : ℕ) (t : Tables) (p : ℕ) (s : Items) (i k : ℕ) : Type 0 where
  pub number : length (owned p (take k (items_of t.sinks))) ≡ i
  pub room : s.count + length (owned p (drop k (take g (items_of t.sinks)))) ≤ t.sources.count + length (owned p (take g (items_of t.sinks)))
  pub owners : Below t.n (items_of s)
  pub sinked : Sinked (items_of t.sinks) (items_of s)
  pub paired : Paired g (items_of s) (items_of t.sinks)
  pub same : bares (items_of s) ≡ bares (items_of t.sources)
  pub rest : complete_sinks (graph_from t.n (lines_of t) (items_of s) (items_of t.sinks)) p i (owned p (drop k (items_of t.sinks)))
      ≡ complete_sinks (graph_of t) p 0 (owned p (items_of t.sinks))

below-cond : (n : ℕ) (xs : List Item) (x : Item) → x.owner < n → Below n xs → (b : Bool) → Below n (cond b xs (xs ++ one x))
below-cond n xs x h a true = a
below-cond n xs x h a false = below_one n n xs x (omega arith) h a

-- the given records of p from k on
module _ (g p k : ℕ) (ys : List Item) (hg : g ≤ length ys) where
  abbrev zs : List Item
  zs = take g ys

  size : length zs ≡ g
  size = length-take-le g ys hg

  rest-none : g ≤ k → length (owned p (drop (suc k) zs)) ≡ 0
  rest-none h = ap (λ (l : List Edge). length l) (owned-end p (suc k) zs (omega (arith, size)))

  rest-own : k < g → (get_or ys k no_item).owner ≡ p → length (owned p (drop k zs)) ≡ suc (length (owned p (drop (suc k) zs)))
  rest-own h o = ap (λ (l : List Edge). length l) (owned-own p k zs (omega (arith, size)) (ap (λ (x : Item). x.owner) (get_or-take g ys k no_item h) ∙ o))

  rest-other : ((get_or ys k no_item).owner ≡ p → ⊥) → (b : Bool) → ltb k g ≡ b → length (owned p (drop (suc k) zs)) ≤ length (owned p (drop k zs))
  rest-other o true e =
      let h : k < g = ltb-true k g e in
      let q : length (owned p (drop k zs)) ≡ length (owned p (drop (suc k) zs))
      = ap (λ (l : List Edge). length l) (owned-other p k zs (omega (arith, size)) (λ z. o (sym (ap (λ (x : Item). x.owner) (get_or-take g ys k no_item h)) ∙ z))) in
      omega (arith, q)
  rest-other o false e = omega (arith, rest-none (ltb-false k g e))

  rest_more : (a b : ℕ) → b ≤ a + 1 → (g ≤ k → b ≡ a) → (get_or ys k no_item).owner ≡ p → (c : Bool) → ltb k g ≡ c → b + length (owned p (drop (suc k) zs)) ≤ a + length (owned p (drop k zs))
  rest_more a b h f o true e = omega (arith, h, rest-own (ltb-true k g e) o)
  rest_more a b h f o false e = omega (arith, rest-none (ltb-false k g e), f (ltb-false k g e))

module _ (g : ℕ) (t : Tables) (b : Fit g t) (p : ℕ) (hp : p < t.n) (s : Items) (i k : ℕ) (l : Left g t p s i k) where
  abbrev ys : List Item
  ys = items_of t.sinks

  abbrev done : Tables
  done = record { n = t.n; cuts = t.cuts; names = t.names; lines = t.lines; sources = s; sinks = t.sinks }

  pub left_end : t.sources.count + length (owned p (take g ys)) ≤ 64 → length ys ≤ k → SinksDone g t p done
  left_end room h =
      record {
        graph =
            rw (node-graph t.n (lines_of t) (items_of t.sources) ys p hp)
            (rw (owned-end p k ys h) at l.rest);
        fit =
            record {
              linked =
                  record {
                    nodes = b.linked.nodes;
                    source_room = omega (arith, l.room, room);
                    sink_room = b.linked.sink_room;
                    source_owners = l.owners;
                    sink_owners = b.linked.sink_owners;
                    line_owners = b.linked.line_owners;
                  };
              sinked = l.sinked;
              paired = l.paired;
              room = omega (arith, b.room, l.same);
              given = b.given;
            };
        same = record { nodes = refl; cuts = refl; names = refl; lines = refl };
        sinks = refl;
        count = omega (arith, l.room);
      }

  module _ (h : k < length ys) where
    abbrev e : Item
    e = get_or ys k no_item

    pub left_other : (e.owner ≡ p → ⊥) → Left g t p s i (k + 1)
    left_other o =
        record {
          number = counted-other ys p k h o ∙ l.number;
          room = rw (add-one k) (omega (arith, l.room, rest-other g p k ys b.given o (ltb k g) refl));
          owners = l.owners;
          sinked = l.sinked;
          paired = l.paired;
          same = l.same;
          rest = rw (add-one k, ← owned-other p k ys h o) l.rest;
        }

    module _ (o : e.owner ≡ p) where
      hit : g ≤ k → has_marked (owned e.to (items_of s)) p i ≡ true
      hit a =
          subst (λ (n : ℕ). has_marked (owned e.to (items_of s)) p n ≡ true) l.number
          (subst (λ (n : ℕ). has_marked (owned e.to (items_of s)) n (length (owned n (take k ys))) ≡ true) o (l.paired k a h))

      leads : leads_to (owned p ys) e.to ≡ true
      leads = leads-at ys k p e.to h o refl

      abbrev now : Graph
      now = graph_from t.n (lines_of t) (items_of s) ys

      rest-now : complete_sinks (cond (ltb e.to (length now)) (gain_source now p i e.to) now) p (suc i) (owned p (drop (suc k) ys)) ≡ complete_sinks (graph_of t) p 0 (owned p ys)
      rest-now = rw (owned-own p k ys h o) at l.rest

      test_now : (c : Bool) → ltb e.to t.n ≡ c → ltb e.to (length now) ≡ c
      test_now c z = ap (ltb e.to) (length-graph t.n (lines_of t) (items_of s) ys) ∙ z

      left_by : (r : Items) → (d : Bool) → ltb e.to t.n ≡ d → items_of r ≡ cond d (gained_at (items_of s) p i e.to) (items_of s) → r.count ≤ s.count + 1 →
          (has_marked (owned e.to (items_of s)) p i ≡ true → r.count ≡ s.count) → Left g t p r (i + 1) (k + 1)
      left_by r true z f c c' =
          let to_in : e.to < t.n = ltb-true e.to t.n z in
          let m : Bool = has_marked (owned e.to (items_of s)) p i in
          record {
            number = counted-own ys p k h o ∙ ap (λ (n : ℕ). n + 1) l.number;
            room = rw (add-one k) (omega (arith, l.room, rest_more g p k ys b.given s.count r.count c (λ a. c' (hit a)) o (ltb k g) refl));
            owners = rw f (below-cond t.n (items_of s) (source_of p i e.to) to_in l.owners m);
            sinked = rw f (source_sinked g ys (items_of s) p i e.to leads m l.sinked);
            paired = rw f (source_paired g ys (items_of s) p i e.to leads m l.paired);
            same = rw f (source_bares g ys (items_of s) p i e.to leads m) ∙ l.same;
            rest =
                rw (add-one k, add-one i, f, ← gain-graph t.n (lines_of t) (items_of s) ys p i e.to to_in)
                (rw (test_now true z) at rest-now);
          }
      left_by r false z f c c' =
          record {
            number = counted-own ys p k h o ∙ ap (λ (n : ℕ). n + 1) l.number;
            room = rw (add-one k) (omega (arith, l.room, rest_more g p k ys b.given s.count r.count c (λ a. c' (hit a)) o (ltb k g) refl));
            owners = rw f l.owners;
            sinked = rw f l.sinked;
            paired = rw f l.paired;
            same = ap bares f ∙ l.same;
            rest = rw (add-one k, add-one i, f) (rw (test_now false z) at rest-now);
          }

      pub left-own : (r : Items) → items_of r ≡ gained_in t.n (items_of s) (source_of p i e.to) → r.count ≤ s.count + 1 → (held (source_of p i e.to) (items_of s) ≡ true → r.count ≡ s.count) → Left g t p r (i + 1) (k + 1)
      left-own r f c c' = left_by r (ltb e.to t.n) refl (rw (any-marked e.to p i (items_of s)) at f) c (rw (any-marked e.to p i (items_of s)) at c')
