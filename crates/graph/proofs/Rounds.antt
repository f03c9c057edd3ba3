-- Edge completion, node by node: the tables have room.
-- Assumes nothing.
use Prim.Native.Nat.{ℕ, suc, ◌+◌, ◌-◌, ◌≤◌, ◌<◌}
use native.Mathlib.Omega.{arith}
use native.Mathlib.Numerals.{add-one}
use mathlib.Core.Path.{◌≡◌, refl, ap, sym, ◌∙◌, subst}
use mathlib.Core.List.{List}
use lib.ListN.{length, take, replicate, get_or-replicate}
use Rattle.laws.specs.Each.{each}
use Rattle.laws.proofs.Each.{next}
use Rattle.graph.specs.declared.Item.{Item}
use Rattle.graph.specs.Items.{Items}
use Rattle.graph.specs.declared.Name.TheVariants.{Nothing}
use Rattle.graph.specs.declared.Tables.{Tables}
use Rattle.graph.specs.Graph.{Graph, node_at}
use Rattle.graph.specs.Completion.{complete_sources, complete_node, complete}
use Rattle.graph.specs.code.Tables.{owned, items_of, graph_of, lines_of, dues, Fit, SinksDone, SourcesDone, SameBut, Charted, Completed}
use Rattle.graph.proofs.Lists.{take_le, table_le}
use Rattle.graph.proofs.Cuts.{length-graph}
use Rattle.graph.proofs.Sinks.{same_refl, same_trans}
use Rattle.graph.proofs.Pairs.{sinked-bare, bares_le, dues_le}

-- Before node p: what is left to do gives the whole.
pub record Doing (g : ℕ) (t s : Tables) (p : ℕ) : Type 0 where
  pub within : p ≤ t.n
  pub small : t.n ≤ 32
  pub fit : Fit g s
  pub same : SameBut t s
  pub given : take g (items_of s.sinks) ≡ take g (items_of t.sinks)
  pub room : s.sources.count + dues (take g (items_of t.sinks)) p (t.n - p) ≤ 64
  pub rest : graph_of s ≡ each (graph_of t) (λ q h. complete_node h q) p
  pub names : t.names ≡ replicate 48 Nothing

done : (t : Tables) → each (graph_of t) (λ q h. complete_node h q) t.n ≡ complete (graph_of t)
unfolding complete
done t = ap (each (graph_of t) (λ q h. complete_node h q)) (sym (length-graph t.n (lines_of t) (items_of t.sources) (items_of t.sinks)))

pub doing_first : (t : Tables) → Charted t → Doing (length (items_of t.sinks)) t t 0
unfolding each
doing_first t c =
    let xs = items_of t.sources in
    let ys = items_of t.sinks in
    let sx : length xs ≤ t.sources.count = table_le t.sources in
    let sy : length ys ≤ t.sinks.count = table_le t.sinks in
    let sz : length (take (length ys) ys) ≤ length ys = take_le (length ys) ys in
    record {
      within = omega arith;
      small = c.nodes;
      fit =
          record {
            linked =
                record {
                  nodes = omega (arith, c.nodes);
                  source_room = omega (arith, c.room);
                  sink_room = omega (arith, c.room);
                  source_owners = c.source_owners;
                  sink_owners = c.sink_owners;
                  line_owners = c.line_owners;
                };
            sinked = sinked-bare ys xs c.bare;
            paired = λ k a b. absurd (omega (arith, a, b));
            room = omega (arith, c.room, bares_le xs, sx);
            given = omega arith;
          };
      same = same_refl t;
      given = refl;
      room = omega (arith, c.room, dues_le (take (length ys) ys) 0 (t.n - 0), sx, sy, sz);
      rest = refl;
      names = c.names;
    }

module _ (g : ℕ) (t s : Tables) (p : ℕ) (d : Doing g t s p) where
  abbrev zs : List Item
  zs = take g (items_of t.sinks)

  pub doing_last : t.n ≤ p → Completed t s
  doing_last h =
      let z : p ≡ t.n = omega (arith, d.within) in
      record {
        graph = d.rest ∙ ap (each (graph_of t) (λ q u. complete_node u q)) z ∙ done t;
        same = d.same;
        source_count = omega (arith, d.room);
        sink_count = omega (arith, d.fit.room);
        standing = record { owned = d.fit.linked; blank = λ k a b. rw (d.same.names, d.names) (get_or-replicate 48 k Nothing Nothing b) };
      }

  module _ (h : p < t.n) where
    one_less : t.n - p ≡ suc (t.n - (p + 1))
    one_less = omega arith

    room-now : s.sources.count + (length (owned p zs) + dues zs (suc p) (t.n - (p + 1))) ≤ 64
    room-now = subst (λ (m : ℕ). s.sources.count + dues zs p m ≤ 64) one_less d.room

    pub doing_room : s.sources.count + length (owned p (take g (items_of s.sinks))) ≤ 64
    doing_room = rw d.given (omega (arith, room-now))

    pub doing_next : (x : Tables) → SinksDone g s p x → (r : Tables) → SourcesDone g x p r → Doing g t r (p + 1)
    doing_next x a r b =
        let same : graph_of r ≡ complete_node (graph_of s) p = b.graph ∙ ap (λ (u : Graph). complete_sources u p 0 (node_at u p).sources) a.graph in
        let count : x.sources.count ≤ s.sources.count + length (owned p zs) = subst (λ (l : List Item). x.sources.count ≤ s.sources.count + length (owned p l)) d.given a.count in
        record {
          within = omega arith;
          small = d.small;
          fit = b.fit;
          same = same_trans t s r d.same (same_trans s x r a.same b.same);
          given = b.given ∙ ap (λ (y : Items). take g (items_of y)) a.sinks ∙ d.given;
          room = subst (λ (m : ℕ). r.sources.count + dues zs m (t.n - (p + 1)) ≤ 64) (sym (add-one p)) (omega (arith, room-now, count, b.count));
          rest = same ∙ ap (λ (u : Graph). complete_node u p) d.rest ∙ sym (next (graph_of t) (λ q u. complete_node u q) p);
          names = d.names;
        }
