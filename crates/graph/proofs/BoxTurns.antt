-- One turn of the loop over the ends of a node: what holds before it gives what holds after it, and the room for a box.
-- Assumes nothing.
use Prim.Native.Nat.{ℕ, ◌+◌, ◌≤◌, ◌<◌}
use native.Mathlib.Omega.{arith}
use mathlib.Core.Path.{◌≡◌, refl, ap, sym, ◌∙◌}
use mathlib.Core.Bool.{Bool}
use mathlib.Core.List.{List}
use lib.Dec.{ltb}
use lib.ListN.{length, get_or, set, take}
use Rattle.std.proofs.lemmas.List.{length-take, take-take}
use borrow.Author.Tests.{lt-ltb}
use Rattle.tables.specs.Tables.{pushed_if}
use Rattle.graph.specs.declared.Item.{Item}
use Rattle.graph.specs.Items.{Items}
use Rattle.graph.specs.declared.Name.TheVariants.{Invalid}
use Rattle.graph.specs.declared.Tables.{Tables}
use Rattle.graph.specs.Joining.{join_sink, join_source, join_sinks, join_sources}
use Rattle.graph.specs.Outcome.{no_item}
use Rattle.graph.specs.code.Tables.{owned, edge_of, items_of, graph_of, lines_of, source_of, sink_of, point_item, Sunk, Fits}
use Rattle.graph.proofs.Lists.{push-items, put-item, table-size}
use Rattle.graph.proofs.Cuts.{length-graph}
use Rattle.graph.proofs.Boxes.{Going, going_other, going_sunk, going_at, going_fits, going_own, end_kept, sink-joined, source_joined, sink_room, source_room, sinks-within, sources-within, sources-held, sinks-held}

-- record k of a table leads to a
abbrev pub pointed_at : Items → ℕ → ℕ → Items
pointed_at t k a = record { items = set t.items k (point_item a (get_or t.items k no_item)); count = t.count }

-- ---- the sinks of p
module _ (t : Tables) (n p : ℕ) (hp : p < t.n) (f : Fits (join_sinks n (graph_of t) p 0 (owned p (items_of t.sinks)))) (s : Tables) (i k : ℕ) (l : Going (λ u. u.sinks) (join_sink n) (join_sinks n) t p s i k)
    (h : k < length (items_of t.sinks)) where
  abbrev xs₁ : List Item
  xs₁ = items_of s.sinks

  abbrev e₁ : Item
  e₁ = get_or s.sinks.items k no_item

  same₁ : get_or xs₁ k no_item ≡ e₁
  same₁ = going_at (λ u. u.sinks) (join_sink n) (join_sinks n) (λ g p i e es. refl) t p s i k l h

  pub sinks-other : (e₁.owner ≡ p → ⊥) → Going (λ u. u.sinks) (join_sink n) (join_sinks n) t p s i (k + 1)
  sinks-other o = going_other (λ u. u.sinks) (join_sink n) (join_sinks n) (λ g p i e es. refl) t p s i k l h o

  module _ (o : e₁.owner ≡ p) where
    sunk₁ : Sunk xs₁ p i k
    sunk₁ = going_sunk (λ u. u.sinks) (join_sink n) (join_sinks n) (λ g p i e es. refl) t p s i k l h o

    -- it leads to one of the n nodes
    pub sinks-kept : e₁.to < n → Going (λ u. u.sinks) (join_sink n) (join_sinks n) t p s (i + 1) (k + 1)
    sinks-kept z =
        going_own (λ u. u.sinks) (join_sink n) (join_sinks n) (λ g p i e es. refl) t p s i k l h o s
        (end_kept (λ u. u.sinks) (join_sink n) s p i k l.standing (rw (same₁, lt-ltb e₁.to n z)))

    -- it leads to none: there is room for its box
    module _ (out : n ≤ e₁.to) where
      fits₁ : Fits (join_sink n (graph_of s) p i (edge_of (get_or xs₁ k no_item)))
      fits₁ = going_fits (λ u. u.sinks) (join_sink n) (join_sinks n) (λ g p i e es. refl) t p s i k l h o (sinks-within n) f

      pub sinks-room : s.n < 48
      sinks-room = omega (arith, (sink_room n (graph_of s) p i (edge_of (get_or xs₁ k no_item)) (rw same₁ out) fits₁).0, length-graph s.n (lines_of s) (items_of s.sources) (items_of s.sinks))

      -- and the tables with it
      pub sinks-joined : length s.names ≡ 48 → length s.sources.items ≡ 88 → (m : ℕ) → m ≡ length (owned p (take k s.sinks.items)) → (room : Bool) (r : Items) → room ≡ ltb s.sources.count 88 → r ≡ pushed_if room s.sources (source_of p m s.n) →
          Going (λ u. u.sinks) (join_sink n) (join_sinks n) t p (record { n = s.n + 1; cuts = s.cuts; names = set s.names s.n (Invalid e₁.to); lines = s.lines; sources = r; sinks = pointed_at s.sinks k s.n }) (i + 1) (k + 1)
      sinks-joined names long m number room r b e =
          let q : Tables = record { n = s.n + 1; cuts = s.cuts; names = set s.names s.n (Invalid e₁.to); lines = s.lines; sources = r; sinks = pointed_at s.sinks k s.n } in
          let inside : k < s.sinks.count = omega (arith, sunk₁.inside, length-take s.sinks.count s.sinks.items) in
          let left : s.sources.count < 88 =
          omega (arith, (sink_room n (graph_of s) p i (edge_of (get_or xs₁ k no_item)) (rw same₁ out) fits₁).1, sources-held (lines_of s) (items_of s.sources) (items_of s.sinks) s.n l.standing.owned.source_owners, table-size s.sources long l.standing.owned.source_room) in
          let counted : m ≡ i = number ∙ ap (λ (l : List Item). length (owned p l)) (sym (take-take k s.sinks.count s.sinks.items (omega arith))) ∙ sunk₁.number in
          let more = push-items s.sources (source_of p i s.n) room r b (rw counted at e) long left in
          let put : items_of (pointed_at s.sinks k s.n) ≡ set xs₁ k (point_item s.n (get_or xs₁ k no_item)) = put-item s.sinks k (point_item s.n e₁) inside ∙ rw same₁ in
          going_own (λ u. u.sinks) (join_sink n) (join_sinks n) (λ g p i e es. refl) t p s i k l h o q
          (sink-joined s q l.standing n p i k (omega (arith, hp, l.more)) sinks-room names e₁.to refl refl refl sunk₁ (ap (λ (x : Item). x.to) same₁) out more.0 put more.1 refl left refl)

-- ---- the sources of p
module _ (t : Tables) (n p : ℕ) (hp : p < t.n) (f : Fits (join_sources n (graph_of t) p 0 (owned p (items_of t.sources)))) (s : Tables) (i k : ℕ) (l : Going (λ u. u.sources) (join_source n) (join_sources n) t p s i k)
    (h : k < length (items_of t.sources)) where
  abbrev xs₂ : List Item
  xs₂ = items_of s.sources

  abbrev e₂ : Item
  e₂ = get_or s.sources.items k no_item

  same₂ : get_or xs₂ k no_item ≡ e₂
  same₂ = going_at (λ u. u.sources) (join_source n) (join_sources n) (λ g p i e es. refl) t p s i k l h

  pub sources-other : (e₂.owner ≡ p → ⊥) → Going (λ u. u.sources) (join_source n) (join_sources n) t p s i (k + 1)
  sources-other o = going_other (λ u. u.sources) (join_source n) (join_sources n) (λ g p i e es. refl) t p s i k l h o

  module _ (o : e₂.owner ≡ p) where
    sunk₂ : Sunk xs₂ p i k
    sunk₂ = going_sunk (λ u. u.sources) (join_source n) (join_sources n) (λ g p i e es. refl) t p s i k l h o

    -- it leads to one of the n nodes
    pub sources-kept : e₂.to < n → Going (λ u. u.sources) (join_source n) (join_sources n) t p s (i + 1) (k + 1)
    sources-kept z =
        going_own (λ u. u.sources) (join_source n) (join_sources n) (λ g p i e es. refl) t p s i k l h o s
        (end_kept (λ u. u.sources) (join_source n) s p i k l.standing (rw (same₂, lt-ltb e₂.to n z)))

    -- it leads to none: there is room for its box
    module _ (out : n ≤ e₂.to) where
      fits₂ : Fits (join_source n (graph_of s) p i (edge_of (get_or xs₂ k no_item)))
      fits₂ = going_fits (λ u. u.sources) (join_source n) (join_sources n) (λ g p i e es. refl) t p s i k l h o (sources-within n) f

      pub sources-room : s.n < 48
      sources-room = omega (arith, (source_room n (graph_of s) p i (edge_of (get_or xs₂ k no_item)) (rw same₂ out) fits₂).0, length-graph s.n (lines_of s) (items_of s.sources) (items_of s.sinks))

      -- and the tables with it
      pub sources-joined : length s.names ≡ 48 → length s.sinks.items ≡ 88 → (room : Bool) (r : Items) → room ≡ ltb s.sinks.count 88 → r ≡ pushed_if room s.sinks (sink_of p s.n) →
          Going (λ u. u.sources) (join_source n) (join_sources n) t p (record { n = s.n + 1; cuts = s.cuts; names = set s.names s.n (Invalid e₂.to); lines = s.lines; sources = pointed_at s.sources k s.n; sinks = r }) (i + 1) (k + 1)
      sources-joined names long room r b e =
          let q : Tables = record { n = s.n + 1; cuts = s.cuts; names = set s.names s.n (Invalid e₂.to); lines = s.lines; sources = pointed_at s.sources k s.n; sinks = r } in
          let inside : k < s.sources.count = omega (arith, sunk₂.inside, length-take s.sources.count s.sources.items) in
          let left : s.sinks.count < 88 =
          omega (arith, (source_room n (graph_of s) p i (edge_of (get_or xs₂ k no_item)) (rw same₂ out) fits₂).1, sinks-held (lines_of s) (items_of s.sources) (items_of s.sinks) s.n l.standing.owned.sink_owners, table-size s.sinks long l.standing.owned.sink_room) in
          let more = push-items s.sinks (sink_of p s.n) room r b e long left in
          let put : items_of (pointed_at s.sources k s.n) ≡ set xs₂ k (point_item s.n (get_or xs₂ k no_item)) = put-item s.sources k (point_item s.n e₂) inside ∙ rw same₂ in
          going_own (λ u. u.sources) (join_source n) (join_sources n) (λ g p i e es. refl) t p s i k l h o q
          (source_joined s q l.standing n p i k (omega (arith, hp, l.more)) sources-room names e₂.to refl refl refl sunk₂ (ap (λ (x : Item). x.to) same₂) out put more.0 refl more.1 left refl)
