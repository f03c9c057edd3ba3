-- The arrays of ends hold the shape of the graph.
-- Assumes nothing.
use Prim.Native.Nat.{ℕ, zero, suc, ◌≤◌, ◌<◌}
use native.Mathlib.Omega.{arith}
use native.Mathlib.Nat.{le_of_suc-le-suc, not-suc-le-zero}
use mathlib.Core.Path.{◌≡◌, refl, sym, ◌∙◌}
use mathlib.Core.Bool.{Bool, true, false}
use mathlib.Core.List.{List, [], ◌∷◌, map}
use lib.Dec.{eqb}
use lib.ListN.{length, get_or, take, length-map, get_or-map}
use lib.Seq.{length-take-le, get_or-take}
use Rattle.laws.specs.Lists.{All, keep}
use Rattle.laws.proofs.Lists.{tabulate-same, map-tabulate, length-padded}
use Rattle.graph.specs.declared.Item.{Item}
use Rattle.graph.specs.Items.{Items}
use Rattle.graph.specs.declared.Tables.{Tables}
use Rattle.std.specs.Prelude.{Result, Ok}
use Rattle.refusals.specs.declared.Refusal.{Refusal}
use Rattle.graph.specs.Graph.{Edge, Graph, bare, node_at}
use Rattle.chart.specs.declared.Setting.{Setting}
use Rattle.graph.specs.Graphed.{Graphed, ready, refusal, graphed}
use Rattle.graph.specs.Outcome.{sources_from, sinks_from, tables_of, answer_of}
use Rattle.graph.specs.code.Graphs.{IsAnswer}
use Rattle.graph.specs.Shape.{incidents_at, targets, incidents_of, shape_of}
use Rattle.graph.specs.Ends.{lead_of, ends_in, targets_of, ends_of, incidents_in, shape_from, Linked}
use Rattle.graph.specs.code.Tables.{edge_of, owned, items_of, node_of, lines_of, graph_from, graph_of, Below, Aimed}
use Rattle.graph.specs.Outcome.{no_item}

-- ---- the shape
pub shape-long : (g : Graph) → length (shape_of g) ≡ length g
unfolding shape_of
shape-long g = length-map g incidents_of

pub shape_at : (g : Graph) (p : ℕ) → incidents_at (shape_of g) p ≡ incidents_of (node_at g p)
unfolding shape_of
shape_at g p = get_or-map incidents_of g p bare

map-keep : {A B : Type 0} (f : A → B) (b : Bool) (x : A) (l : List A) → map f (keep b x l) ≡ keep b (f x) (map f l)
map-keep f true x l = refl
map-keep f false x l = refl

targets-held : (p : ℕ) (xs : List Item) → targets_of p (map lead_of xs) ≡ targets (owned p xs)
targets-held p [] = refl
targets-held p (x ∷ xs) = rw (targets-held p xs) (sym (map-keep (λ (e : Edge). e.to) (eqb x.owner p) (edge_of x) (owned p xs)))

take-map : {A B : Type 0} (f : A → B) (k : ℕ) (l : List A) → take k (map f l) ≡ map f (take k l)
take-map f zero l = refl
take-map f (suc k) [] = refl
take-map f (suc k) (x ∷ l) = cc (take-map f k l)

pub ends_held : (t : Items) (p : ℕ) → ends_of (ends_in t) p ≡ targets (owned p (items_of t))
ends_held t p = rw (take-map lead_of t.count t.items) (targets-held p (items_of t))

pub shape-held : (t : Tables) → shape_from t.n (ends_in t.sources) (ends_in t.sinks) ≡ shape_of (graph_of t)
unfolding shape_from shape_of graph_from
shape-held t =
    tabulate-same (incidents_in (ends_in t.sources) (ends_in t.sinks)) (λ p. incidents_of (node_of (lines_of t) (items_of t.sources) (items_of t.sinks) p)) 0 t.n
    (λ p a b. cc (ends_held t.sources p, ends_held t.sinks p))
    ∙ sym (map-tabulate incidents_of (node_of (lines_of t) (items_of t.sources) (items_of t.sinks)) 0 t.n)

-- ---- each end is one node's and leads to a node
all-at : {A : Type 0} (P : A → Type 0) (d : A) (xs : List A) (k : ℕ) → All P xs → k < length xs → P (get_or xs k d)
all-at P d [] k a h = absurd (not-suc-le-zero h)
all-at P d (x ∷ xs) zero a h = a.0
all-at P d (x ∷ xs) (suc k) a h = all-at P d xs k a.1 (le_of_suc-le-suc h)

module _ (n : ℕ) (t : Items) (long : length t.items ≡ 88) (few : t.count ≤ 88) where
  field_below : (f : Item → ℕ) → All (λ x. f x < n) (items_of t) → (k : ℕ) → k < t.count → f (get_or t.items k no_item) < n
  field_below f a k h =
      let i : k < length (items_of t) = omega (arith, length-take-le t.count t.items (omega arith)) in
      let b : f (get_or (items_of t) k no_item) < n = all-at (λ x. f x < n) no_item (items_of t) k a i in
      rw (← get_or-take t.count t.items k no_item h) b

  pub linked-held : n ≤ 48 → Below n (items_of t) → Aimed n (items_of t) → Linked n (ends_in t)
  linked-held m a b =
      record {
        few = few;
        nodes = m;
        owner = λ k h. rw (get_or-map lead_of t.items k no_item) (field_below (λ x. x.owner) a k h);
        node = λ k h. rw (get_or-map lead_of t.items k no_item) (field_below (λ x. x.to) b k h);
      }

-- ---- the arrays of an answer are as long as they are declared
module _ (t : Tables) where
  items-long : (g : Graphed) → answer_of g ≡ Ok t → (length t.sources.items ≡ 88) × (length t.sinks.items ≡ 88)
  items-long (ready d) e = let z : tables_of d ≡ t = cc in rw (← z) (length-padded 88 no_item (sources_from 0 d.graph), length-padded 88 no_item (sinks_from 0 d.graph))
  items-long (refusal why) e = let z : ◌≡◌ {A = ℕ} 0 1 = cc in absurd (omega arith)

  module _ (w : Setting) (s : List ℕ) (r : Result Tables Refusal) (a : IsAnswer (graphed w s) r) (e : r ≡ Ok t) where
    pub sources-long : length t.sources.items ≡ 88
    sources-long = (items-long (graphed w s) (sym a.whole ∙ e)).0

    pub sinks-long : length t.sinks.items ≡ 88
    sinks-long = (items-long (graphed w s) (sym a.whole ∙ e)).1
