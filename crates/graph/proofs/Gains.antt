-- A record at the end of the table of sources is a source at the end of its node's list.
-- Assumes nothing.
use Prim.Native.Nat.{ℕ, ◌<◌}
use native.Mathlib.Omega.{arith}
use native.Mathlib.Nat.{zero-add}
use native.Mathlib.Numerals.{add-one}
use mathlib.Core.Path.{◌≡◌, refl, ◌∙◌}
use mathlib.Core.Bool.{Bool, true, false, cond}
use mathlib.Core.Option.{some}
use mathlib.Core.List.{List, [], ◌++◌, append-nil}
use lib.ListN.{get_or, set}
use borrow.Author.Tests.{eq-eqb, ne_eqb}
use Rattle.laws.specs.Lists.{one}
use Rattle.laws.proofs.Lists.{tabulate-set, owned-append}
use Rattle.graph.specs.declared.Item.{Item}
use Rattle.graph.specs.Graph.{Node, Line, has_marked, no_text}
use Rattle.graph.specs.Completion.{gain_source}
use Rattle.graph.specs.code.Tables.{owned, edge_of, source_of, node_of, graph_from}
use Rattle.graph.proofs.Lists.{node-graph}

pub owned-join : (p : ℕ) (xs ys : List Item) → owned p (xs ++ ys) ≡ owned p xs ++ owned p ys
owned-join = owned-append (λ (r : Item). r.owner) edge_of

pub owned-new : (p : ℕ) (xs : List Item) (r : Item) → r.owner ≡ p → owned p (xs ++ one r) ≡ owned p xs ++ one (edge_of r)
owned-new p xs r e = owned-join p xs (one r) ∙ rw (eq-eqb r.owner p e)

pub owned-old : (p : ℕ) (xs : List Item) (r : Item) → (r.owner ≡ p → ⊥) → owned p (xs ++ one r) ≡ owned p xs
owned-old p xs r e = owned-join p xs (one r) ∙ rw (ne_eqb r.owner p e, append-nil (owned p xs))

-- the records of the sources, where the graph tells whether sink i of p has its source at q
abbrev pub gained_at : List Item → ℕ → ℕ → ℕ → List Item
gained_at xs p i q = cond (has_marked (owned q xs) p i) xs (xs ++ one (source_of p i q))

-- the graph gains the source that the table gains
module _ (n : ℕ) (ls : List (List Line)) (xs ys : List Item) (p i q : ℕ) (h : q < n) where
  abbrev fresh : Item
  fresh = source_of p i q

  abbrev more : Node
  more = record { sources = owned q xs ++ one (record { to = p; mark = some i; text = no_text }); lines = get_or ls q []; sinks = owned q ys }

  pushed : set (graph_from n ls xs ys) q more ≡ graph_from n ls (xs ++ one fresh) ys
  unfolding graph_from
  pushed =
      tabulate-set (node_of ls xs ys) (node_of ls (xs ++ one fresh) ys) more 0 n q h
      (rw (zero-add q, owned-new q xs fresh refl, add-one i))
      (λ m o. rw (owned-old m xs fresh (λ e. o (omega arith))))

  either : (b : Bool) → cond b (graph_from n ls xs ys) (set (graph_from n ls xs ys) q more) ≡ graph_from n ls (cond b xs (xs ++ one fresh)) ys
  either true = refl
  either false = pushed

  pub gain-graph : gain_source (graph_from n ls xs ys) p i q ≡ graph_from n ls (gained_at xs p i q) ys
  gain-graph = rw (node-graph n ls xs ys q h) (either (has_marked (owned q xs) p i))
