-- The first columns of a graph, from the ends of its nodes and from its tables.
-- Assumes nothing.
use Prim.Native.Nat.{ℕ}
use native.Mathlib.Omega.{arith}
use mathlib.Core.Path.{◌≡◌, ap, sym, subst, ◌∙◌}
use mathlib.Core.List.{List}
use lib.ListN.{length, take}
use Rattle.std.specs.Prelude.{Some, Result, Ok, Err}
use Rattle.laws.proofs.Lists.{take-padded, length-tabulate}
use Rattle.tables.specs.declared.Table.{Table}
use Rattle.refusals.specs.Refusals.{numbers_in}
use Rattle.refusals.specs.declared.Refusal.{Refusal}
use Rattle.graph.specs.declared.Tables.{Tables}
use Rattle.graph.specs.Items.{Ends}
use Rattle.chart.specs.declared.Setting.{Setting}
use Rattle.graph.specs.Graphed.{ready as cut, refusal as refused, graphed}
use Rattle.graph.specs.code.Graphs.{IsAnswer}
use Rattle.graph.specs.Shape.{Shape, shape_of}
use Rattle.graph.specs.Ends.{ends_in, shape_from, Linked as EndsLinked}
use Rattle.graph.specs.code.Tables.{Linked, graph_of}
use Rattle.graph.proofs.EndsLaws.{shape-held, linked-held, sources-long, sinks-long}
use Rattle.order.specs.Chains.{columns}
use Rattle.order.specs.Claims.{EachOnce}
use Rattle.order.specs.Ordered.{ready, refusal, ordered, columns_held, answer_of, IsOrder, columns_in, IsColumns}
use Rattle.order.proofs.Nodes.{each-once}
use Rattle.order.proofs.Links.{linked_yes}
use Rattle.order.proofs.Pushed.{shape_size, shape-aimed}

pub columns-long : (g : Shape) → length (columns g) ≡ length g
unfolding columns
columns-long g = length-tabulate _ 0 (length g)

-- ---- from the ends of all nodes
module _ (n : ℕ) (sources sinks : Ends) (l : EndsLinked n sources) (m : EndsLinked n sinks) where
  size_in : length (columns (shape_from n sources sinks)) ≡ n
  size_in = columns-long (shape_from n sources sinks) ∙ shape_size n sources sinks l m

  once_in : EachOnce n (columns (shape_from n sources sinks))
  once_in = subst (λ (k : ℕ). EachOnce k (columns (shape_from n sources sinks))) (shape_size n sources sinks l m) (each-once (shape_from n sources sinks) (shape-aimed n sources sinks l m))

  -- the table that holds them
  items_in : take n (columns_held (columns (shape_from n sources sinks))).items ≡ columns (shape_from n sources sinks)
  items_in = let cs = columns (shape_from n sources sinks) in ap (λ (k : ℕ). take k (columns_held cs).items) (sym size_in) ∙ take-padded 48 0 cs (omega (arith, size_in, l.nodes))

  -- what `order_of` answers, and that each node has a column of its own
  pub columns_in_lem : columns_in n sources sinks ≡ Some (columns_held (columns (shape_from n sources sinks)))
  unfolding columns_in
  columns_in_lem = rw (linked_yes n sources l, linked_yes n sinks m)

  pub columns-are : (cs : Table ℕ 48) → cs ≡ columns_held (columns (shape_from n sources sinks)) → IsColumns n sources sinks (Some cs)
  columns-are cs e =
      record {
        whole = ap Some e ∙ sym columns_in_lem;
        count = λ ds h. let i : ds ≡ columns_held (columns (shape_from n sources sinks)) = cc in rw i size_in;
        each = λ ds h. let i : ds ≡ columns_held (columns (shape_from n sources sinks)) = cc in rw (i, items_in) once_in;
      }

-- ---- from the tables
module _ (t : Tables) (long : length t.sources.items ≡ 88) (long₂ : length t.sinks.items ≡ 88) (l : Linked t) where
  pub sources-linked : EndsLinked t.n (ends_in t.sources)
  sources-linked = linked-held t.n t.sources long l.source_room l.nodes l.source_owners l.source_aims

  pub sinks-linked : EndsLinked t.n (ends_in t.sinks)
  sinks-linked = linked-held t.n t.sinks long₂ l.sink_room l.nodes l.sink_owners l.sink_aims

  pub size : length (columns (shape_of (graph_of t))) ≡ t.n
  size = rw (← shape-held t) (size_in t.n (ends_in t.sources) (ends_in t.sinks) sources-linked sinks-linked)

  pub once : EachOnce (length (columns (shape_of (graph_of t)))) (columns (shape_of (graph_of t)))
  once = rw (size, ← shape-held t) (once_in t.n (ends_in t.sources) (ends_in t.sinks) sources-linked sinks-linked)

-- ---- what `order` promises, from what `graph` does
module _ (w : Setting) (s : List ℕ) (o : Result Tables Refusal) (a : IsAnswer (graphed w s) o) where
  refused_none : {A : Type 0} (why : Refusal) (cs : List ℕ) → refusal why ≡ ready cs → A
  refused_none why cs e = let z : ◌≡◌ {A = ℕ} 0 1 = cc in absurd (omega arith)

  ready-same : (cs ds : List ℕ) → ready cs ≡ ready ds → cs ≡ ds
  ready-same cs ds e = cc

  pub order-refused : (why : Refusal) → o ≡ Err why → IsOrder w s (Err why)
  unfolding ordered
  order-refused why q =
      let g : graphed w s ≡ refused why = sym a.graphs ∙ rw q in
      let is : Err why ≡ answer_of (ordered w s) = rw g in
      record { whole = is; refused = λ u e. is ∙ ap answer_of e; numbers = λ u e. ap numbers_in (is ∙ ap answer_of e); each = λ cs h. refused_none why cs (rw g at h) }

  pub order-ready : (t : Tables) → o ≡ Ok t → (r : Table ℕ 48) → r ≡ columns_held (columns (shape_of (graph_of t))) → IsOrder w s (Ok r)
  unfolding ordered
  order-ready t q r e =
      let g : graphed w s ≡ cut (record { graph = graph_of t; cuts = t.cuts }) = sym a.graphs ∙ rw q in
      let is : Ok r ≡ answer_of (ordered w s) = rw (g, e) in
      record {
        whole = is;
        refused = λ u f. is ∙ ap answer_of f;
        numbers = λ u f. ap numbers_in (is ∙ ap answer_of f);
        each = λ cs h.
            subst (λ (ds : List ℕ). EachOnce (length ds) ds) (ready-same (columns (shape_of (graph_of t))) cs (rw g at h)) (once t (sources-long t w s o a q) (sinks-long t w s o a q) (a.linked t q));
      }
