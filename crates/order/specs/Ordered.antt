-- Modules 4 and 5 from the chart's bytes: each node's first column, or the refusal that module 3 gives.
-- Assumes nothing.
use Rattle.std.specs.Prelude.{ℕ, ◌≡◌, Bool, cond, ◌&&◌, List, Option, Some, None, Result, Ok, Err, leb, ltb, length, take}
use Rattle.laws.specs.Bytes.{all_of}
use Rattle.laws.specs.Lists.{padded}
use Rattle.tables.specs.declared.Table.{Table}
use Rattle.refusals.specs.Refusals.{numbers_of, numbers_in}
use Rattle.refusals.specs.declared.Refusal.{Refusal}
use Rattle.chart.specs.declared.Setting.{Setting}
use Rattle.graph.specs.Graphed.{Graphed, ready as cut, refusal as refused, graphed}
use Rattle.graph.specs.declared.Lead.{Lead}
use Rattle.graph.specs.Items.{Ends}
use Rattle.graph.specs.Ends.{shape_from}
use Rattle.graph.specs.Shape.{shape_of}
use Rattle.order.specs.Chains.{columns}
use Rattle.order.specs.Claims.{EachOnce}

-- the first columns, or a refusal
pub data Ordered : Type 0 where
  ready : List ℕ → Ordered
  refusal : Refusal → Ordered

abbrev pub drawn : Graphed → Ordered
drawn (cut d) = ready (columns (shape_of d.graph))
drawn (refused why) = refusal why

-- the first columns of a chart's nodes in a setting, or the first of the refusals 1 to 13
unfoldable pub ordered : Setting → List ℕ → Ordered
ordered w s = drawn (graphed w s)

-- the columns in fixed memory, that of node p at p, and 0 past them
abbrev pub columns_held : List ℕ → Table ℕ 48
columns_held cs = record { items = padded 48 0 cs; count = length cs }

-- the answer: each entry is fixed, past the count too
abbrev pub answer_of : Ordered → Result (Table ℕ 48) Refusal
answer_of (ready cs) = Ok (columns_held cs)
answer_of (refusal why) = Err why

-- what `order` promises
pub record IsOrder (w : Setting) (s : List ℕ) (r : Result (Table ℕ 48) Refusal) : Type 0 where
  -- every entry of the answer is the definition's
  pub whole : r ≡ answer_of (ordered w s)
  -- a refusal is document 01's first
  pub refused : (why : Refusal) → ordered w s ≡ refusal why → r ≡ Err why
  pub numbers : (why : Refusal) → ordered w s ≡ refusal why → numbers_in r ≡ numbers_of why
  -- the columns are 0, 2, .. 2(N - 1), each node exactly one
  pub each : (cs : List ℕ) → ordered w s ≡ ready cs → EachOnce (length cs) cs

-- ---- the same from the ends of all nodes
-- n nodes: the counts are within the arrays, and each end is one node's and leads to a node
abbrev pub linked_of : ℕ → Ends → Bool
linked_of n e = leb n 48 && (leb e.count 88 && all_of (λ (l : Lead). ltb l.owner n && ltb l.to n) (take e.count e.items))

-- where the ends are linked, the first columns of n nodes with these sources and sinks
unfoldable pub columns_in : ℕ → Ends → Ends → Option (Table ℕ 48)
columns_in n sources sinks = cond (linked_of n sources && linked_of n sinks) (Some (columns_held (columns (shape_from n sources sinks)))) None

-- what `order_of` promises
pub record IsColumns (n : ℕ) (sources sinks : Ends) (r : Option (Table ℕ 48)) : Type 0 where
  -- every entry is the definition's, past the nodes too; there are none only where the ends are not linked
  pub whole : r ≡ columns_in n sources sinks
  -- there are n columns: 0, 2, .. 2(n - 1), each node exactly one
  pub count : (cs : Table ℕ 48) → r ≡ Some cs → cs.count ≡ n
  pub each : (cs : Table ℕ 48) → r ≡ Some cs → EachOnce n (take n cs.items)
