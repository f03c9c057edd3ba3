-- What is promised of each order, and of each cycle.
-- Assumes nothing.
use Rattle.std.specs.Prelude.{ℕ, ◌≤◌, ◌<◌, ◌≡◌, ◌⊎◌, true, false, List, [], length, get_or, take, Result, Ok, Err}
use Rattle.laws.specs.Lists.{All, has, place_of}
use Rattle.walks.specs.Walks.{Distinct, Cycle}
use Rattle.refusals.specs.Refusals.{numbers_of}
use Rattle.refusals.specs.declared.Refusal.{Refusal}
use Rattle.chart.specs.declared.Setting.TheVariants.{Strict}
use Rattle.chart.specs.Chart.{Board, ready as accepted, refusal as unread, chart}
use Rattle.graph.specs.Shape.{Shape, incidents_at}
use Rattle.signal.specs.declared.NoOrder.{NoOrder}
use Rattle.signal.specs.declared.NoOrder.TheVariants.{Refused, Cycle as CycleShown}
use Rattle.signal.specs.Outcome.{Nodes, answer_of, numbers_in}
use Rattle.signal.specs.Signal.{free, sources_in, completed_of, signal}

-- p has a sink to q
abbrev pub Leads : Shape → ℕ → ℕ → Type 0
Leads g p q = has q (incidents_at g p).sinks ≡ true

-- os is the order of the nodes of g
pub record Order (g : Shape) (os : List ℕ) : Type 0 where
  -- each number below n once
  pub count : length os ≡ length g
  pub once : Distinct os
  pub every : (p : ℕ) → p < length g → has p os ≡ true
  -- 'each sink .. comes after its source'
  pub after : (p q : ℕ) → Leads g p q → place_of p os < place_of q os
  -- 'the lowest free number next'
  pub frees : (i : ℕ) → i < length g → free (sources_in g) (take i os) (get_or os i 0) ≡ true
  pub lowest : (i q : ℕ) → i < length g → q < get_or os i 0 → free (sources_in g) (take i os) q ≡ false

abbrev pub nodes_of : Nodes → List ℕ
nodes_of t = take t.count t.items

-- the nodes that an answer hands over: an order's, or a cycle's
abbrev pub handed : Result Nodes NoOrder → List ℕ
handed (Ok t) = nodes_of t
handed (Err (CycleShown t)) = nodes_of t
handed (Err (Refused why)) = []

-- what `signal_order` promises of the accepted chart s, where g is its completed graph
pub record Signals (s : List ℕ) (g : Shape) (r : Result Nodes NoOrder) : Type 0 where
  -- g has the given nodes: 'Byte 1 is n'
  pub nodes : length g ≡ get_or s 1 0
  -- sources and sinks name each other: so a node is free once each node with a sink to it is listed
  pub both : (p q : ℕ) → has q (incidents_at g p).sinks ≡ has p (incidents_at g q).sources
  -- given nodes are handed over, and no other number
  pub inside : All (λ p. p < length g) (handed r)
  -- an order or 20, and no other refusal
  pub either : ((t : Nodes) × (r ≡ Ok t)) ⊎ ((t : Nodes) × (r ≡ Err (CycleShown t)))
  pub order : (t : Nodes) → r ≡ Ok t → Order g (nodes_of t)
  -- 'distinct nodes, each with a sink to the next and the last to the first'
  pub cycle : (t : Nodes) → r ≡ Err (CycleShown t) → Cycle (Leads g) (nodes_of t)
  -- 'An order is refused exactly if a cycle exists'
  pub refused : (cs : List ℕ) → Cycle (Leads g) cs → (t : Nodes) × (r ≡ Err (CycleShown t))
  pub given : ((cs : List ℕ) → Cycle (Leads g) cs → ⊥) → (t : Nodes) × (r ≡ Ok t)

-- the nodes are in the array
abbrev pub FewNodes : Result Nodes NoOrder → Type 0
FewNodes (Ok t) = t.count ≤ 32
FewNodes (Err (CycleShown t)) = t.count ≤ 32
FewNodes (Err (Refused why)) = Unit {0}

-- r is the signal order of the chart s
pub record IsSignalOrder (s : List ℕ) (r : Result Nodes NoOrder) : Type 0 where
  -- every field, past the count too
  pub whole : r ≡ answer_of (signal s)
  -- whatever the chart, the nodes are in the array
  pub few : FewNodes r
  -- a chart that 1 to 12 refuses: document 01's refusal
  pub refused : (why : Refusal) → chart Strict s ≡ unread why → r ≡ Err (Refused why)
  pub numbers : (why : Refusal) → chart Strict s ≡ unread why → numbers_in r ≡ numbers_of why
  pub laws : (board : Board) → chart Strict s ≡ accepted board → Signals s (completed_of board) r
