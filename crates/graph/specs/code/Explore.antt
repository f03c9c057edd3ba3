-- The cutting walk with an explicit path, against the walk by recursion of `Cutting`: what is left of the walk at a state, and the bound that falls.
-- Assumes nothing.
use Rattle.std.specs.Prelude.{ℕ, suc, ◌+◌, ◌-◌, ◌*◌, ◌≤◌, ◌<◌, ◌≡◌, List, [], ◌∷◌, length, take, Result, Ok, Err}
use Rattle.tables.specs.declared.Table.{Table}
use Rattle.chart.specs.Tables.{Lines}
use Rattle.graph.specs.declared.Tables.{Tables}
use Rattle.refusals.specs.declared.Refusal.{Refusal}
use Rattle.refusals.specs.declared.Refusal.TheVariants.{ManyBoxes}
use Rattle.graph.specs.declared.reach.Frame.{Frame}
use Rattle.graph.specs.declared.reach.Seen.{Seen}
use Rattle.graph.specs.declared.reach.Seen.TheVariants.{Explored}
use Rattle.graph.specs.Graph.{degree}
use Rattle.graph.specs.Cutting.{Walk, explore_from, explore_sinks, seeing, cutting}
use Rattle.graph.specs.Graphed.{Dag, dag_of}
use Rattle.graph.specs.code.Tables.{graph_of, Roomy}
use Rattle.graph.specs.code.Path.{path_of, unseens, looks}

-- the walk's state: the number of nodes that were given, the tables so far, how each node stands, and the path, the last frame first
pub record Explore : Type 0 where
  pub given : ℕ
  pub tables : Tables
  pub seen : List Seen
  pub frames : List Frame

-- the state where g nodes were given
abbrev pub state : ℕ → Tables → List Seen → Table Frame 48 → Explore
state g t seen path = record { given = g; tables = t; seen = seen; frames = path_of path }

-- the same, between two walks
abbrev pub between : ℕ → Tables → List Seen → Explore
between g t seen = record { given = g; tables = t; seen = seen; frames = [] }

-- the sinks that the frame's node has yet to go through
abbrev pub rest : Walk → Frame → ℕ
rest w f = degree w.graph f.node - f.next

-- the walk once each frame has gone through the rest of its sinks, the last first: d more nodes may stand on the path
unfoldable pub resume : ℕ → Walk → List Frame → Walk
resume d w [] = w
resume d w (f ∷ fs) = resume (suc d) (seeing (explore_sinks (λ u q. explore_from d u q) w f.node f.next (rest w f)) f.node Explored) fs

-- each frame's node is one of the first n
abbrev pub Within : ℕ → List Frame → Type 0
Within n [] = Unit {0}
Within n (f ∷ fs) = (f.node < n) × Within n fs

-- the walk's state as `Cutting` has it
abbrev pub walk_of : Explore → Walk
walk_of x = record { graph = graph_of x.tables; seen = take x.tables.n x.seen; cuts = x.tables.cuts }

abbrev pub answer : Explore → Walk
answer x = resume (x.given - length x.frames) (walk_of x) x.frames

abbrev pub effort : Explore → ℕ
effort x = 89 * unseens (walk_of x).seen + looks x.frames

-- the arrays have their sizes, each cut made two nodes, and each node on the path was unseen before it
pub record Ready (x : Explore) : Type 0 where
  pub all : length x.seen ≡ 48
  pub named : length x.tables.names ≡ 48
  pub sound : Roomy x.tables
  pub count : x.given + 2 * x.tables.cuts ≡ x.tables.n
  pub room : length x.frames + unseens (walk_of x).seen ≤ x.given
  pub within : Within x.tables.n x.frames

-- y is x some steps on
pub record Since (x y : Explore) : Type 0 where
  pub ready : Ready y
  pub lines : y.tables.lines ≡ x.tables.lines
  pub same : answer y ≡ answer x

-- y is x one step on
pub record Kept (x y : Explore) : Type 0 where
  pub ready : Ready y
  pub given : y.given ≡ x.given
  pub lines : y.tables.lines ≡ x.tables.lines
  pub same : answer y ≡ answer x
  pub less : effort y < effort x

-- y is x once the walk from p is over
pub record Walked (x : Explore) (p : ℕ) (y : Explore) : Type 0 where
  pub ready : Ready y
  pub given : y.given ≡ x.given
  pub lines : y.tables.lines ≡ x.tables.lines
  pub walk : walk_of y ≡ explore_from x.given (walk_of x) p

-- r holds the graph, the cuts and the given lines
pub record Holds (ls : Lines) (d : Dag) (r : Tables) : Type 0 where
  pub sound : Roomy r
  pub graph : graph_of r ≡ d.graph
  pub cuts : r.cuts ≡ d.cuts
  pub lines : r.lines ≡ ls

-- r is t with its cycles cut, unless a cut would make more than 48 nodes
abbrev pub CyclesCut : Tables → Result (Unit {0}) Refusal → Tables → Type 0
CyclesCut t (Ok u) r = Holds t.lines (dag_of (cutting (graph_of t))) r × (length r.names ≡ 48)
CyclesCut t (Err why) r = (why ≡ ManyBoxes) × (48 < length (cutting (graph_of t)).graph)
