-- The walk with an explicit path, against the walk by recursion of `Cutting`: what is left of the walk at a state, and the bound that falls.
-- Assumes nothing.
use Rattle.std.specs.Prelude.{ℕ, suc, ◌+◌, ◌-◌, ◌*◌, ◌≤◌, ◌<◌, ◌≡◌, List, [], ◌∷◌, length, take, drop}
use Rattle.laws.specs.Lists.{stack_of, tally}
use Rattle.tables.specs.declared.Table.{Table}
use Rattle.graph.specs.declared.Item.{Item}
use Rattle.graph.specs.declared.Tables.{Tables}
use Rattle.graph.specs.declared.reach.Frame.{Frame}
use Rattle.graph.specs.declared.reach.Seen.{Seen}
use Rattle.graph.specs.Graph.{Graph}
use Rattle.graph.specs.Cutting.{mark_from, mark_sinks, unseen?}
use Rattle.graph.specs.code.Tables.{graph_of, owned}

-- the walk's state: how each node stands, and the path, the last frame first
pub record Path : Type 0 where
  pub seen : List Seen
  pub frames : List Frame

abbrev pub no_frame : Frame
no_frame = record { node = 0; next = 0 }

-- the path that a table holds
abbrev pub path_of : Table Frame 48 → List Frame
path_of t = stack_of no_frame t.items t.count

abbrev pub state : List Seen → Table Frame 48 → Path
state seen path = record { seen = seen; frames = path_of path }

-- xs are the records of the sinks. The marks once each frame has gone through the rest of its sinks, the last first: d more nodes may stand on the path
unfoldable pub resume : ℕ → Graph → List Item → List Seen → List Frame → List Seen
resume d g xs v [] = v
resume d g xs v (f ∷ fs) = resume (suc d) g xs (mark_sinks (λ w q. mark_from d g w q) v (owned f.node (drop f.next xs))) fs

-- how many nodes are unseen
unfoldable pub unseens : List Seen → ℕ
unseens [] = 0
unseens (x ∷ xs) = tally (unseen? x) (unseens xs)

-- the looks that the frames may still take, and one more for each to leave
unfoldable pub looks : List Frame → ℕ
looks [] = 0
looks (f ∷ fs) = suc (88 - f.next) + looks fs

abbrev pub seen_of : Tables → Path → List Seen
seen_of t s = take t.n s.seen

abbrev pub answer : Tables → List Item → Path → List Seen
answer t xs s = resume (t.n - length s.frames) (graph_of t) xs (seen_of t s) s.frames

abbrev pub effort : Tables → Path → ℕ
effort t s = 89 * unseens (seen_of t s) + looks s.frames

-- the array has its size, and each node on the path was unseen before it
pub record Good (t : Tables) (s : Path) : Type 0 where
  pub all : length s.seen ≡ 48
  pub room : length s.frames + unseens (seen_of t s) ≤ t.n

-- r is s one step on
pub record Stepped (t : Tables) (xs : List Item) (s r : Path) : Type 0 where
  pub good : Good t r
  pub same : answer t xs r ≡ answer t xs s
  pub less : effort t r < effort t s
