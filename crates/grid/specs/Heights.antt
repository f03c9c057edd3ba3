-- Document 01, module 6: heights.
-- The document starts each walk at row 0, with signed rows; here it starts at the number of boxes, so that every row is a natural number. All that the walk
-- reaches is then lowered by the least row, so the start makes no difference; the field `rows` of `AllWalks` (specs/LaidOut) says that no row of a walk is 0,
-- so that `row - 1` is never cut off.
-- Assumes nothing.
use Rattle.std.specs.Prelude.{ℕ, zero, suc, ◌+◌, ◌-◌, min, Bool, true, false, List, [], ◌∷◌, map, get_or, set, length, replicate}
use Rattle.std.proofs.Math.Option.{Option, none, some}
use Rattle.laws.specs.Each.{each}
use Rattle.graph.specs.Shape.{Incidents, Shape, incidents_at}
use Rattle.grid.specs.Lists.{or_else, nothing}

-- a row for each node, where it has one
abbrev pub Rows : Type 0
Rows = List (Option ℕ)

-- node p has no row yet; a number that is no node's is never fresh
abbrev pub fresh : Rows → ℕ → Bool
fresh v p = nothing (get_or v p (some 0))

-- the nodes qs in order; `go` is the walk from one node
abbrev pub through : (Rows → ℕ → Rows) → Rows → List ℕ → Rows
through go v [] = v
through go v (q ∷ qs) = through go (go v q) qs

-- node n is entered, or passed over: sources before sinks, each by a walk of its own
abbrev pub enter : Bool → (Rows → ℕ → Rows) → (Rows → ℕ → Rows) → Rows → Rows → Incidents → Rows
enter true up down v w n = through down (through up w n.sources) n.sinks
enter false up down v w n = v

-- The depth-first walk that comes to node p at a row: the first visit decides. Sources are at row - 1, sinks at row + 1.
-- d is the number of nodes that the path may still have.
abbrev pub walk_from : ℕ → Shape → ℕ → Rows → ℕ → Rows
walk_from zero g row v p = v
walk_from (suc d) g row v p =
    enter (fresh v p) (λ u q. walk_from d g (row - 1) u q) (λ u q. walk_from d g (row + 1) u q) v (set v p (some row)) (incidents_at g p)

-- the least row of v, or m
abbrev pub least_row : ℕ → Rows → ℕ
least_row m [] = m
least_row m (none ∷ v) = least_row m v
least_row m (some r ∷ v) = min r (least_row m v)

-- a row lowered by m; a node not reached keeps what it has
abbrev pub lower : ℕ → Option ℕ → Option ℕ → Option ℕ
lower m none y = y
lower m (some r) y = some (r - m)

-- all reached, in v, are lowered by m; the others keep their rows
abbrev pub lowered : ℕ → Rows → Rows → Rows
lowered m [] ys = ys
lowered m (x ∷ v) [] = []
lowered m (x ∷ v) (y ∷ ys) = lower m x y ∷ lowered m v ys

-- what the walk from node p reaches, nothing being reached before it
abbrev pub reached_from : Shape → ℕ → Rows
reached_from g p = walk_from (length g) g (length g) (replicate (length g) none) p

-- Node p: if it is not yet normalised, it starts a walk, and all reached are lowered by the least row. Nodes already done may be renumbered.
abbrev pub start : Bool → Shape → ℕ → Rows → Rows
start true g p rows = let v = reached_from g p in lowered (least_row (length g) v) v rows
start false g p rows = rows

-- nodes rise
unfoldable pub heights : Shape → List ℕ
heights g = map (or_else 0) (each (replicate (length g) none) (λ p rows. start (fresh rows p) g p rows) (length g))
