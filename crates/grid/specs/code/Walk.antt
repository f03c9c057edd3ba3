-- Module 6's walk with an explicit path, against the walk by recursion of `Heights`: what is left of the walk at a state, and the bound that falls.
-- Assumes nothing.
use Rattle.std.specs.Prelude.{ℕ, zero, suc, ◌+◌, ◌-◌, ◌*◌, ◌≤◌, ◌<◌, ◌≡◌, Bool, true, false, ℤ, pos, negsuc, nat_abs, ◌+ℤ◌, ◌-ℤ◌, List, [], ◌∷◌, map, ltb, length, get_or, drop}
use Rattle.std.specs.Prelude as code
use Rattle.std.proofs.Math.Option.{Option, none, some}
use Rattle.laws.specs.Lists.{All, stack_of}
use Rattle.tables.specs.declared.Table.{Table}
use Rattle.graph.specs.Shape.{Shape, incidents_at}
use Rattle.grid.specs.declared.heights.Frame.{Frame}
use Rattle.grid.specs.Columns.{incidents}
use Rattle.grid.specs.Heights.{Rows, walk_from, least_row}
use Rattle.grid.specs.code.Arrays.{held}

-- The code's walk starts at row 0, with signed rows; the definition's at n.
abbrev pub raised : ℕ → ℤ → ℕ
raised n (pos k) = n + k
raised n (negsuc k) = n - suc k

abbrev pub raised_row : ℕ → code.Option ℤ → Option ℕ
raised_row n code.None = none
raised_row n (code.Some z) = some (raised n z)

-- what the walk's array says: which of the nodes have a row, and which
abbrev pub reached_in : ℕ → List (code.Option ℤ) → Rows
reached_in n zs = map (raised_row n) zs

-- rows that are done
abbrev pub rows_of : List (code.Option ℕ) → Rows
rows_of rows = map held rows

abbrev pub no_frame : Frame
no_frame = record { node = 0; row = pos 0; at = 0 }

-- sources are a row above, sinks a row below; and so with signed rows
abbrev pub row_by : Bool → ℕ → ℕ
row_by true row = row - 1
row_by false row = row + 1

abbrev pub signed_by : Bool → ℤ → ℤ
signed_by true z = z -ℤ pos 1
signed_by false z = z +ℤ pos 1

-- where the nodes lead
module _ (g : Shape) where
  -- a node at this row looks at the nodes qs, of which the first so many are its sources
  abbrev pub visits : ℕ → ℕ → ℕ → List ℕ → Rows → Rows
  visits d row ups [] v = v
  visits d row ups (q ∷ qs) v = visits d row (ups - 1) qs (walk_from d g (row_by (ltb 0 ups) row) v q)

  -- the node of a frame looks at all that it has left
  abbrev pub onward : ℕ → Frame → Rows → Rows
  onward d f v = visits d (raised (length g) f.row) (length (incidents_at g f.node).sources - f.at) (drop f.at (incidents g f.node)) v

  -- the rows once each frame has gone on, the last first: d more nodes may stand on the path
  unfoldable pub resume : ℕ → Rows → List Frame → Rows
  resume d v [] = v
  resume d v (f ∷ fs) = resume (suc d) (onward d f v) fs

-- how many have no row
abbrev pub unseen : Rows → ℕ
unseen [] = 0
unseen (none ∷ v) = suc (unseen v)
unseen (some r ∷ v) = unseen v

-- the looks that the frames may still take, and one more for each to leave
unfoldable pub looks : List Frame → ℕ
looks [] = 0
looks (f ∷ fs) = suc (176 - f.at) + looks fs

-- the walk's state: the rows, and the frames of the path
pub record Path : Type 0 where
  pub rows : List (code.Option ℤ)
  pub frames : Table Frame 48

-- the frames, the last first
abbrev pub on_path : Table Frame 48 → List Frame
on_path t = stack_of no_frame t.items t.count

abbrev pub reached : ℕ → Path → Rows
reached n s = reached_in n s.rows

abbrev pub answer : Shape → Path → Rows
answer g s = resume g (length g - s.frames.count) (reached (length g) s) (on_path s.frames)

abbrev pub effort : ℕ → Path → ℕ
effort n s = 177 * unseen (reached n s) + looks (on_path s.frames)

-- The row of a frame is as far from the first one's, 0, as the path is long, at most.
pub record Framed (n : ℕ) (fs : List Frame) (d : ℕ) : Type 0 where
  pub node : (j : ℕ) → j < d → (get_or fs j no_frame).node < n
  pub near : (j : ℕ) → j < d → nat_abs (get_or fs j no_frame).row ≤ j

-- each node on the path had no row before it
pub record Good (n : ℕ) (s : Path) : Type 0 where
  pub each : length s.rows ≡ n
  pub most : length s.frames.items ≡ 48
  pub room : s.frames.count + unseen (reached n s) ≤ n
  pub framed : Framed n s.frames.items s.frames.count

pub record Stepped (g : Shape) (s r : Path) : Type 0 where
  pub good : Good (length g) r
  pub same : answer g r ≡ answer g s
  pub less : effort (length g) r < effort (length g) s

-- a walk of n nodes has rows from 1 - n to n - 1
abbrev pub Near : ℕ → code.Option ℤ → Type 0
Near n code.None = Unit {0}
Near n (code.Some z) = nat_abs z < n

abbrev pub AllNear : ℕ → List (code.Option ℤ) → Type 0
AllNear n rows = All (Near n) rows

-- m is the least of the rows and 0
pub record IsLeast (n : ℕ) (v : Rows) (m : ℤ) : Type 0 where
  pub near : nat_abs m ≤ n
  pub least : raised n m ≡ least_row n v
