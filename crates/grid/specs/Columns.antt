-- Document 01, module 7: columns. Each box has a column and a row: two lists, by box number. The rows stay.
-- Assumes nothing.
use Rattle.std.specs.Prelude.{ℕ, zero, suc, ◌+◌, ◌-◌, ◌/◌, min, max, Bool, true, false, cond, ◌&&◌, ◌||◌, List, [], ◌∷◌, ◌++◌, map, eqb, ltb, get_or, set, length, replicate}
use Rattle.std.proofs.Math.Option.{Option, none, some}
use Rattle.laws.specs.Each.{each}
use Rattle.graph.specs.Shape.{Shape, incidents_at}
use Rattle.grid.specs.Lists.{largest, smallest, total}

-- the box's column or row
abbrev pub at : List ℕ → ℕ → ℕ
at xs k = get_or xs k 0

-- some box has row r and column x
abbrev pub taken : List ℕ → List ℕ → ℕ → ℕ → Bool
taken [] cols r x = false
taken (y ∷ rows) [] r x = false
taken (y ∷ rows) (c ∷ cols) r x = (eqb y r && eqb c x) || taken rows cols r x

-- incidents: all source and sink entries of node p, repeats and the node itself counted
abbrev pub incidents : Shape → ℕ → List ℕ
incidents g p = (incidents_at g p).sources ++ (incidents_at g p).sinks

-- the columns of these nodes
abbrev pub columns_of : List ℕ → List ℕ → List ℕ
columns_of cols qs = map (at cols) qs

-- Where a box at pos goes whose incidents have columns from low to high: if low > pos + 2 to low + 1;
-- else if low < pos and high < pos - 2 to high - 1 (not below 0); else it stays.
abbrev pub target : ℕ → ℕ → ℕ → ℕ
target pos low high = cond (ltb (pos + 2) low) (low + 1) (cond (ltb low pos && ltb high (pos - 2)) (high - 1) pos)

-- box p goes to column x, only if that place in its row is free (its own is not)
abbrev pub go_to : List ℕ → ℕ → ℕ → List ℕ → List ℕ
go_to rows p x cols = cond (taken rows cols (at rows p) x) cols (set cols p x)

-- the first move of node p, if it has two incidents or more; the columns are as moved so far
abbrev pub first_move : Shape → List ℕ → ℕ → List ℕ → List ℕ
first_move g rows p cols =
    let xs = columns_of cols (incidents g p) in
    cond (ltb (length xs) 2) cols (go_to rows p (target (at cols p) (smallest (largest xs) xs) (largest xs)) cols)

-- nodes rising
unfoldable pub first_moves : Shape → List ℕ → List ℕ → List ℕ
first_moves g rows cols = each cols (first_move g rows) (length g)

-- both places of row r in the columns x and x + 1 are taken
abbrev pub clash : List ℕ → List ℕ → ℕ → ℕ → Bool
clash rows cols x r = taken rows cols r x && taken rows cols r (x + 1)

-- some row below n has both taken
abbrev pub collision : List ℕ → List ℕ → ℕ → ℕ → Bool
collision rows cols x zero = false
collision rows cols x (suc r) = collision rows cols x r || clash rows cols x r

-- how many more columns than one the pair x, x + 1 becomes
abbrev pub extra : List ℕ → List ℕ → ℕ → ℕ
extra rows cols x = cond (collision rows cols x (suc (largest rows))) 1 0

-- The new columns of x, x + 1, x + 2, .. for k pairs, the first of them going to `new`: without a collision both go to one new column, else to two.
-- `more` says which.
abbrev pub new_columns : (ℕ → ℕ) → ℕ → ℕ → ℕ → List ℕ
new_columns more zero x new = []
new_columns more (suc k) x new = let m = more x in new ∷ (new + m) ∷ new_columns more k (x + 2) (suc (new + m))

-- each column by the table of new columns
abbrev pub renamed : List ℕ → List ℕ → List ℕ
renamed table cols = map (at table) cols

-- how many pairs, the first of them at x, run to the largest used column
abbrev pub pairs_from : ℕ → List ℕ → ℕ
pairs_from x cols = (largest cols + 2 - x) / 2

-- the new column of each column, in a fold from x (0 or 1): those before x stay
abbrev pub table : ℕ → List ℕ → List ℕ → List ℕ
table x rows cols = replicate x 0 ++ new_columns (extra rows cols) (pairs_from x cols) x x

-- a fold from x
unfoldable pub fold_from : ℕ → List ℕ → List ℕ → List ℕ
fold_from x rows cols = renamed (table x rows cols) cols

-- the mean rounded down, 0 for none
abbrev pub mean : List ℕ → ℕ
mean [] = 0
mean (x ∷ xs) = total (x ∷ xs) / length (x ∷ xs)

-- the nearer of the two to the right, if the first is one
abbrev pub nearer : Bool → ℕ → Option ℕ → Option ℕ
nearer false x y = y
nearer true x none = some x
nearer true x (some y) = some (min x y)

-- the nearest box to the right of column x in row r, however far: its column
abbrev pub right_of : List ℕ → List ℕ → ℕ → ℕ → Option ℕ
right_of [] cols r x = none
right_of (y ∷ rows) [] r x = none
right_of (y ∷ rows) (c ∷ cols) r x = nearer (eqb y r && ltb x c) c (right_of rows cols r x)

-- the last place before the right neighbour: its column - 1, or the box's own column x where there is none
abbrev pub right_end : ℕ → Option ℕ → ℕ
right_end x none = x
right_end x (some c) = c - 1

-- the first place after the left neighbour: its column + 1, or 0 where there is none
abbrev pub left_end : List ℕ → List ℕ → ℕ → ℕ → ℕ
left_end [] cols r x = 0
left_end (y ∷ rows) [] r x = 0
left_end (y ∷ rows) (c ∷ cols) r x = max (cond (eqb y r && ltb c x) (c + 1) 0) (left_end rows cols r x)

-- x clamped between low and high
abbrev pub clamp : ℕ → ℕ → ℕ → ℕ
clamp low high x = max low (min x high)

-- box p, which would go to column w, goes there, clamped between its neighbours
abbrev pub average_to : List ℕ → ℕ → ℕ → List ℕ → List ℕ
average_to rows p w cols =
    let r = at rows p in
    let x = at cols p in
    set cols p (clamp (left_end rows cols r x) (right_end x (right_of rows cols r x)) w)

-- node p goes to the mean column of its incidents; the columns are as moved so far
abbrev pub average_one : Shape → List ℕ → ℕ → List ℕ → List ℕ
average_one g rows p cols = average_to rows p (mean (columns_of cols (incidents g p))) cols

-- nodes rising
unfoldable pub average : Shape → List ℕ → List ℕ → List ℕ
average g rows cols = each cols (average_one g rows) (length g)

-- one of the 8 rounds: fold from 0, fold from 1, average
abbrev pub round : Shape → List ℕ → List ℕ → List ℕ
round g rows cols = average g rows (fold_from 1 rows (fold_from 0 rows cols))

-- the columns, from the first ones
unfoldable pub columns : Shape → List ℕ → List ℕ → List ℕ
columns g rows cols = each (first_moves g rows cols) (λ k. round g rows) 8
