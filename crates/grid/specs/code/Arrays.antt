-- What the code's arrays hold.
-- Assumes nothing.
use Rattle.std.specs.Prelude.{ℕ, zero, suc, ◌+◌, ◌/◌, ◌%◌, ◌^◌, ◌≤◌, ◌<◌, ◌≡◌, ◌↔◌, Bool, true, false, cond, ◌&&◌, ◌||◌, List, [], ◌++◌, eqb, get_or, length, replicate}
use Rattle.std.specs.Prelude.{Option, Some, None}
use Rattle.std.proofs.Math.Option as maybe
use Rattle.grid.specs.Columns.{at, taken, new_columns}

-- what stands there: the code's `Option` is a type of its own
abbrev pub held : Option ℕ → maybe.Option ℕ
held None = maybe.none
held (Some x) = maybe.some x

-- n boxes, with rows below 48 and columns below 144
pub record Boxes (n : ℕ) (rows cols : List ℕ) : Type 0 where
  pub few : n ≤ 48
  pub rows_long : length rows ≡ n
  pub cols_long : length cols ≡ n
  pub row : (k : ℕ) → k < n → at rows k < 48
  pub column : (k : ℕ) → k < n → at cols k < 144

-- all are below m
pub record Inside (m : ℕ) (xs : List ℕ) : Type 0 where
  pub below : (k : ℕ) → k < length xs → at xs k < m

-- row r uses column x, by the table of used columns: 160 bits for each row, 32 in a word
abbrev pub used_in : List (List ℕ) → ℕ → ℕ → Bool
used_in used r x = eqb (at (get_or used r []) (x / 32) / 2 ^ (x % 32) % 2) 1

-- of the boxes, one of row r stands in column x
abbrev pub Stands : List ℕ → List ℕ → ℕ → ℕ → Type 0
Stands rows cols r x = (k : ℕ) × (k < length rows) × (at rows k ≡ r) × (at cols k ≡ x)

-- the table tells of these boxes which places are taken
abbrev pub Tells : List ℕ → List ℕ → List (List ℕ) → Type 0
Tells rows cols used = (r x : ℕ) → r < 48 → x < 160 → used_in used r x ≡ taken rows cols r x

-- 'a column is used exactly if a box of that row stands there'; the same as the definition of a fold has it
pub record Used (rows cols : List ℕ) (used : List (List ℕ)) : Type 0 where
  pub exactly : (r x : ℕ) → r < 48 → x < 160 → (used_in used r x ≡ true) ↔ Stands rows cols r x
  pub tells : Tells rows cols used

-- some row below h uses both x and x + 1
abbrev pub collision_in : List (List ℕ) → ℕ → ℕ → Bool
collision_in used x zero = false
collision_in used x (suc r) = collision_in used x r || (used_in used r x && used_in used r (x + 1))

-- how many more columns than one the pair x, x + 1 becomes, by the table of used columns of h rows
abbrev pub extra_in : List (List ℕ) → ℕ → ℕ → ℕ
extra_in used h x = cond (collision_in used x h) 1 0

-- the new columns of so many pairs from start on, those before it staying
abbrev pub table_to : ℕ → ℕ → (ℕ → ℕ) → List ℕ
table_to start pairs more = replicate start 0 ++ new_columns more pairs start start

-- the new column that the pair after these begins with
abbrev pub next_new : (ℕ → ℕ) → ℕ → ℕ → ℕ → ℕ
next_new more zero x new = new
next_new more (suc k) x new = next_new more k (x + 2) (suc (new + more x))
