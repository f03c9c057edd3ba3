-- 'The grid is held as rows of cells': 48 rows of 144 cells, 255 where there is no box.
-- Assumes nothing.
use Rattle.std.specs.Prelude.{ℕ, ◌≤◌, ◌<◌, ◌≡◌, cond, ◌&&◌, List, [], leb, ltb, get_or, set, replicate, Result, Ok, Err}
use Rattle.laws.specs.Each.{each}
use Rattle.grid.specs.declared.BoxRecord.{BoxRecord}
use Rattle.grid.specs.declared.SheetRecord.{SheetRecord}
use Rattle.refusals.specs.declared.Refusal.{Refusal}
use Rattle.refusals.specs.declared.Refusal.TheVariants.{TooFar}
use Rattle.grid.specs.Record.{no_box, sound_of}

-- the cell at row r and column c; where there is none, no box
abbrev pub cell_at : List (List ℕ) → ℕ → ℕ → ℕ
cell_at g r c = get_or (get_or g r []) c 255

-- the grid with box k there
abbrev pub put : List (List ℕ) → ℕ → ℕ → ℕ → List (List ℕ)
put g r c k = set g r (set (get_or g r []) c k)

abbrev pub no_cells : List (List ℕ)
no_cells = replicate 48 (replicate 144 255)

-- the placing step: box k, if its cell is one of them
abbrev pub placed : List BoxRecord → ℕ → List (List ℕ) → List (List ℕ)
placed bs k g =
    cond (ltb (get_or bs k no_box).row 48 && ltb (get_or bs k no_box).column 144) (put g (get_or bs k no_box).row (get_or bs k no_box).column k) g

-- the rows of cells of a sheet, the boxes placed by rising number; none where the count is past the array
unfoldable pub cells_in : SheetRecord → List (List ℕ)
cells_in s = cond (leb s.count 48) (each no_cells (placed s.boxes) s.count) no_cells

-- what `cells` answers, and what the lent grid holds then: 14 for a sheet that is not sound, which writes nothing
abbrev pub cells_answer : SheetRecord → Result (Unit {0}) Refusal
cells_answer s = cond (sound_of s) (Ok tt) (Err TooFar)

abbrev pub cells_left : SheetRecord → List (List ℕ) → List (List ℕ)
cells_left s grid = cond (sound_of s) (cells_in s) grid

-- box k's record names the cell
pub record Named (bs : List BoxRecord) (k r c : ℕ) : Type 0 where
  pub row : (get_or bs k no_box).row ≡ r
  pub column : (get_or bs k no_box).column ≡ c

-- every box has a cell, and no two the same
pub record Apart (s : SheetRecord) : Type 0 where
  pub few : s.count ≤ 48
  pub rows : (k : ℕ) → k < s.count → (get_or s.boxes k no_box).row < 48
  pub columns : (k : ℕ) → k < s.count → (get_or s.boxes k no_box).column < 144
  pub no_two : (i j : ℕ) → i < s.count → j < s.count → (get_or s.boxes i no_box).row ≡ (get_or s.boxes j no_box).row →
      (get_or s.boxes i no_box).column ≡ (get_or s.boxes j no_box).column → i ≡ j
