-- What the rows of cells show.
-- Assumes nothing.
use Prim.Native.Nat.{ℕ, zero, suc, ◌≤◌, ◌<◌}
use native.Mathlib.Omega.{arith}
use mathlib.Core.Path.{◌≡◌, refl, ap, sym, ◌∙◌, subst}
use mathlib.Core.Logic.{◌⊎◌, inl, inr, ⊎_elim}
use mathlib.Core.List.{List, []}
use lib.ListN.{length, get_or, take, set, replicate, length-set, length-replicate, get_or-replicate}
use Rattle.std.proofs.lemmas.List.{get_or-take, length-take-le}
use lib.Seq.{get_or-set_same, get_or-set_other}
use borrow.Author.Tests.{le-leb, lt-ltb}
use Rattle.laws.proofs.Tests.{same?}
use Rattle.laws.specs.Each.{each}
use Rattle.grid.specs.declared.BoxRecord.{BoxRecord}
use Rattle.grid.specs.declared.SheetRecord.{SheetRecord}
use Rattle.grid.specs.Record.{no_box}
use Rattle.grid.specs.Cells.{cell_at, put, no_cells, placed, cells_in, Named, Apart}

-- the grid has 48 rows of 144 cells
record Full (g : List (List ℕ)) : Type 0 where
  tall : length g ≡ 48
  wide : (r : ℕ) → r < 48 → length (get_or g r []) ≡ 144

none-full : Full no_cells
none-full = record { tall = refl; wide = λ r h. ap length (get_or-replicate 48 r (replicate 144 255) [] h) ∙ length-replicate {A = ℕ} 144 255 }

-- a store in the cell at row y and column x
module _ (g : List (List ℕ)) (f : Full g) (y x k : ℕ) (in_row : y < 48) (in-column : x < 144) where
  put-row : (r : ℕ) → (r ≡ y → ⊥) → get_or (put g y x k) r [] ≡ get_or g r []
  put-row r n = get_or-set_other g y r (set (get_or g y []) x k) [] n

  put-own : get_or (put g y x k) y [] ≡ set (get_or g y []) x k
  put-own = get_or-set_same g y (set (get_or g y []) x k) [] (omega (arith, f.tall))

  put_full : Full (put g y x k)
  put_full =
      record {
        tall = length-set g y (set (get_or g y []) x k) ∙ f.tall;
        wide = λ r h. ⊎_elim (λ e. subst (λ (i : ℕ). length (get_or (put g y x k) i []) ≡ 144) (sym e) (ap length put-own ∙ length-set (get_or g y []) x k ∙ f.wide y in_row)) (λ n. ap length (put-row r n) ∙ f.wide r h) (same? r y);
      }

  put_same : cell_at (put g y x k) y x ≡ k
  put_same = ap (λ (l : List ℕ). get_or l x 255) put-own ∙ get_or-set_same (get_or g y []) x k 255 (omega (arith, f.wide y in_row))

  put_other : (r c : ℕ) → (r ≡ y → c ≡ x → ⊥) → cell_at (put g y x k) r c ≡ cell_at g r c
  put_other r c n =
      ⊎_elim
      (λ e. subst (λ (i : ℕ). cell_at (put g y x k) i c ≡ cell_at g i c) (sym e) (ap (λ (l : List ℕ). get_or l c 255) put-own ∙ get_or-set_other (get_or g y []) x c k 255 (n e)))
      (λ m. ap (λ (l : List ℕ). get_or l c 255) (put-row r m)) (same? r y)

-- the cell at row r and column c shows v, when the boxes below m are placed
abbrev Shows : List BoxRecord → ℕ → ℕ → ℕ → ℕ → Type 0
Shows bs m r c v = ((v ≡ 255) × ((k : ℕ) → k < m → Named bs k r c → ⊥)) ⊎ ((v < m) × Named bs v r c)

module _ (s : SheetRecord) (a : Apart s) where
  abbrev grid : ℕ → List (List ℕ)
  grid m = each no_cells (placed s.boxes) m

  abbrev box : ℕ → BoxRecord
  box k = get_or s.boxes k no_box

  step_is : (m : ℕ) → m < s.count → placed s.boxes m (grid m) ≡ put (grid m) (box m).row (box m).column m
  step_is m h = rw (lt-ltb (box m).row 48 (a.rows m h), lt-ltb (box m).column 144 (a.columns m h))

  grid-full : (m : ℕ) → m ≤ s.count → Full (grid m)
  unfolding each
  grid-full zero h = none-full
  grid-full (suc m) h =
      let l : m < s.count = omega arith in
      subst Full (sym (step_is m l)) (put_full (grid m) (grid-full m (omega arith)) (box m).row (box m).column m (a.rows m l) (a.columns m l))

  module _ (r c : ℕ) (in_row : r < 48) (in-column : c < 144) where
    here? : (m : ℕ) → (Named s.boxes m r c) ⊎ (r ≡ (box m).row → c ≡ (box m).column → ⊥)
    here? m =
        ⊎_elim (λ e. ⊎_elim (λ f. inl (record { row = sym e; column = sym f })) (λ n. inr (λ d q. n q)) (same? c (box m).column)) (λ n. inr (λ d q. n d)) (same? r (box m).row)

    more : (m v : ℕ) → (r ≡ (box m).row → c ≡ (box m).column → ⊥) → Shows s.boxes m r c v → Shows s.boxes (suc m) r c v
    more m v n w =
        ⊎_elim
        (λ e. inl (
          e.0,
          λ k h q. ⊎_elim (λ z. n (sym (subst (λ (i : ℕ). (box i).row ≡ r) z q.row)) (sym (subst (λ (i : ℕ). (box i).column ≡ c) z q.column)))
              (λ z. e.1 k (below k m h z) q) (same? k m),
        ))
        (λ e. inr (later v m e.0, e.1)) w
      where
        below : (k m : ℕ) → k < suc m → (k ≡ m → ⊥) → k < m
        below k m h z = omega arith

        later : (v m : ℕ) → v < m → v < suc m
        later v m h = omega arith

    shows : (m : ℕ) → m ≤ s.count → Shows s.boxes m r c (cell_at (grid m) r c)
    unfolding each
    shows zero h =
        inl (ap (λ (l : List ℕ). get_or l c 255) (get_or-replicate 48 r (replicate 144 255) [] in_row) ∙ get_or-replicate {A = ℕ} 144 c 255 255 in-column, λ k l q. not_below k l)
      where
        not_below : (k : ℕ) → k < 0 → ⊥
        not_below k l = omega arith
    shows (suc m) h =
        let l : m < s.count = omega arith in
        let f = grid-full m (omega arith) in
        let i = a.rows m l in
        let j = a.columns m l in
        let e : cell_at (placed s.boxes m (grid m)) r c ≡ cell_at (put (grid m) (box m).row (box m).column m) r c = ap (λ (g : List (List ℕ)). cell_at g r c) (step_is m l) in
        ⊎_elim
        (λ q.
        let w : cell_at (put (grid m) (box m).row (box m).column m) r c ≡ m =
        ap (λ (y : ℕ). cell_at (put (grid m) (box m).row (box m).column m) y c) (sym q.row)
        ∙ ap (λ (x : ℕ). cell_at (put (grid m) (box m).row (box m).column m) (box m).row x) (sym q.column)
        ∙ put_same (grid m) f (box m).row (box m).column m i j in
        subst (Shows s.boxes (suc m) r c) (sym (e ∙ w)) (inr (omega arith, q)))
        (λ n. subst (Shows s.boxes (suc m) r c) (sym (e ∙ put_other (grid m) f (box m).row (box m).column m i j r c n)) (more m (cell_at (grid m) r c) n (shows m (omega arith))))
        (here? m)

    cell-shows : Shows s.boxes s.count r c (cell_at (cells_in s) r c)
    unfolding cells_in
    cell-shows = rw (le-leb s.count 48 a.few) (shows s.count (omega arith))

    -- a cell shows a box that names it, or it is empty and none does
    pub cell-named : (k : ℕ) → k < s.count → cell_at (cells_in s) r c ≡ k → Named s.boxes k r c
    cell-named k h e =
        ⊎_elim (λ w. absurd (far (cell_at (cells_in s) r c) a.few w.0 e)) (λ w. subst (λ (i : ℕ). Named s.boxes i r c) e w.1) cell-shows
      where
        far : (v : ℕ) → s.count ≤ 48 → v ≡ 255 → v ≡ k → ⊥
        far v l p q = omega arith

    pub named-cell : (k : ℕ) → k < s.count → Named s.boxes k r c → cell_at (cells_in s) r c ≡ k
    named-cell k h q =
        ⊎_elim (λ w. absurd (w.1 k h q))
        (λ w. a.no_two (cell_at (cells_in s) r c) k w.0 h (w.1.row ∙ sym q.row) (w.1.column ∙ sym q.column)) cell-shows

    pub cell-empty : cell_at (cells_in s) r c ≡ 255 → (k : ℕ) → k < s.count → Named s.boxes k r c → ⊥
    cell-empty e = ⊎_elim (λ w. w.1) (λ w. absurd (far (cell_at (cells_in s) r c) a.few w.0 e)) cell-shows
      where
        far : (v : ℕ) → s.count ≤ 48 → v < s.count → v ≡ 255 → ⊥
        far v l p q = omega arith

    pub empty-cell : ((k : ℕ) → k < s.count → Named s.boxes k r c → ⊥) → cell_at (cells_in s) r c ≡ 255
    empty-cell n = ⊎_elim (λ w. w.0) (λ w. absurd (n (cell_at (cells_in s) r c) w.0 w.1)) cell-shows

-- a step looks at its own box
cells-front : (bs : List BoxRecord) (n m : ℕ) → m ≤ n → each no_cells (placed (take n bs)) m ≡ each no_cells (placed bs) m
unfolding each
cells-front bs n zero h = refl
cells-front bs n (suc m) h = rw (get_or-take n bs m no_box (omega arith)) (ap (placed bs m) (cells-front bs n m (omega arith)))

-- the boxes of a sheet, placed
pub cells-placed : (s : SheetRecord) → s.count ≤ 48 → length s.boxes ≡ 48 →
    each no_cells (placed (take s.count s.boxes)) (length (take s.count s.boxes)) ≡ cells_in s
unfolding cells_in
cells-placed s h l = rw (length-take-le s.count s.boxes (omega arith), le-leb s.count 48 h) (cells-front s.boxes s.count s.count (omega arith))
