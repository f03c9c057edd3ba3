-- Module 8: the box theorem, of every graph whose boxes have columns and rows of their own.
-- Assumes nothing.
use Prim.Native.Nat.{ℕ, zero, suc, ◌+◌, ◌*◌, ◌≤◌, ◌<◌}
use native.Mathlib.Omega.{arith}
use native.Mathlib.Nat.{le_of_suc-le-suc, not-suc-le-zero, eq-or-lt_of_le, zero-add}
use mathlib.Core.Path.{◌≡◌, refl, ap, sym, ◌∙◌, subst}
use mathlib.Core.Logic.{◌⊎◌, inl, inr}
use mathlib.Core.List.{List, [], ◌∷◌}
use lib.ListN.{length, length-map}
use borrow.Author.Tests.{eq-eqb}
use Rattle.laws.proofs.Tests.{less?}
use Rattle.graph.specs.Graph.{Graph, node_at, bare}
use Rattle.grid.specs.Lists.{largest}
use Rattle.grid.specs.Columns.{at}
use Rattle.grid.specs.code.Placed.{Placed}
use Rattle.grid.specs.RenderNode.{drawn, box_width, box_height}
use Rattle.grid.specs.RenderGrid.{extent, begins, reach, Box, Sheet, box_at, box_of, widths, tallnesses, sheet_of}
use Rattle.grid.specs.Curves.{no_outputs}
use Rattle.grid.proofs.SheetTheorem.{box, Names, Across, Down, SheetTheorem}
use Rattle.grid.proofs.ListLaws.{at-largest, at_map}
use Rattle.laws.proofs.Lists.{length-tabulate, get_d_tabulate}

-- Lines of boxes, which are columns or rows: a line is as large as its largest box, and begins past the line before it and the gap.
extent_ge : (places sizes : List ℕ) (k c : ℕ) → k < length places → k < length sizes → at places k ≡ c → at sizes k ≤ extent places sizes c
extent_ge [] sizes k c h l e = absurd (not-suc-le-zero h)
extent_ge (p ∷ places) [] k c h l e = absurd (not-suc-le-zero l)
extent_ge (p ∷ places) (s ∷ sizes) zero c h l e = rw (eq-eqb p c e) (omega arith)
extent_ge (p ∷ places) (s ∷ sizes) (suc k) c h l e = omega (arith, extent_ge places sizes k c (le_of_suc-le-suc h) (le_of_suc-le-suc l) e)

module _ (gap : ℕ) (places sizes : List ℕ) where
  begins_margin : (c : ℕ) → 128 ≤ begins gap places sizes c
  begins_margin zero = omega arith
  begins_margin (suc c) = omega (arith, begins_margin c)

  begins-past : (c d : ℕ) → c < d → begins gap places sizes c + extent places sizes c + gap ≤ begins gap places sizes d
  begins-past c zero h = absurd (not-suc-le-zero h)
  begins-past c (suc d) h =
      elim (eq-or-lt_of_le (le_of_suc-le-suc h)) [
        | inl e ↦ rw e (omega arith)
        | inr l ↦ omega (arith, begins-past c d l)
      ]

  reach_margin : (c : ℕ) → c ≤ largest places → begins gap places sizes c + extent places sizes c + 128 ≤ reach gap places sizes
  reach_margin c h =
      elim (eq-or-lt_of_le h) [
        | inl e ↦ rw e (omega arith)
        | inr l ↦ omega (arith, begins-past c (largest places) l)
      ]

  -- boxes i and j of these places and sizes
  module _ (n : ℕ) (here : length places ≡ n) (sized : length sizes ≡ n) where
    pub box-within : (k : ℕ) → k < n → begins gap places sizes (at places k) + at sizes k + 128 ≤ reach gap places sizes
    box-within k h =
        omega (arith, reach_margin (at places k) (at-largest places k (omega arith)), extent_ge places sizes k (at places k) (omega arith) (omega arith) refl)

    pub box-before : (i j : ℕ) → i < n → at places i < at places j →
        begins gap places sizes (at places i) + at sizes i + gap ≤ begins gap places sizes (at places j)
    box-before i j h l =
        omega (arith, begins-past (at places i) (at places j) l, extent_ge places sizes i (at places i) (omega arith) (omega arith) refl)

-- the graph with its columns and rows
module _ (n leads cuts b : ℕ) (g : Graph) (cols rows : List ℕ) (tall : length rows ≡ length g) (count : length g ≡ n + leads + 2 * cuts) (p : Placed (length g) b rows cols) where
  abbrev s : Sheet
  s = sheet_of g cuts cols rows

  -- the numbers of box k
  size : length s.boxes ≡ length g
  unfolding sheet_of
  size = length-tabulate (box_of g cols rows) 0 (length g)

  is : (k : ℕ) → k < length g → box s k ≡ box_of g cols rows k
  unfolding sheet_of
  is k h = get_d_tabulate (box_of g cols rows) 0 (length g) k no_outputs h ∙ ap (box_of g cols rows) (zero-add k)

  width_is : (k : ℕ) → k < length g → (drawn (node_at g k)).width ≡ at (widths g) k
  unfolding drawn
  width_is k h = sym (at_map box_width g k bare h)

  height-is : (k : ℕ) → k < length g → (drawn (node_at g k)).height ≡ at (tallnesses g) k
  unfolding drawn
  height-is k h = sym (at_map box_height g k bare h)

  wide-long : length (widths g) ≡ length g
  wide-long = length-map g box_width

  tall-long : length (tallnesses g) ≡ length g
  tall-long = length-map g box_height

  column_in : (k : ℕ) → k < length g → at cols k < suc (largest cols)
  column_in k h = omega (arith, at-largest cols k (omega (arith, p.long)))

  row_in : (k : ℕ) → k < length g → at rows k < suc (largest rows)
  row_in k h = omega (arith, at-largest rows k (omega arith))

  inside : (k : ℕ) → k < length s.boxes → k < length g
  inside k h = rw size at h

  -- the numbers of box k
  module _ (k : ℕ) (h : k < length g) where
    column-is : (box s k).column ≡ at cols k
    column-is = ap (λ (z : Box). z.column) (is k h)

    row_is : (box s k).row ≡ at rows k
    row_is = ap (λ (z : Box). z.row) (is k h)

    x-is : (box s k).x ≡ begins 1024 cols (widths g) (at cols k)
    x-is = ap (λ (z : Box). z.x) (is k h)

    y-is : (box s k).y ≡ begins 2048 rows (tallnesses g) (at rows k)
    y-is = ap (λ (z : Box). z.y) (is k h)

    w-is : (box s k).width ≡ at (widths g) k
    w-is = ap (λ (z : Box). z.width) (is k h) ∙ width_is k h

    h-is : (box s k).height ≡ at (tallnesses g) k
    h-is = ap (λ (z : Box). z.height) (is k h) ∙ height-is k h

    of_node : box s k ≡ box_at k (node_at g k) (box s k).column (box s k).row (box s k).x (box s k).y
    of_node = subst (λ (z : Box). z ≡ box_at k (node_at g k) z.column z.row z.x z.y) (sym (is k h)) refl

    in_cell : ((box s k).column < s.columns) × ((box s k).row < s.rows)
    unfolding sheet_of
    in_cell = (omega (arith, column-is, column_in k h), omega (arith, row_is, row_in k h))

    named : (c r : ℕ) → Names s k c r → (at cols k ≡ c) × (at rows k ≡ r)
    named c r z = (sym column-is ∙ z.0, sym row_is ∙ z.1)

    left-of : 128 ≤ (box s k).x
    left-of = omega (arith, x-is, begins_margin 1024 cols (widths g) (at cols k))

    top_of : 128 ≤ (box s k).y
    top_of = omega (arith, y-is, begins_margin 2048 rows (tallnesses g) (at rows k))

    right_of : (box s k).x + (box s k).width + 128 ≤ s.width
    unfolding sheet_of
    right_of = omega (arith, x-is, w-is, box-within 1024 cols (widths g) (length g) p.long wide-long k h)

    bottom-of : (box s k).y + (box s k).height + 128 ≤ s.height
    unfolding sheet_of
    bottom-of = omega (arith, y-is, h-is, box-within 2048 rows (tallnesses g) (length g) tall tall-long k h)

  -- two boxes in different columns, or in different rows
  across : (i j : ℕ) → i < length g → j < length g → at cols i < at cols j → (box s i).x + (box s i).width + 1024 ≤ (box s j).x
  across i j hi hj l =
      omega (arith, x-is i hi, w-is i hi, x-is j hj, box-before 1024 cols (widths g) (length g) p.long wide-long i j hi l)

  down : (i j : ℕ) → i < length g → j < length g → at rows i < at rows j → (box s i).y + (box s i).height + 2048 ≤ (box s j).y
  down i j hi hj l =
      omega (arith, y-is i hi, h-is i hi, y-is j hj, box-before 2048 rows (tallnesses g) (length g) tall tall-long i j hi l)

  far : (i j : ℕ) → i < length g → j < length g → (i ≡ j → ⊥) → Across (box s i) (box s j) ⊎ Down (box s i) (box s j)
  far i j hi hj o =
      go (less? (at cols i) (at cols j)) (less? (at cols j) (at cols i)) (less? (at rows i) (at rows j)) (less? (at rows j) (at rows i))
    where
      go : (at cols i < at cols j) ⊎ (at cols j ≤ at cols i) → (at cols j < at cols i) ⊎ (at cols i ≤ at cols j) →
          (at rows i < at rows j) ⊎ (at rows j ≤ at rows i) → (at rows j < at rows i) ⊎ (at rows i ≤ at rows j) →
          Across (box s i) (box s j) ⊎ Down (box s i) (box s j)
      go (inl a) d e f = inl (inl (across i j hi hj a))
      go (inr a) (inl d) e f = inl (inr (across j i hj hi d))
      go (inr a) (inr d) (inl e) f = inr (inl (down i j hi hj e))
      go (inr a) (inr d) (inr e) (inl f) = inr (inr (down j i hj hi f))
      go (inr a) (inr d) (inr e) (inr f) = absurd (o (p.apart i j hi hj (omega arith) (omega arith)))

  pub box-theorem : SheetTheorem n leads cuts g (sheet_of g cuts cols rows)
  unfolding sheet_of
  box-theorem =
      record {
        one_each = size;
        node's = of_node;
        given = omega (arith, size, count);
        boxes = size ∙ count;
        reports = refl;
        has_cell = λ k h. in_cell k (inside k h);
        no_two = λ i j c r hi hj y z.
            let a = named i (inside i hi) c r y in
            let d = named j (inside j hj) c r z in
            p.apart i j (inside i hi) (inside j hj) (a.1 ∙ sym d.1) (a.0 ∙ sym d.0);
        distance = λ i j hi hj o. far i j (inside i hi) (inside j hj) o;
        left = λ k h. left-of k (inside k h);
        top = λ k h. top_of k (inside k h);
        right = λ k h. right_of k (inside k h);
        bottom = λ k h. bottom-of k (inside k h);
      }
