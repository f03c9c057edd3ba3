-- How large a sheet can be. A line is at most as large as its boxes together, so the sheet is at most as large as all boxes, the gaps and the margins.
-- Assumes nothing.
use Prim.Native.Nat.{ℕ, zero, suc, ◌+◌, ◌*◌, ◌≤◌, ◌<◌}
use native.Mathlib.Omega.{arith}
use mathlib.Core.Path.{◌≡◌, refl}
use mathlib.Core.Bool.{Bool, true, false, cond}
use mathlib.Core.List.{List, [], ◌∷◌, map}
use lib.Dec.{eqb, ltb}
use lib.ListN.{length}
use borrow.Author.Tests.{lt-ltb, ltb-true, eqb-true}
use Rattle.graph.specs.Graph.{Line, Node, Graph, node_at}
use Rattle.grid.specs.Lists.{largest, total}
use Rattle.grid.specs.RenderNode.{line_length, no_width, written, lines_height, box_width, box_height}
use Rattle.grid.specs.RenderGrid.{extent, begins, reach, widths, tallnesses}
use Rattle.grid.proofs.SheetTheorem.{edge_length}

-- the sizes of the boxes before line c
abbrev before : List ℕ → List ℕ → ℕ → ℕ
before [] sizes c = 0
before (p ∷ places) [] c = 0
before (p ∷ places) (s ∷ sizes) c = cond (ltb p c) s 0 + before places sizes c

cond_le : (t : Bool) (s : ℕ) → cond t s 0 ≤ s
cond_le true s = omega arith
cond_le false s = omega arith

before_le : (places sizes : List ℕ) (c : ℕ) → before places sizes c ≤ total sizes
before_le [] sizes c = omega arith
before_le (p ∷ places) [] c = omega arith
before_le (p ∷ places) (s ∷ sizes) c = omega (arith, cond_le (ltb p c) s, before_le places sizes c)

-- a box before the next line is before this line or in it, and not both
split : (a e z : Bool) (s : ℕ) → (a ≡ true → z ≡ true) → (e ≡ true → z ≡ true) → (a ≡ true → e ≡ true → ⊥) → cond a s 0 + cond e s 0 ≤ cond z s 0
split true true z s h k o = absurd (o refl refl)
split true false z s h k o = rw (h refl) (omega arith)
split false true z s h k o = rw (k refl) (omega arith)
split false false z s h k o = omega arith

before-next : (places sizes : List ℕ) (c : ℕ) → before places sizes c + extent places sizes c ≤ before places sizes (suc c)
before-next [] sizes c = omega arith
before-next (p ∷ places) [] c = omega arith
before-next (p ∷ places) (s ∷ sizes) c =
    omega (
      arith,
      before-next places sizes c,
      split (ltb p c) (eqb p c) (ltb p (suc c)) s
          (λ e. lt-ltb p (suc c) (omega (arith, ltb-true p c e))) (λ e. lt-ltb p (suc c) (omega (arith, eqb-true p c e)))
          (λ e f. omega (arith, ltb-true p c e, eqb-true p c f)),
    )

begins_le : (gap : ℕ) (places sizes : List ℕ) (c : ℕ) → begins gap places sizes c ≤ 128 + gap * c + before places sizes c
begins_le gap places sizes zero = omega arith
begins_le gap places sizes (suc c) = omega (arith, begins_le gap places sizes c, before-next places sizes c)

pub reach_le : (gap : ℕ) (places sizes : List ℕ) → reach gap places sizes ≤ 256 + gap * largest places + total sizes
reach_le gap places sizes =
    omega (arith, begins_le gap places sizes (largest places), before-next places sizes (largest places), before_le places sizes (suc (largest places)))

-- one box
pub width_le : (n : Node) → largest (map line_length n.lines) ≤ 24 → box_width n ≤ 6528 + 128 * edge_length n
width_le n h = omega arith

lines_le : (ls : List Line) → length ls ≤ 4 → lines_height ls ≤ 2432
lines_le [] h = omega arith
lines_le (l ∷ ls) h = omega arith

pub height_le : (n : Node) → length n.lines ≤ 4 → box_height n ≤ 3328
height_le n h =
    omega (arith, lines_le n.lines h, cond_le (no_width n) 128, cond_le (written n.sources) 256, cond_le (written n.sinks) 256)

-- all boxes
pub widths_le : (g : Graph) → ((k : ℕ) → k < length g → largest (map line_length (node_at g k).lines) ≤ 24) →
    total (widths g) ≤ 6528 * length g + 128 * total (map edge_length g)
widths_le [] h = omega arith
widths_le (n ∷ g) h = omega (arith, width_le n (h 0 (omega arith)), widths_le g (λ k l. h (suc k) (omega arith)))

pub heights_le : (g : Graph) → ((k : ℕ) → k < length g → length (node_at g k).lines ≤ 4) → total (tallnesses g) ≤ 3328 * length g
heights_le [] h = omega arith
heights_le (n ∷ g) h = omega (arith, height_le n (h 0 (omega arith)), heights_le g (λ k l. h (suc k) (omega arith)))
