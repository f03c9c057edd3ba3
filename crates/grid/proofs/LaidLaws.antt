-- Bounds of the lines of boxes, and of the places.
-- Assumes nothing.
use Prim.Native.Nat.{ℕ, zero, suc, max, ◌+◌, ◌*◌, ◌≤◌, ◌<◌}
use native.Mathlib.Omega.{arith}
use mathlib.Core.Path.{◌≡◌, refl, ap, sym, ◌∙◌, subst}
use mathlib.Core.Bool.{Bool, true, false, cond}
use mathlib.Core.List.{List, [], ◌∷◌, map}
use lib.Dec.{eqb}
use lib.ListN.{length, take}
use lib.Seq.{get_or-take, length-take-le}
use Rattle.std.specs.List.{filter}
use Rattle.laws.specs.Lists.{All}
use Rattle.grid.specs.Lists.{largest}
use Rattle.grid.specs.RenderGrid.{extent, begins}
use Rattle.grid.specs.declared.BoxRecord.{BoxRecord}
use Rattle.grid.specs.declared.render_grid.Axis.{Axis}
use Rattle.grid.specs.declared.render_grid.Axis.TheVariants.{Across, Down}
use Rattle.grid.specs.code.Laid.{Bounded, line_of, size_of, gap_of}
use Rattle.grid.proofs.Arrays.{all-by}

cond_le : (t : Bool) (a m : ℕ) → a ≤ m → cond t a 0 ≤ m
cond_le true a m h = h
cond_le false a m h = omega arith

pub extent_le : (b : ℕ) (places sizes : List ℕ) (c : ℕ) → All (λ s. s ≤ b) sizes → extent places sizes c ≤ b
extent_le b [] sizes c a = omega arith
extent_le b (p ∷ places) [] c a = omega arith
extent_le b (p ∷ places) (s ∷ sizes) c a = omega (arith, cond_le (eqb p c) s b a.0, extent_le b places sizes c a.1)

-- the largest size of those in a line
pub extent-is : (a : Axis) (c : ℕ) (bs : List BoxRecord) → largest (map (size_of a) (filter (λ b. eqb (line_of a b) c) bs)) ≡ extent (map (line_of a) bs) (map (size_of a) bs) c
extent-is a c [] = refl
extent-is a c (b ∷ bs) = go (eqb (line_of a b) c) (extent-is a c bs)
  where
    go : (t : Bool) → largest (map (size_of a) (filter (λ b. eqb (line_of a b) c) bs)) ≡ extent (map (line_of a) bs) (map (size_of a) bs) c →
        largest (map (size_of a) (cond t (b ∷ filter (λ b. eqb (line_of a b) c) bs) (filter (λ b. eqb (line_of a b) c) bs))) ≡ max (cond t (size_of a b) 0) (extent (map (line_of a) bs) (map (size_of a) bs) c)
    go true rest = ap (max (size_of a b)) rest
    go false rest = rest ∙ omega arith

all-largest : (b : ℕ) (xs : List ℕ) → All (λ s. s ≤ b) xs → largest xs ≤ b
all-largest b [] a = omega arith
all-largest b (x ∷ xs) a = omega (arith, a.0, all-largest b xs a.1)

pub largest_le : (b n : ℕ) (xs : List ℕ) → n ≤ length xs → Bounded b xs n → largest (take n xs) ≤ b
largest_le b n xs room h =
    all-largest b (take n xs)
    (all-by (λ s. s ≤ b) 0 (take n xs)
    (λ i l. let u : i < n = omega (arith, length-take-le n xs room) in subst (λ (s : ℕ). s ≤ b) (sym (get_or-take n xs i 0 u)) (h.most i u)))

pub begins_le : (gap : ℕ) (places sizes : List ℕ) → gap ≤ 2048 → All (λ s. s ≤ 8389000) sizes → (c : ℕ) → begins gap places sizes c ≤ 128 + 8391048 * c
begins_le gap places sizes g a zero = omega arith
begins_le gap places sizes g a (suc c) = omega (arith, begins_le gap places sizes g a c, extent_le 8389000 places sizes c a)

pub gap_most : (a : Axis) → gap_of a ≤ 2048
gap_most Across = omega arith
gap_most Down = omega arith
