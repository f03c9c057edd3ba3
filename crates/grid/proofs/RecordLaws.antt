-- What a sound sheet is.
-- Assumes nothing.
use Prim.Native.Nat.{ℕ, ◌≤◌}
use native.Mathlib.Omega.{arith}
use mathlib.Core.Path.{◌≡◌, refl}
use mathlib.Core.Bool.{Bool, true, false, ◌&&◌}
use mathlib.Core.List.{List, [], ◌∷◌}
use lib.Dec.{leb}
use Rattle.std.specs.List.{list_all}
use borrow.Author.Tests.{leb-true}
use Rattle.laws.specs.Bytes.{all_of}
use Rattle.grid.specs.declared.SheetRecord.{SheetRecord}
use Rattle.grid.specs.Record.{sound_of, box_near, curve_near, boxes_of, curves_of}

-- its boxes are within their array
pub sound-room : (s : SheetRecord) → sound_of s ≡ true → s.count ≤ 48
unfolding sound_of
sound-room s h = go (leb s.count 48) refl h
  where
    go : (b : Bool) → leb s.count 48 ≡ b →
        (b && leb s.drawn 88 && all_of (box_near s.x s.y) (boxes_of s) && all_of (curve_near s.x s.y) (curves_of s)) ≡ true → s.count ≤ 48
    go true e q = leb-true s.count 48 e
    go false e q = let z : ◌≡◌ {A = ℕ} 0 1 = cc in omega arith

-- `all`'s answer
pub all-is : {A : Type 0} (test : A → Bool) (xs : List A) → list_all test xs ≡ all_of test xs
all-is test [] = refl
all-is test (x ∷ xs) = rw (all-is test xs)
