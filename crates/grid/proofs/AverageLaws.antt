-- What the averaging step needs: what the boxes that are left leave free around a box, and the columns of some nodes, one by one.
-- Assumes nothing.
use Prim.Native.Nat.{ℕ, suc, ◌+◌, ◌*◌, ◌≤◌, ◌<◌, min, max}
use native.Mathlib.Omega.{arith}
use mathlib.Core.Path.{◌≡◌, refl, ap, sym, ◌∙◌}
use mathlib.Core.Option as maybe
use mathlib.Core.Option.{none, some}
use mathlib.Core.Bool.{Bool, true, false, cond, ◌&&◌}
use mathlib.Core.List.{List, [], ◌∷◌}
use lib.Dec.{eqb, ltb}
use lib.ListN.{length}
use Rattle.std.specs.Prelude.{Option, Some, None}
use Rattle.std.specs.Option.{unwrap_or}
use Rattle.grid.specs.Lists.{largest, total}
use Rattle.grid.specs.Columns.{at, nearer, right_of, left_end, columns_of}
use Rattle.grid.specs.code.Arrays.{Boxes, Inside, held}

-- the nearer of two right neighbours, if there is one
abbrev pub nearest : maybe.Option ℕ → maybe.Option ℕ → maybe.Option ℕ
nearest none o = o
nearest (some c) o = nearer true c o

pub nearest-none : (o : maybe.Option ℕ) → nearest o none ≡ o
nearest-none none = refl
nearest-none (some c) = refl

nearest-nearer : (a c : ℕ) (o : maybe.Option ℕ) → nearer true a (nearer true c o) ≡ nearer true (min a c) o
nearest-nearer a c none = refl
nearest-nearer a c (some b) = ap some (omega arith)

-- the boxes that are left, and what those before them leave free
pub record Open (r x : ℕ) (rows cols ys cs : List ℕ) (low : ℕ) (next : Option ℕ) : Type 0 where
  pub long : length ys ≡ length cs
  pub column : Inside 144 cs
  pub left : max low (left_end ys cs r x) ≡ left_end rows cols r x
  pub right : nearest (held next) (right_of ys cs r x) ≡ right_of rows cols r x

pub open_first : (n r x : ℕ) (rows cols : List ℕ) → Boxes n rows cols → Open r x rows cols rows cols 0 None
open_first n r x rows cols b =
    record {
      long = b.rows_long ∙ sym b.cols_long;
      column = record { below = λ k l. b.column k (omega (arith, b.cols_long)) };
      left = omega arith;
      right = refl;
    }

-- the next of them
module _ (r x : ℕ) (rows cols : List ℕ) (y c : ℕ) (ys cs : List ℕ) (low : ℕ) (next : Option ℕ) (o : Open r x rows cols (y ∷ ys) (c ∷ cs) low next) where
  left_met : (b : Bool) (new : ℕ) → (eqb y r && ltb c x) ≡ b → new ≡ cond b (max low (c + 1)) low → max new (left_end ys cs r x) ≡ left_end rows cols r x
  left_met true new t e = let f : cond (eqb y r && ltb c x) (c + 1) 0 ≡ c + 1 = ap (λ (b : Bool). cond b (c + 1) 0) t in omega (arith, e, f, o.left)
  left_met false new t e = let f : cond (eqb y r && ltb c x) (c + 1) 0 ≡ 0 = ap (λ (b : Bool). cond b (c + 1) 0) t in omega (arith, e, f, o.left)

  right_met : (b : Bool) (new : Option ℕ) → (eqb y r && ltb x c) ≡ b → new ≡ cond b (Some (min (unwrap_or next c) c)) next → nearest (held new) (right_of ys cs r x) ≡ right_of rows cols r x
  right_met b new t e = rw e (go b next) ∙ ap (λ a. nearest (held next) (nearer a c (right_of ys cs r x))) (sym t) ∙ o.right
    where
      go : (b : Bool) (next : Option ℕ) → nearest (held (cond b (Some (min (unwrap_or next c) c)) next)) (right_of ys cs r x) ≡ nearest (held next) (nearer b c (right_of ys cs r x))
      go true None = let f : min c c ≡ c = omega arith in ap (λ (m : ℕ). nearer true m (right_of ys cs r x)) f
      go true (Some a) = sym (nearest-nearer a c (right_of ys cs r x))
      go false o = refl

  pub open_more : (a b : Bool) {new : ℕ} {then : Option ℕ} → (eqb y r && ltb c x) ≡ a → (eqb y r && ltb x c) ≡ b → new ≡ cond a (max low (c + 1)) low →
      then ≡ cond b (Some (min (unwrap_or next c) c)) next → Open r x rows cols ys cs new then
  open_more a b s t d e =
      record {
        long = omega (arith, o.long);
        column = record { below = λ k l. o.column.below (suc k) (omega arith) };
        left = left_met a _ s d;
        right = right_met b _ t e;
      }

-- ---- the columns of some nodes
-- they are below b, if all columns are
pub columns-below : (cols nodes : List ℕ) (b : ℕ) → 0 < b → Inside (length cols) nodes → Inside b cols → largest (columns_of cols nodes) < b
columns-below cols [] b z i j = z
columns-below cols (q ∷ nodes) b z i j =
    let h : at cols q < b = j.below q (i.below 0 (omega arith)) in
    omega (arith, columns-below cols nodes b z (record { below = λ k l. i.below (suc k) (omega arith) }) j)

pub columns-total : (cols nodes : List ℕ) (b : ℕ) → Inside (length cols) nodes → Inside b cols → total (columns_of cols nodes) ≤ b * length nodes
columns-total cols [] b i j = omega arith
columns-total cols (q ∷ nodes) b i j =
    let h : at cols q < b = j.below q (i.below 0 (omega arith)) in
    let e : b * suc (length nodes) ≡ b + b * length nodes = omega arith in
    omega (arith, h, e, columns-total cols nodes b (record { below = λ k l. i.below (suc k) (omega arith) }) j)
