-- Lowering in the code's rows.
-- Assumes nothing.
use Prim.Native.Nat.{ℕ, zero, suc, ◌+◌, ◌-◌, ◌*◌, ◌≤◌, ◌<◌, min}
use native.Mathlib.Omega.{arith}
use native.Mathlib.Numerals.{add-one}
use mathlib.Core.Path.{◌≡◌, refl, ap, sym, subst, ◌∙◌}
use mathlib.Core.Option.{none, some}
use mathlib.Core.Bool.{false}
use lib.IntN.{ℤ, pos, nat_abs, ◌-ℤ◌}
use mathlib.Core.List.{List, [], ◌∷◌, ◌++◌, map}
use lib.ListN.{length, get_or, set, take, drop, replicate, length-map, length-append, length-replicate}
use Rattle.std.proofs.lemmas.List.{get_or-map, take-map, ext_get_or}
use Rattle.std.specs.Int.{int_min}
use Rattle.std.specs.Prelude.{Option, Some, None}
use Rattle.std.specs.Option.{is_some, unwrap_or, option_to_list}
use Rattle.std.specs.List.{fold, flat_map}
use Rattle.graph.specs.Shape.{Shape}
use denote.Param.Members.{Mut, Called}
use Rattle.std.specs.Array.{IsMapOf}
use Rattle.laws.proofs.Lists.{drop-replicate}
use Rattle.laws.specs.Each.{each}
use Rattle.laws.proofs.Each.{next}
use Rattle.grid.specs.Lists.{or_else}
use Rattle.grid.specs.Heights.{Rows, fresh, least_row, lowered, reached_from, start, heights}
use Rattle.grid.specs.code.Arrays.{held}
use Rattle.grid.specs.code.Walk.{raised, raised_row, reached_in, rows_of, Near, AllNear, IsLeast}
use Rattle.grid.proofs.Arrays.{all-at}
use Rattle.grid.proofs.HeightLaws.{Within, reached-positive}
use Rattle.grid.proofs.SignedLaws.{near-raised, smaller, smaller-near, raised_le, difference}
use Rattle.grid.proofs.WalkLaws.{rows-fresh, none-everywhere}

-- each row of a walk is near
reached-near : (n : ℕ) (zs : List (Option ℤ)) → Within 1 (2 * n - 1) (reached_in n zs) → AllNear n zs
reached-near n [] w = tt
reached-near n (None ∷ zs) w = (tt, reached-near n zs w)
reached-near n (Some z ∷ zs) w = (near-raised n z w.0 (omega (arith, w.0, w.1)), reached-near n zs w.2)

pub near-at : (n : ℕ) (zs : List (Option ℤ)) (k : ℕ) (z : ℤ) → k < length zs → AllNear n zs → get_or zs k None ≡ Some z → nat_abs z < n
near-at n zs k z h a e = subst (Near n) e (all-at (Near n) None zs k h a)

raised-at : (n : ℕ) (zs : List (Option ℤ)) (k : ℕ) → k < length zs → get_or (reached_in n zs) k none ≡ raised_row n (get_or zs k None)
raised-at n zs k h = get_or-map (raised_row n) zs k None none h

-- ---- the least
least-min : (r m : ℕ) (v : Rows) → least_row (min m r) v ≡ min r (least_row m v)
least-min r m [] = omega arith
least-min r m (none ∷ v) = least-min r m v
least-min r m (some a ∷ v) = omega (arith, least-min r m v)

least-below : (m : ℕ) (v : Rows) (k r : ℕ) → get_or v k none ≡ some r → least_row m v ≤ r
least-below m [] k r e = absurd (let f : none ≡ some r = e in cc)
least-below m (none ∷ v) zero r e = absurd (let f : none ≡ some r = e in cc)
least-below m (some a ∷ v) zero r e = let f : a ≡ r = cc in omega arith
least-below m (none ∷ v) (suc k) r e = least-below m v k r e
least-below m (some a ∷ v) (suc k) r e = omega (arith, least-below m v k r e)

-- the fold over the rows that there are, from m on
least_folded : (n : ℕ) (zs : List (Option ℤ)) (m : ℤ) → nat_abs m ≤ n → AllNear n zs →
    let w = fold int_min m (flat_map option_to_list zs) in (nat_abs w ≤ n) × (raised n w ≡ least_row (raised n m) (reached_in n zs))
least_folded n [] m h a = (h, refl)
least_folded n (None ∷ zs) m h a = least_folded n zs m h a.1
least_folded n (Some z ∷ zs) m h a =
    let near : nat_abs z ≤ n = omega (arith, a.0) in
    let w = least_folded n zs (int_min m z) (smaller-near n m z h near) a.1 in
    (w.0, w.1 ∙ ap (λ i. least_row i (reached_in n zs)) (smaller n m z h near) ∙ least-min (raised n z) (raised n m) (reached_in n zs))

pub least_is : (n : ℕ) (zs : List (Option ℤ)) → AllNear n zs → IsLeast n (reached_in n zs) (fold int_min (pos 0) (flat_map option_to_list zs))
least_is n zs a =
    let w = least_folded n zs (pos 0) (omega arith) a in
    let z : n + 0 ≡ n = omega arith in
    record { near = w.0; least = w.1 ∙ ap (λ m. least_row m (reached_in n zs)) z }

-- ---- lowering one more
lower-keep : (m : ℕ) (v ys : Rows) (k : ℕ) → k < length v → get_or v k none ≡ none → lowered m (take (suc k) v) ys ≡ lowered m (take k v) ys
lower-keep m [] ys k h e = absurd (omega arith)
lower-keep m (x ∷ v) [] zero h e = refl
lower-keep m (x ∷ v) (y ∷ ys) zero h e = rw e refl
lower-keep m (x ∷ v) [] (suc k) h e = refl
lower-keep m (x ∷ v) (y ∷ ys) (suc k) h e = cc (lower-keep m v ys k (omega arith) e)

lower-put : (m : ℕ) (v ys : Rows) (k r : ℕ) → k < length v → get_or v k none ≡ some r → lowered m (take (suc k) v) ys ≡ set (lowered m (take k v) ys) k (some (r - m))
lower-put m [] ys k r h e = absurd (omega arith)
lower-put m (x ∷ v) [] zero r h e = refl
lower-put m (x ∷ v) (y ∷ ys) zero r h e = rw e refl
lower-put m (x ∷ v) [] (suc k) r h e = refl
lower-put m (x ∷ v) (y ∷ ys) (suc k) r h e = cc (lower-put m v ys k r (omega arith) e)

module _ (n : ℕ) (zs : List (Option ℤ)) (a : AllNear n zs) (m : ℤ) (i : IsLeast n (reached_in n zs) m) (k : ℕ) (h : k < length zs) (ys : Rows) where
  pub lower-none : get_or zs k None ≡ None → lowered (raised n m) (reached_in n (take (k + 1) zs)) ys ≡ lowered (raised n m) (reached_in n (take k zs)) ys
  lower-none e =
      ap (λ (j : ℕ). lowered (raised n m) (reached_in n (take j zs)) ys) (add-one k)
      ∙ ap (λ (v : Rows). lowered (raised n m) v ys) (sym (take-map (raised_row n) (suc k) zs))
      ∙ lower-keep (raised n m) (reached_in n zs) ys k (rw (length-map zs (raised_row n)) h) (raised-at n zs k h ∙ ap (raised_row n) e)
      ∙ ap (λ (v : Rows). lowered (raised n m) v ys) (take-map (raised_row n) k zs)

  pub lower-some : (z : ℤ) → get_or zs k None ≡ Some z →
      lowered (raised n m) (reached_in n (take (k + 1) zs)) ys ≡ set (lowered (raised n m) (reached_in n (take k zs)) ys) k (some (nat_abs (z -ℤ m)))
  lower-some z e =
      let at : get_or (reached_in n zs) k none ≡ some (raised n z) = raised-at n zs k h ∙ ap (raised_row n) e in
      let near : nat_abs z ≤ n = omega (arith, near-at n zs k z h a e) in
      let le = raised_le n z m near i.near (omega (arith, i.least, least-below n (reached_in n zs) k (raised n z) at)) in
      ap (λ (j : ℕ). lowered (raised n m) (reached_in n (take j zs)) ys) (add-one k)
      ∙ ap (λ (v : Rows). lowered (raised n m) v ys) (sym (take-map (raised_row n) (suc k) zs))
      ∙ lower-put (raised n m) (reached_in n zs) ys k (raised n z) (rw (length-map zs (raised_row n)) h) at
      ∙ ap (λ (v : Rows). set (lowered (raised n m) v ys) k (some (raised n z - raised n m))) (take-map (raised_row n) k zs)
      ∙ ap (λ (d : ℤ). set (lowered (raised n m) (reached_in n (take k zs)) ys) k (some (nat_abs d))) (sym (difference n z m near i.near le))

-- ---- one node's turn
module _ (g : Shape) (rows : List (Option ℕ)) (long : length rows ≡ length g) (p : ℕ) (l : p < length g) where
  abbrev n : ℕ
  n = length g

  pub turn_walk : (w : Rows) (m : ℕ) (v : Rows) → is_some (get_or rows p None) ≡ false → w ≡ reached_from g p → m ≡ least_row n w →
      v ≡ lowered m w (rows_of rows) → v ≡ start (fresh (rows_of rows) p) g p (rows_of rows)
  turn_walk w m v z e i q = let f = rows-fresh rows p (omega arith) in rw (f, z, ← e, ← i) q

  -- a walk's rows are near
  pub walk-near : (zs : List (Option ℤ)) → reached_in n zs ≡ reached_from g p → AllNear n zs
  walk-near zs e = reached-near n zs (subst (λ (v : Rows). Within 1 (2 * n - 1) v) (sym e) (reached-positive g p (omega arith)))

-- the nodes rising
module _ (g : Shape) where
  pub done : ℕ → Rows
  done p = each (replicate (length g) none) (λ q rows. start (fresh rows q) g q rows) p

  pub done_first : rows_of (replicate (length g) None) ≡ done 0
  unfolding done each
  done_first = none-everywhere held None refl (length g)

  pub done_more : (p : ℕ) (u v : Rows) → u ≡ done p → v ≡ start (fresh u p) g p u → v ≡ done (p + 1)
  unfolding done
  done_more p u v e i =
      i ∙ ap (λ (w : Rows). start (fresh w p) g p w) e ∙ sym (next (replicate (length g) none) (λ q rows. start (fresh rows q) g q rows) p)

  pub done_all : (v : Rows) → v ≡ done (length g) → map (or_else 0) v ≡ heights g
  unfolding done heights
  done_all v e = ap (map (or_else 0)) e

-- ---- the rows as numbers, in an array
abbrev pub numbers_of : List (Option ℕ) → List ℕ
numbers_of rows = map (λ o. unwrap_or o 0) rows

pub numbers-are : (rows : List (Option ℕ)) → numbers_of rows ≡ map (or_else 0) (rows_of rows)
numbers-are [] = refl
numbers-are (None ∷ rows) = ap (λ (l : List ℕ). 0 ∷ l) (numbers-are rows)
numbers-are (Some r ∷ rows) = ap (λ (l : List ℕ). r ∷ l) (numbers-are rows)

numbers-past : (rows : List (Option ℕ)) (k : ℕ) → numbers_of (rows ++ replicate k None) ≡ numbers_of rows ++ replicate k 0
numbers-past [] zero = refl
numbers-past [] (suc k) = ap (λ (l : List ℕ). 0 ∷ l) (numbers-past [] k)
numbers-past (r ∷ rows) k = ap (λ (l : List ℕ). unwrap_or r 0 ∷ l) (numbers-past rows k)

-- what an array's `map` makes of an array that begins with the n rows
pub numbers-made : {F : Type 0} (g : Mut F (Option ℕ × Unit {0}) ℕ) (f : F) (rows : List (Option ℕ)) (n m : ℕ) (ys : List ℕ) → length rows ≡ n → n ≤ m →
    IsMapOf g f (rows ++ drop n (replicate m None)) ys m → ((p q : F) (o : Option ℕ) (y : ℕ) → Called g p (o, tt) y q → y ≡ unwrap_or o 0) →
    ys ≡ numbers_of rows ++ replicate (m - n) 0
numbers-made g f rows n m ys e h r each =
    let k : ℕ = m - n in
    let all : List (Option ℕ) = rows ++ replicate k None in
    let r : IsMapOf g f all ys m = rw (drop-replicate {A = Option ℕ} n m None) at r in
    let long : length all ≡ m = omega (arith, e, length-append rows (replicate {A = Option ℕ} k None), length-replicate {A = Option ℕ} k None) in
    ext_get_or 0 ys (numbers_of all) (r.long ∙ sym long ∙ sym (length-map all (λ o. unwrap_or o 0)))
    (λ i l. let c = r.at i None 0 (omega (arith, r.long)) in each c.0 c.1 _ _ c.2 ∙ sym (get_or-map (λ o. unwrap_or o 0) all i None 0 (omega (arith, long, r.long))))
    ∙ numbers-past rows k
