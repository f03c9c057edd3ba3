-- Module 7: after every step no two boxes have the same row and column, and every column is below 3 times the number of boxes.
-- Assumes nothing.
use Prim.Native.Nat.{ℕ, zero, suc, ◌+◌, ◌-◌, ◌*◌, ◌≤◌, ◌<◌}
use native.Mathlib.Omega.{arith}
use native.Mathlib.Nat.{le_of_suc-le-suc, not-suc-le-zero}
use native.Mathlib.Numerals.{add-one}
use mathlib.Core.Path.{◌≡◌, refl, ap, sym, ◌∙◌, subst}
use mathlib.Core.Logic.{◌⊎◌, inl, inr}
use mathlib.Core.Option.{Option, none, some}
use mathlib.Core.Bool.{Bool, true, false, cond, ◌&&◌, true≢false}
use mathlib.Core.List.{List, [], ◌∷◌}
use lib.Dec.{eqb, ltb}
use lib.ListN.{length, set, length-set, length-map}
use lib.Seq.{get_or-set_same, get_or-set_other}
use borrow.Author.Tests.{eq-eqb, lt-ltb, ltb-true}
use Rattle.laws.proofs.Tests.{less?, same?, pick}
use Rattle.graph.specs.Shape.{Shape}
use Rattle.laws.specs.Each.{each}
use Rattle.grid.specs.Lists.{largest, smallest}
use Rattle.grid.specs.Columns.{at, taken, incidents, columns_of, target, go_to, first_move, first_moves, clash, collision, extra, new_columns, renamed, pairs_from, table, fold_from, mean, nearer, right_of, right_end, left_end, clamp, average_to, average_one, average, round, columns}
use Rattle.grid.specs.code.Placed.{Placed, FirstColumns}
use Rattle.grid.proofs.ListLaws.{or_right, some_below, at-largest, smallest_le, at_map, everywhere, store_below}
use Rattle.laws.proofs.Each.{keeps}

-- a box's own place is taken
pub taken_at : (rows cols : List ℕ) (i r x : ℕ) → i < length rows → i < length cols → at rows i ≡ r → at cols i ≡ x → taken rows cols r x ≡ true
taken_at [] cols i r x h k e f = absurd (not-suc-le-zero h)
taken_at (y ∷ rows) [] i r x h k e f = absurd (not-suc-le-zero k)
taken_at (y ∷ rows) (c ∷ cols) zero r x h k e f = rw (eq-eqb y r e, eq-eqb c x f)
taken_at (y ∷ rows) (c ∷ cols) (suc i) r x h k e f =
    or_right (eqb y r && eqb c x) (taken rows cols r x) (taken_at rows cols i r x (le_of_suc-le-suc h) (le_of_suc-le-suc k) e f)

-- the first columns are all different
pub first-placed : (n : ℕ) (rows first : List ℕ) → FirstColumns n first → Placed n (2 * n) rows first
first-placed n rows first f = record { long = f.long; below = f.below; apart = λ i j hi hj r e. f.distinct i j hi hj e }

-- b is above every column, a box's or not
abbrev pub Below : ℕ → List ℕ → Type 0
Below b cols = (q : ℕ) → at cols q < b

module _ (b : ℕ) (cols : List ℕ) (s : Below b cols) where
  ends-below : (qs : List ℕ) → largest (columns_of cols qs) < b
  ends-below [] = omega (arith, s 0)
  ends-below (q ∷ qs) = omega (arith, s q, ends-below qs)

  pick-below : (t u : Bool) (x y z : ℕ) → x ≤ b → y ≤ b → z ≤ b → cond t x (cond u y z) < suc b
  pick-below true u x y z hx hy hz = omega arith
  pick-below false true x y z hx hy hz = omega arith
  pick-below false false x y z hx hy hz = omega arith

  -- where the first move of node p goes
  goal_below : (g : Shape) (p : ℕ) → let xs = columns_of cols (incidents g p) in target (at cols p) (smallest (largest xs) xs) (largest xs) < suc b
  goal_below g p =
      let xs : List ℕ = columns_of cols (incidents g p) in
      let low : ℕ = smallest (largest xs) xs in
      let high : ℕ = largest xs in
      let h = ends-below (incidents g p) in
      pick-below (ltb (at cols p + 2) low) (ltb low (at cols p) && ltb high (at cols p - 2)) (low + 1) (high - 1) (at cols p)
      (omega (arith, smallest_le high xs)) (omega arith) (omega (arith, s p))

  pub move-below : (g : Shape) (rows : List ℕ) (p : ℕ) → Below (suc b) (first_move g rows p cols)
  move-below g rows p q =
      let xs : List ℕ = columns_of cols (incidents g p) in
      let x : ℕ = target (at cols p) (smallest (largest xs) xs) (largest xs) in
      let stay : at cols q < suc b = omega (arith, s q) in
      pick (λ (l : List ℕ). at l q < suc b) (ltb (length xs) 2) cols (go_to rows p x cols) stay
      (pick (λ (l : List ℕ). at l q < suc b) (taken rows cols (at rows p) x) cols (set cols p x) stay (store_below cols p x (suc b) q (goal_below g p) stay))

-- n boxes with their rows; b is above every column
module _ (n : ℕ) (rows : List ℕ) (tall : length rows ≡ n) where
  pub wider : (b c : ℕ) (cols : List ℕ) → b ≤ c → Placed n b rows cols → Placed n c rows cols
  wider b c cols h s = record { long = s.long; below = λ k l. omega (arith, s.below k l); apart = s.apart }

  pub all-below : (b : ℕ) (cols : List ℕ) → 0 < b → Placed n b rows cols → Below b cols
  all-below b cols z s = everywhere cols n b z (omega (arith, s.long)) s.below

  -- box p goes to column x, where no other box of its row is
  module _ (b c : ℕ) (cols : List ℕ) (s : Placed n b rows cols) (p x : ℕ) (hp : p < n) (hx : x < c) (hb : b ≤ c)
      (alone : (j : ℕ) → j < n → (j ≡ p → ⊥) → at rows j ≡ at rows p → at cols j ≡ x → ⊥) where
    there : at (set cols p x) p ≡ x
    there = get_or-set_same cols p x 0 (omega (arith, s.long))

    other : (j : ℕ) → (j ≡ p → ⊥) → at (set cols p x) j ≡ at cols j
    other j o = get_or-set_other cols p j x 0 o

    set_apart : (i j : ℕ) → i < n → j < n → at rows i ≡ at rows j → at (set cols p x) i ≡ at (set cols p x) j → i ≡ j
    set_apart i j hi hj r e = go (same? i p) (same? j p)
      where
        go : (i ≡ p) ⊎ (i ≡ p → ⊥) → (j ≡ p) ⊎ (j ≡ p → ⊥) → i ≡ j
        go (inl a) (inl d) = a ∙ sym d
        go (inl a) (inr o) = absurd (alone j hj o (sym r ∙ ap (at rows) a) (sym (other j o) ∙ sym e ∙ ap (at (set cols p x)) a ∙ there))
        go (inr o) (inl d) = absurd (alone i hi o (r ∙ ap (at rows) d) (sym (other i o) ∙ e ∙ ap (at (set cols p x)) d ∙ there))
        go (inr o) (inr q) = s.apart i j hi hj r (sym (other i o) ∙ e ∙ other j q)

    pub set-placed : Placed n c rows (set cols p x)
    set-placed = record { long = length-set cols p x ∙ s.long; below = λ k h. store_below cols p x c k hx (omega (arith, s.below k h)); apart = set_apart }

  -- the first move of one node
  module _ (b : ℕ) (cols : List ℕ) (s : Placed n b rows cols) (p : ℕ) (hp : p < n) where
    pub go-placed : (x : ℕ) → x < suc b → Placed n (suc b) rows (go_to rows p x cols)
    go-placed x hx = go (taken rows cols (at rows p) x) refl
      where
        go : (t : Bool) → taken rows cols (at rows p) x ≡ t → Placed n (suc b) rows (cond t cols (set cols p x))
        go true e = wider b (suc b) cols (omega arith) s
        go false e =
            set-placed b (suc b) cols s p x hp hx (omega arith)
            (λ j h o r q. true≢false (sym (taken_at rows cols j (at rows p) x (omega arith) (omega (arith, s.long)) r q) ∙ e))

    pub move-placed : (g : Shape) → Placed n (suc b) rows (first_move g rows p cols)
    move-placed g =
        let xs : List ℕ = columns_of cols (incidents g p) in
        let x : ℕ = target (at cols p) (smallest (largest xs) xs) (largest xs) in
        pick (Placed n (suc b) rows) (ltb (length xs) 2) cols (go_to rows p x cols) (wider b (suc b) cols (omega arith) s)
        (go-placed x (goal_below b cols (all-below b cols (omega (arith, s.below p hp)) s) g p))

  -- the first moves: each of the n nodes may take the largest column one further
  pub moved-placed : (g : Shape) (cols : List ℕ) → Placed n (2 * n) rows cols → (k : ℕ) → k ≤ n → Placed n (2 * n + k) rows (each cols (first_move g rows) k)
  moved-placed g cols s k l =
      keeps (λ p u. Placed n (2 * n + p) rows u) cols (first_move g rows) (wider (2 * n) (2 * n + 0) cols (omega arith) s) k
      (λ p u h v. wider (suc (2 * n + p)) (2 * n + suc p) (first_move g rows p u) (omega arith) (move-placed (2 * n + p) u v p (omega arith) g))

  pub moves_placed : (g : Shape) (cols : List ℕ) → length g ≡ n → Placed n (2 * n) rows cols → Placed n (3 * n) rows (first_moves g rows cols)
  unfolding first_moves
  moves_placed g cols e s =
      let h : length g ≤ n = omega arith in
      wider (2 * n + length g) (3 * n) (each cols (first_move g rows) (length g)) (omega arith) (moved-placed g cols s (length g) h)

-- one row with both places taken is enough
pub found : (rows cols : List ℕ) (x r n : ℕ) → r < n → clash rows cols x r ≡ true → collision rows cols x n ≡ true
found rows cols x = some_below (collision rows cols x) (clash rows cols x) (λ k. refl)

-- A table of new columns: no less than the first, at most one for each column, and the same only for the two of a pair that has no collision.
module _ (more : ℕ → ℕ) where
  pub new-length : (k x new : ℕ) → length (new_columns more k x new) ≡ 2 * k
  new-length zero x new = refl
  new-length (suc k) x new = omega (arith, new-length k (x + 2) (suc (new + more x)))

  new-least : (k x new i : ℕ) → i < length (new_columns more k x new) → new ≤ at (new_columns more k x new) i
  new-least zero x new i h = absurd (not-suc-le-zero h)
  new-least (suc k) x new zero h = omega arith
  new-least (suc k) x new (suc zero) h = omega arith
  new-least (suc k) x new (suc (suc i)) h =
      omega (arith, new-least k (x + 2) (suc (new + more x)) i (le_of_suc-le-suc (le_of_suc-le-suc h)))

  new-most : ((y : ℕ) → more y ≤ 1) → (k x new i : ℕ) → i < length (new_columns more k x new) → at (new_columns more k x new) i ≤ new + i
  new-most one zero x new i h = absurd (not-suc-le-zero h)
  new-most one (suc k) x new zero h = omega arith
  new-most one (suc k) x new (suc zero) h = omega (arith, one x)
  new-most one (suc k) x new (suc (suc i)) h =
      omega (arith, one x, new-most one k (x + 2) (suc (new + more x)) i (le_of_suc-le-suc (le_of_suc-le-suc h)))

  new-same : (k x new i j : ℕ) → i < j → j < length (new_columns more k x new) → at (new_columns more k x new) i ≡ at (new_columns more k x new) j →
      (j ≡ suc i) × (more (x + i) ≡ 0)
  new-same zero x new i j l h e = absurd (not-suc-le-zero h)
  new-same (suc k) x new zero zero l h e = absurd (not-suc-le-zero l)
  new-same (suc k) x new zero (suc zero) l h e =
      let z : x + 0 ≡ x = omega arith in
      (refl, rw z (omega arith))
  new-same (suc k) x new zero (suc (suc j)) l h e =
      absurd (omega (arith, new-least k (x + 2) (suc (new + more x)) j (le_of_suc-le-suc (le_of_suc-le-suc h))))
  new-same (suc k) x new (suc zero) zero l h e = absurd (not-suc-le-zero l)
  new-same (suc k) x new (suc zero) (suc zero) l h e = absurd (omega arith)
  new-same (suc k) x new (suc zero) (suc (suc j)) l h e =
      absurd (omega (arith, new-least k (x + 2) (suc (new + more x)) j (le_of_suc-le-suc (le_of_suc-le-suc h))))
  new-same (suc k) x new (suc (suc i)) zero l h e = absurd (not-suc-le-zero l)
  new-same (suc k) x new (suc (suc i)) (suc zero) l h e = absurd (omega arith)
  new-same (suc k) x new (suc (suc i)) (suc (suc j)) l h e =
      let s = new-same k (x + 2) (suc (new + more x)) i j (le_of_suc-le-suc (le_of_suc-le-suc l)) (le_of_suc-le-suc (le_of_suc-le-suc h)) e in
      let z : x + suc (suc i) ≡ x + 2 + i = omega arith in
      (omega (arith, s.0), rw z s.1)

-- What a table must give so that the columns may go by it.
pub record Folds (rows cols table : List ℕ) : Type 0 where
  pub cover : largest cols < length table
  pub most : (i : ℕ) → i < length table → at table i ≤ i
  pub same : (i j : ℕ) → i < j → j < length table → at table i ≡ at table j → (j ≡ suc i) × (extra rows cols i ≡ 0)

pub extra_le : (t : Bool) → cond t 1 0 ≤ 1
extra_le true = omega arith
extra_le false = omega arith

module _ (rows cols : List ℕ) where
  one_more : (y : ℕ) → extra rows cols y ≤ 1
  one_more y = extra_le (collision rows cols y (suc (largest rows)))

  pub table0_folds : Folds rows cols (table 0 rows cols)
  table0_folds =
      record {
        cover = omega (arith, new-length (extra rows cols) (pairs_from 0 cols) 0 0);
        most = λ i h. omega (arith, new-most (extra rows cols) one_more (pairs_from 0 cols) 0 0 i h);
        same = λ i j l h e.
            let s = new-same (extra rows cols) (pairs_from 0 cols) 0 0 i j l h e in
            let z : 0 + i ≡ i = omega arith in
            (s.0, subst (λ (y : ℕ). extra rows cols y ≡ 0) z s.1);
      }

  most1 : (i : ℕ) → i < length (table 1 rows cols) → at (table 1 rows cols) i ≤ i
  most1 zero h = omega arith
  most1 (suc i) h = omega (arith, new-most (extra rows cols) one_more (pairs_from 1 cols) 1 1 i (le_of_suc-le-suc h))

  same1 : (i j : ℕ) → i < j → j < length (table 1 rows cols) → at (table 1 rows cols) i ≡ at (table 1 rows cols) j → (j ≡ suc i) × (extra rows cols i ≡ 0)
  same1 i zero l h e = absurd (not-suc-le-zero l)
  same1 zero (suc j) l h e = absurd (omega (arith, new-least (extra rows cols) (pairs_from 1 cols) 1 1 j (le_of_suc-le-suc h)))
  same1 (suc i) (suc j) l h e =
      let s = new-same (extra rows cols) (pairs_from 1 cols) 1 1 i j (le_of_suc-le-suc l) (le_of_suc-le-suc h) e in
      let z : 1 + i ≡ suc i = omega arith in
      (ap suc s.0, subst (λ (y : ℕ). extra rows cols y ≡ 0) z s.1)

  pub table1_folds : Folds rows cols (table 1 rows cols)
  table1_folds = record { cover = omega (arith, new-length (extra rows cols) (pairs_from 1 cols) 1 1); most = most1; same = same1 }

-- the columns go by a table
pub fold_below : (b : ℕ) (rows cols table : List ℕ) → Folds rows cols table → Below b cols → Below b (renamed table cols)
fold_below b rows cols table f s =
    everywhere (renamed table cols) (length cols) b (omega (arith, s 0)) (omega (arith, length-map cols (at table)))
    (λ q h. rw (at_map (at table) cols q 0 h) (omega (arith, f.most (at cols q) (omega (arith, f.cover, at-largest cols q h)), s q)))

-- n boxes with their rows; b is above every column
module _ (n b : ℕ) (rows : List ℕ) (tall : length rows ≡ n) (cols : List ℕ) (s : Placed n b rows cols) where
  -- two boxes of a row, one in column x and the other in the next, are a collision
  neighbours : (i j : ℕ) → i < n → j < n → at rows i ≡ at rows j → at cols j ≡ suc (at cols i) → extra rows cols (at cols i) ≡ 1
  neighbours i j hi hj r e =
      let x : ℕ = at cols i in
      let left : taken rows cols (at rows i) x ≡ true = taken_at rows cols i (at rows i) x (omega arith) (omega (arith, s.long)) refl refl in
      let right : taken rows cols (at rows i) (x + 1) ≡ true =
      taken_at rows cols j (at rows i) (x + 1) (omega arith) (omega (arith, s.long)) (sym r) (e ∙ sym (add-one x)) in
      let both : clash rows cols x (at rows i) ≡ true = rw (left, right) refl in
      rw (found rows cols x (at rows i) (suc (largest rows)) (omega (arith, at-largest rows i (omega arith))) both)

  -- the columns go by a table
  module _ (table : List ℕ) (f : Folds rows cols table) where
    goes : (k : ℕ) → k < n → at (renamed table cols) k ≡ at table (at cols k)
    goes k h = at_map (at table) cols k 0 (omega (arith, s.long))

    inside : (k : ℕ) → k < n → at cols k < length table
    inside k h = omega (arith, f.cover, at-largest cols k (omega (arith, s.long)))

    never : (i j : ℕ) → i < n → j < n → at rows i ≡ at rows j → at table (at cols i) ≡ at table (at cols j) → at cols i < at cols j → ⊥
    never i j hi hj r e l =
        let q = f.same (at cols i) (at cols j) l (inside j hj) e in
        omega (arith, q.1, neighbours i j hi hj r q.0)

    renamed-apart : (i j : ℕ) → i < n → j < n → at rows i ≡ at rows j → at (renamed table cols) i ≡ at (renamed table cols) j → i ≡ j
    renamed-apart i j hi hj r e = go (less? (at cols i) (at cols j)) (less? (at cols j) (at cols i))
      where
        t : at table (at cols i) ≡ at table (at cols j)
        t = sym (goes i hi) ∙ e ∙ goes j hj

        go : (at cols i < at cols j) ⊎ (at cols j ≤ at cols i) → (at cols j < at cols i) ⊎ (at cols i ≤ at cols j) → i ≡ j
        go (inl l) d = absurd (never i j hi hj r t l)
        go (inr m) (inl l) = absurd (never j i hj hi (sym r) (sym t) l)
        go (inr m) (inr q) = s.apart i j hi hj r (omega arith)

    pub renamed-placed : Placed n b rows (renamed table cols)
    renamed-placed =
        record {
          long = length-map cols (at table) ∙ s.long;
          below = λ k h. rw (goes k h) (omega (arith, f.most (at cols k) (inside k h), s.below k h));
          apart = renamed-apart;
        }

  pub fold0_placed : Placed n b rows (fold_from 0 rows cols)
  unfolding fold_from
  fold0_placed = renamed-placed (table 0 rows cols) (table0_folds rows cols)

  pub fold1_placed : Placed n b rows (fold_from 1 rows cols)
  unfolding fold_from
  fold1_placed = renamed-placed (table 1 rows cols) (table1_folds rows cols)

-- Averaging: the place that a box of column x and row r may go to lies between its neighbours.
cond_le : (t u : Bool) (a m : ℕ) → (u ≡ true → a ≤ m) → cond (t && u) a 0 ≤ m
cond_le true true a m h = h refl
cond_le true false a m h = omega arith
cond_le false u a m h = omega arith

-- the place to the right, if there is one, is beyond x, is below b, is at most c
abbrev pub Beyond : ℕ → Option ℕ → Type 0
Beyond x none = Unit {0}
Beyond x (some c) = x < c

abbrev pub Under : ℕ → Option ℕ → Type 0
Under b none = Unit {0}
Under b (some c) = c < b

abbrev pub Upto : ℕ → Option ℕ → Type 0
Upto c none = ⊥
Upto c (some y) = y ≤ c

nearer-beyond : (t u : Bool) (x c : ℕ) (o : Option ℕ) → (u ≡ true → x < c) → Beyond x o → Beyond x (nearer (t && u) c o)
nearer-beyond true true x c none h k = h refl
nearer-beyond true true x c (some y) h k = let l : x < c = h refl in omega arith
nearer-beyond true false x c o h k = k
nearer-beyond false u x c o h k = k

nearer-under : (t : Bool) (b c : ℕ) (o : Option ℕ) → c < b → Under b o → Under b (nearer t c o)
nearer-under true b c none h k = h
nearer-under true b c (some y) h k = omega arith
nearer-under false b c o h k = k

nearer-here : (c : ℕ) (o : Option ℕ) → Upto c (nearer true c o)
nearer-here c none = omega arith
nearer-here c (some y) = omega arith

nearer_upto : (t : Bool) (c d : ℕ) (o : Option ℕ) → Upto d o → Upto d (nearer t c o)
nearer_upto true c d none k = absurd k
nearer_upto true c d (some y) k = omega arith
nearer_upto false c d o k = k

module _ (r x : ℕ) where
  pub left-most : (rows cols : List ℕ) → left_end rows cols r x ≤ x
  left-most [] cols = omega arith
  left-most (y ∷ rows) [] = omega arith
  left-most (y ∷ rows) (c ∷ cols) =
      omega (arith, cond_le (eqb y r) (ltb c x) (c + 1) x (λ e. omega (arith, ltb-true c x e)), left-most rows cols)

  left-past : (rows cols : List ℕ) (i : ℕ) → i < length rows → i < length cols → at rows i ≡ r → at cols i < x → at cols i < left_end rows cols r x
  left-past [] cols i h k e l = absurd (not-suc-le-zero h)
  left-past (y ∷ rows) [] i h k e l = absurd (not-suc-le-zero k)
  left-past (y ∷ rows) (c ∷ cols) zero h k e l = rw (eq-eqb y r e, lt-ltb c x l) (omega arith)
  left-past (y ∷ rows) (c ∷ cols) (suc i) h k e l =
      omega (arith, left-past rows cols i (le_of_suc-le-suc h) (le_of_suc-le-suc k) e l)

  pub right-beyond : (rows cols : List ℕ) → Beyond x (right_of rows cols r x)
  right-beyond [] cols = tt
  right-beyond (y ∷ rows) [] = tt
  right-beyond (y ∷ rows) (c ∷ cols) =
      nearer-beyond (eqb y r) (ltb x c) x c (right_of rows cols r x) (λ e. ltb-true x c e) (right-beyond rows cols)

  pub right-under : (b : ℕ) (rows cols : List ℕ) → ((k : ℕ) → k < length cols → at cols k < b) → Under b (right_of rows cols r x)
  right-under b [] cols h = tt
  right-under b (y ∷ rows) [] h = tt
  right-under b (y ∷ rows) (c ∷ cols) h =
      nearer-under (eqb y r && ltb x c) b c (right_of rows cols r x) (h 0 (omega arith)) (right-under b rows cols (λ k l. h (suc k) (omega arith)))

  right_upto : (rows cols : List ℕ) (i : ℕ) → i < length rows → i < length cols → at rows i ≡ r → x < at cols i → Upto (at cols i) (right_of rows cols r x)
  right_upto [] cols i h k e l = absurd (not-suc-le-zero h)
  right_upto (y ∷ rows) [] i h k e l = absurd (not-suc-le-zero k)
  right_upto (y ∷ rows) (c ∷ cols) zero h k e l = rw (eq-eqb y r e, lt-ltb x c l) (nearer-here c (right_of rows cols r x))
  right_upto (y ∷ rows) (c ∷ cols) (suc i) h k e l =
      nearer_upto (eqb y r && ltb x c) c (at cols i) (right_of rows cols r x) (right_upto rows cols i (le_of_suc-le-suc h) (le_of_suc-le-suc k) e l)

  pub end-least : (o : Option ℕ) → Beyond x o → x ≤ right_end x o
  end-least none h = omega arith
  end-least (some c) h = omega arith

  pub end-under : (b : ℕ) (o : Option ℕ) → x < b → Under b o → right_end x o < b
  end-under b none h k = h
  end-under b (some c) h k = omega arith

  end_before : (d : ℕ) (o : Option ℕ) → x < d → Upto d o → right_end x o < d
  end_before d none h k = absurd k
  end_before d (some c) h k = omega arith

-- the clamp never crosses
pub ends-ordered : (rows cols : List ℕ) (r x : ℕ) → left_end rows cols r x ≤ right_end x (right_of rows cols r x)
ends-ordered rows cols r x = omega (arith, left-most r x rows cols, end-least r x (right_of rows cols r x) (right-beyond r x rows cols))

-- the place between the neighbours is below b
module _ (b : ℕ) (rows cols : List ℕ) (s : Below b cols) where
  end_below : (r x : ℕ) → x < b → right_end x (right_of rows cols r x) < b
  end_below r x h = end-under r x b (right_of rows cols r x) h (right-under r x b rows cols (λ k l. s k))

  pub average-below : (p w : ℕ) → Below b (average_to rows p w cols)
  average-below p w q =
      let r : ℕ = at rows p in
      let x : ℕ = at cols p in
      store_below cols p (clamp (left_end rows cols r x) (right_end x (right_of rows cols r x)) w) b q
      (omega (arith, left-most r x rows cols, end_below r x (s p), s p)) (s q)

-- the averaging of one node
module _ (n b : ℕ) (rows : List ℕ) (tall : length rows ≡ n) (cols : List ℕ) (s : Placed n b rows cols) (p : ℕ) (hp : p < n) where
  r : ℕ
  r = at rows p

  x : ℕ
  x = at cols p

  low : ℕ
  low = left_end rows cols r x

  high : ℕ
  high = right_end x (right_of rows cols r x)

  low_le : low ≤ x
  unfolding low
  low_le = left-most r x rows cols

  high_ge : x ≤ high
  unfolding high
  high_ge = end-least r x (right_of rows cols r x) (right-beyond r x rows cols)

  high-below : high < b
  unfolding high x
  high-below = end_below b rows cols (all-below n rows tall b cols (omega (arith, s.below p hp)) s) r x (s.below p hp)

  -- whatever is wanted between the two ends, no other box of the row is there
  free : (w j : ℕ) → j < n → (j ≡ p → ⊥) → at rows j ≡ r → at cols j ≡ clamp low high w → ⊥
  unfolding low high r x
  free w j hj o e q =
      go (less? (at cols j) x) (less? x (at cols j))
    where
      go : (at cols j < x) ⊎ (x ≤ at cols j) → (x < at cols j) ⊎ (at cols j ≤ x) → ⊥
      go (inl l) d = omega (arith, low_le, high_ge, left-past r x rows cols j (omega arith) (omega (arith, s.long)) e l)
      go (inr m) (inl l) =
          omega (
            arith,
            low_le,
            high_ge,
            end_before r x (at cols j) (right_of rows cols r x) l (right_upto r x rows cols j (omega arith) (omega (arith, s.long)) e l),
          )
      go (inr m) (inr u) = o (s.apart j p hj hp e (omega arith))

  pub average-one-placed : (g : Shape) → Placed n b rows (average_one g rows p cols)
  unfolding low high r x
  average-one-placed g =
      let w : ℕ = mean (columns_of cols (incidents g p)) in
      set-placed n rows tall b b cols s p (clamp low high w) hp (omega (arith, low_le, high_ge, high-below)) (omega arith) (free w)

-- the whole of module 7
module _ (n : ℕ) (rows : List ℕ) (tall : length rows ≡ n) (g : Shape) (many : length g ≡ n) where
  pub average-placed : (b : ℕ) (cols : List ℕ) → Placed n b rows cols → Placed n b rows (average g rows cols)
  unfolding average
  average-placed b cols s =
      keeps (λ p u. Placed n b rows u) cols (average_one g rows) s (length g) (λ p u h v. average-one-placed n b rows tall u v p (omega arith) g)

  pub round-placed : (b : ℕ) (cols : List ℕ) → Placed n b rows cols → Placed n b rows (round g rows cols)
  round-placed b cols s =
      average-placed b (fold_from 1 rows (fold_from 0 rows cols))
      (fold1_placed n b rows tall (fold_from 0 rows cols) (fold0_placed n b rows tall cols s))

  -- after k rounds
  pub rounds_placed : (first : List ℕ) → Placed n (2 * n) rows first → (k : ℕ) → Placed n (3 * n) rows (each (first_moves g rows first) (λ i. round g rows) k)
  rounds_placed first s k =
      keeps (λ i u. Placed n (3 * n) rows u) (first_moves g rows first) (λ i. round g rows) (moves_placed n rows tall g first many s) k
      (λ i u h v. round-placed (3 * n) u v)

  -- after each of the 24 steps: with k rounds done, after the fold from 0, the fold from 1 and the averaging
  pub steps_placed : (first : List ℕ) → Placed n (2 * n) rows first → (k : ℕ) →
      let u = each (first_moves g rows first) (λ i. round g rows) k in
      Placed n (3 * n) rows (fold_from 0 rows u) × Placed n (3 * n) rows (fold_from 1 rows (fold_from 0 rows u)) × Placed n (3 * n) rows (round g rows u)
  steps_placed first s k =
      let u : List ℕ = each (first_moves g rows first) (λ i. round g rows) k in
      let p = rounds_placed first s k in
      let a = fold0_placed n (3 * n) rows tall u p in
      (a, fold1_placed n (3 * n) rows tall (fold_from 0 rows u) a, round-placed (3 * n) u p)

  pub columns-placed : (first : List ℕ) → Placed n (2 * n) rows first → Placed n (3 * n) rows (columns g rows first)
  unfolding columns
  columns-placed first s =
      rounds_placed first s 8
