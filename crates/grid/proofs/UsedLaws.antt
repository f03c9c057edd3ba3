-- The table of used columns: one box more in it, a column used exactly if a box stands there, and what it says of a pair of columns.
-- Assumes nothing.
use Prim.Native.Nat.{ℕ, zero, suc, ◌+◌, ◌-◌, ◌*◌, ◌/◌, ◌%◌, ◌^◌, ◌≤◌, ◌<◌, max}
use native.Mathlib.Omega.{arith}
use native.Mathlib.Nat.{div_self, div-eq_of_lt, one-mul, le_of_suc-le-suc, not-suc-le-zero}
use native.Mathlib.Numerals.{add-one}
use mathlib.Core.Path.{◌≡◌, refl, ap, sym, ◌∙◌}
use mathlib.Core.Logic.{◌⊎◌, inl, inr}
use mathlib.Core.Bool.{Bool, true, cond, ◌&&◌, ◌||◌, true≢false}
use mathlib.Core.List.{List, [], ◌∷◌, ◌++◌}
use lib.Bits.{bit_or, or_shr, or_step, shifted_even}
use lib.Dec.{eqb}
use lib.ListN.{length, get_or, set, replicate, take, length-set, get_or-replicate}
use lib.Pow.{pow-lt, pow-add, pow_pos, shl_exact, shl-shr}
use lib.Seq.{get_or-set_same, get_or-set_other}
use borrow.Author.Tests.{eq-eqb, ne_eqb}
use Rattle.laws.proofs.Tests.{and_false, or_true, or_false, or_assoc, same?, less?}
use Rattle.grid.specs.Lists.{largest}
use Rattle.grid.specs.Columns.{at, taken, collision, extra, new_columns}
use Rattle.grid.specs.code.Arrays.{Boxes, Inside, Stands, Tells, Used, used_in, collision_in, extra_in, table_to}
use Rattle.grid.proofs.ListLaws.{some_below}
use Rattle.grid.proofs.ColumnLaws.{taken_at}

-- ---- a bit of a word
bit-or : (w v c : ℕ) → bit_or w v / 2 ^ c % 2 ≡ max (w / 2 ^ c % 2) (v / 2 ^ c % 2)
bit-or w v c = ap (λ (y : ℕ). y % 2) (or_shr w v c ∙ or_step (w / 2 ^ c) (v / 2 ^ c)) ∙ omega arith

-- a bit moved to its place, as the code has it
pub bit_at : (b : ℕ) → b < 32 → 1 * 2 ^ b % 4294967296 ≡ 2 ^ b
bit_at b h = shl_exact 1 b 32 (omega arith) (omega arith) ∙ one-mul (2 ^ b)

-- the bit that is set
bit_set : (w b : ℕ) → bit_or w (2 ^ b) / 2 ^ b % 2 ≡ 1
bit_set w b = let e : 2 ^ b / 2 ^ b ≡ 1 = div_self (pow_pos b) in bit-or w (2 ^ b) b ∙ omega arith

-- the others
bit_other : (w b c : ℕ) → (b ≡ c → ⊥) → bit_or w (2 ^ b) / 2 ^ c % 2 ≡ w / 2 ^ c % 2
bit_other w b c o = let e = none (less? b c) in bit-or w (2 ^ b) c ∙ omega arith
  where
    none : (b < c) ⊎ (c ≤ b) → 2 ^ b / 2 ^ c % 2 ≡ 0
    none (inl l) = ap (λ (y : ℕ). y % 2) (div-eq_of_lt (pow-lt l))
    none (inr l) =
        let e : b ≡ suc (b - c - 1) + c = omega arith in
        ap (λ (y : ℕ). 2 ^ y / 2 ^ c % 2) e
        ∙ ap (λ (y : ℕ). y / 2 ^ c % 2) (pow-add 2 (suc (b - c - 1)) c)
        ∙ ap (λ (y : ℕ). y % 2) (shl-shr (2 ^ suc (b - c - 1)) c)
        ∙ omega (arith, shifted_even 1 (b - c - 1))

-- ---- one box more
-- the table has 48 rows of 5 words
pub record Whole (used : List (List ℕ)) : Type 0 where
  pub tall : length used ≡ 48
  pub wide : (r : ℕ) → r < 48 → length (get_or used r []) ≡ 5

-- the bit v is set in word w of row y
abbrev marked : List (List ℕ) → ℕ → ℕ → ℕ → List (List ℕ)
marked used y w v = set used y (set (get_or used y []) w (bit_or (at (get_or used y []) w) v))

-- a box of row y in column c
module _ (used : List (List ℕ)) (whole : Whole used) (y c : ℕ) (hy : y < 48) (hc : c < 160) where
  abbrev stored : List (List ℕ)
  stored = marked used y (c / 32) (2 ^ (c % 32))

  abbrev word : ℕ
  word = bit_or (at (get_or used y []) (c / 32)) (2 ^ (c % 32))

  own : get_or stored y [] ≡ set (get_or used y []) (c / 32) word
  own = get_or-set_same used y (set (get_or used y []) (c / 32) word) [] (omega (arith, whole.tall))

  other : (r : ℕ) → (r ≡ y → ⊥) → get_or stored r [] ≡ get_or used r []
  other r o = get_or-set_other used y r (set (get_or used y []) (c / 32) word) [] o

  here : at (get_or stored y []) (c / 32) ≡ word
  here = rw own (get_or-set_same (get_or used y []) (c / 32) word 0 (omega (arith, whole.wide y hy)))

  pub stored-whole : Whole stored
  stored-whole = record {
    tall = length-set used y (set (get_or used y []) (c / 32) word) ∙ whole.tall;
    wide = λ r h. elim (same? r y) [
      | inl e ↦ rw (e, own, length-set (get_or used y []) (c / 32) word) (whole.wide y hy)
      | inr o ↦ rw (other r o) (whole.wide r h)
    ];
  }

  stored_there : used_in stored y c ≡ true
  stored_there = eq-eqb (at (get_or stored y []) (c / 32) / 2 ^ (c % 32) % 2) 1 (ap (λ (w : ℕ). w / 2 ^ (c % 32) % 2) here ∙ bit_set (at (get_or used y []) (c / 32)) (c % 32))

  stored_other : (r x : ℕ) → x < 160 → (((y ≡ r) × (c ≡ x)) → ⊥) → used_in stored r x ≡ used_in used r x
  stored_other r x h o = ap (λ (b : ℕ). eqb b 1) (go (same? r y) (same? (x / 32) (c / 32)))
    where
      go : (r ≡ y) ⊎ (r ≡ y → ⊥) → (x / 32 ≡ c / 32) ⊎ (x / 32 ≡ c / 32 → ⊥) → at (get_or stored r []) (x / 32) / 2 ^ (x % 32) % 2 ≡ at (get_or used r []) (x / 32) / 2 ^ (x % 32) % 2
      go (inr d) e = rw (other r d)
      go (inl e) (inr d) = rw (e, own, get_or-set_other (get_or used y []) (c / 32) (x / 32) word 0 d)
      go (inl e) (inl f) =
          let d : c % 32 ≡ x % 32 → ⊥ = λ q. o (sym e, omega arith) in
          rw (e, f, here) (bit_other (at (get_or used y []) (c / 32)) (c % 32) (x % 32) d)

-- the empty table, of no box
abbrev empty : List (List ℕ)
empty = replicate 48 (replicate 5 0)

pub none-whole : Whole empty
none-whole = record { tall = refl; wide = λ r h. ap length (get_or-replicate 48 r (replicate 5 0) [] h) }

pub used_none : Tells [] [] empty
used_none r x h l =
    let z : at (get_or empty r []) (x / 32) / 2 ^ (x % 32) ≡ 0 =
    ap (λ (row : List ℕ). at row (x / 32) / 2 ^ (x % 32)) (get_or-replicate 48 r (replicate 5 0) [] h)
    ∙ ap (λ (w : ℕ). w / 2 ^ (x % 32)) (get_or-replicate 5 (x / 32) 0 0 (omega arith)) ∙ div-eq_of_lt (pow_pos (x % 32)) in
    ne_eqb (at (get_or empty r []) (x / 32) / 2 ^ (x % 32) % 2) 1 (λ q. omega arith)

-- the boxes that are left, with rows below 48 and columns below 144, and the table of those before them
pub record Left (rows cols ys cs : List ℕ) (used : List (List ℕ)) : Type 0 where
  pub long : length ys ≡ length cs
  pub row : Inside 48 ys
  pub column : Inside 144 cs
  pub met : (r x : ℕ) → r < 48 → x < 160 → used_in used r x || taken ys cs r x ≡ taken rows cols r x

pub left_first : (n : ℕ) (rows cols : List ℕ) → Boxes n rows cols → Left rows cols rows cols empty
left_first n rows cols b =
    record {
      long = b.rows_long ∙ sym b.cols_long;
      row = record { below = λ k l. b.row k (omega (arith, b.rows_long)) };
      column = record { below = λ k l. b.column k (omega (arith, b.cols_long)) };
      met = λ r x h l. ap (λ (t : Bool). t || taken rows cols r x) (used_none r x h l);
    }

-- the next of them
module _ (rows cols : List ℕ) (used : List (List ℕ)) (y c : ℕ) (ys cs : List ℕ) (whole : Whole used) (left : Left rows cols (y ∷ ys) (c ∷ cs) used) where
  hy : y < 48
  hy = left.row.below 0 (omega arith)

  hx : c < 160
  hx = omega (arith, left.column.below 0 (omega arith))

  abbrev after : List (List ℕ)
  after = stored used whole y c hy hx

  used_next : (r x : ℕ) → x < 160 → (y ≡ r) ⊎ (y ≡ r → ⊥) → (c ≡ x) ⊎ (c ≡ x → ⊥) →
      used_in after r x || taken ys cs r x ≡ used_in used r x || ((eqb y r && eqb c x) || taken ys cs r x)
  used_next r x l (inl e) (inl f) =
      ap (λ (t : Bool). t || taken ys cs r x) (ap (λ (i : ℕ). used_in after i x) (sym e) ∙ ap (λ (j : ℕ). used_in after y j) (sym f) ∙ stored_there used whole y c hy hx)
      ∙ sym (rw (eq-eqb y r e, eq-eqb c x f) (or_true (used_in used r x)))
  used_next r x l (inl e) (inr o) =
      ap (λ (t : Bool). t || taken ys cs r x) (stored_other used whole y c hy hx r x l (λ q. o q.1)) ∙ sym (rw (ne_eqb c x o, and_false (eqb y r)) refl)
  used_next r x l (inr o) q =
      ap (λ (t : Bool). t || taken ys cs r x) (stored_other used whole y c hy hx r x l (λ q. o q.0)) ∙ sym (rw (ne_eqb y r o) refl)

  -- by the code's bit
  pub left_more : {v : ℕ} → v ≡ 2 ^ (c % 32) → Whole (marked used y (c / 32) v) × Left rows cols ys cs (marked used y (c / 32) v)
  left_more e = rw e (
    stored-whole used whole y c hy hx,
    record {
      long = omega (arith, left.long);
      row = record { below = λ k l. left.row.below (suc k) (omega arith) };
      column = record { below = λ k l. left.column.below (suc k) (omega arith) };
      met = λ r x h l. used_next r x l (same? y r) (same? c x) ∙ left.met r x h l;
    },
  )

-- ---- one box more, of the first k
pub taken_more : (rows cols : List ℕ) (k r x : ℕ) → k < length rows → k < length cols →
    taken (take (suc k) rows) (take (suc k) cols) r x ≡ taken (take k rows) (take k cols) r x || (eqb (at rows k) r && eqb (at cols k) x)
taken_more [] cols k r x h l = absurd (not-suc-le-zero h)
taken_more (y ∷ rows) [] k r x h l = absurd (not-suc-le-zero l)
taken_more (y ∷ rows) (c ∷ cols) zero r x h l = or_false (eqb y r && eqb c x)
taken_more (y ∷ rows) (c ∷ cols) (suc k) r x h l =
    ap (λ (b : Bool). (eqb y r && eqb c x) || b) (taken_more rows cols k r x (le_of_suc-le-suc h) (le_of_suc-le-suc l))
    ∙ or_assoc (eqb y r && eqb c x) (taken (take k rows) (take k cols) r x) (eqb (at rows k) r && eqb (at cols k) x)

-- box k after those before it: the table tells of it too
module _ (rows cols : List ℕ) (used : List (List ℕ)) (k : ℕ) (hr : k < length rows) (hc : k < length cols) (whole : Whole used) (hy : at rows k < 48) (hx : at cols k < 160) (u : Tells (take k rows) (take k cols) used) where
  abbrev told : List (List ℕ)
  told = stored used whole (at rows k) (at cols k) hy hx

  told_next : (r x : ℕ) → r < 48 → x < 160 → (at rows k ≡ r) ⊎ (at rows k ≡ r → ⊥) → (at cols k ≡ x) ⊎ (at cols k ≡ x → ⊥) →
      used_in told r x ≡ taken (take k rows) (take k cols) r x || (eqb (at rows k) r && eqb (at cols k) x)
  told_next r x h l (inl e) (inl f) =
      ap (λ (i : ℕ). used_in told i x) (sym e) ∙ ap (λ (j : ℕ). used_in told (at rows k) j) (sym f)
      ∙ stored_there used whole (at rows k) (at cols k) hy hx
      ∙ sym (rw (eq-eqb (at rows k) r e, eq-eqb (at cols k) x f) (or_true (taken (take k rows) (take k cols) r x)))
  told_next r x h l (inl e) (inr o) =
      stored_other used whole (at rows k) (at cols k) hy hx r x l (λ q. o q.1) ∙ u r x h l
      ∙ sym (rw (ne_eqb (at cols k) x o, and_false (eqb (at rows k) r)) (or_false (taken (take k rows) (take k cols) r x)))
  told_next r x h l (inr o) q =
      stored_other used whole (at rows k) (at cols k) hy hx r x l (λ q. o q.0) ∙ u r x h l
      ∙ sym (rw (ne_eqb (at rows k) r o) (or_false (taken (take k rows) (take k cols) r x)))

  -- by the code's bit
  pub used_more : {v : ℕ} → v ≡ 2 ^ (at cols k % 32) → Tells (take (k + 1) rows) (take (k + 1) cols) (marked used (at rows k) (at cols k / 32) v)
  used_more e r x h l = rw (e, add-one k, taken_more rows cols k r x hr hc) (told_next r x h l (same? (at rows k) r) (same? (at cols k) x))

-- ---- exactly if a box of that row stands there
-- a place that is taken has a box
taken-box : (rows cols : List ℕ) (r x : ℕ) → taken rows cols r x ≡ true → Stands rows cols r x
taken-box [] cols r x h = absurd (true≢false (sym h))
taken-box (y ∷ rows) [] r x h = absurd (true≢false (sym h))
taken-box (y ∷ rows) (c ∷ cols) r x h = go (taken-box rows cols r x) (same? y r) (same? c x)
  where
    later : Stands rows cols r x → Stands (y ∷ rows) (c ∷ cols) r x
    later b = (suc b.0, omega (arith, b.1), b.2, b.3)

    go : (taken rows cols r x ≡ true → Stands rows cols r x) → (y ≡ r) ⊎ (y ≡ r → ⊥) → (c ≡ x) ⊎ (c ≡ x → ⊥) → Stands (y ∷ rows) (c ∷ cols) r x
    go i (inl e) (inl f) = (0, omega arith, e, f)
    go i (inl e) (inr o) = later (i (rw (eq-eqb y r e, ne_eqb c x o) at h))
    go i (inr o) q = later (i (rw (ne_eqb y r o) at h))

-- the table of all boxes
pub used_all : (rows cols : List ℕ) (used : List (List ℕ)) → length cols ≡ length rows → Left rows cols [] [] used → Used rows cols used
used_all rows cols used e left =
    let u : Tells rows cols used = λ r x h l. sym (or_false (used_in used r x)) ∙ left.met r x h l in
    record {
      exactly = λ r x h l. (λ t. taken-box rows cols r x (sym (u r x h l) ∙ t), λ b. u r x h l ∙ taken_at rows cols b.0 r x b.1 (omega (arith, b.1)) b.2 b.3);
      tells = u;
    }

-- ---- the pair of columns x and x + 1
-- a row that uses both
pub found_in : (used : List (List ℕ)) (x r h : ℕ) → r < h → used_in used r x ≡ true → used_in used r (x + 1) ≡ true → collision_in used x h ≡ true
found_in used x r h l a b = some_below (collision_in used x) (λ q. used_in used q x && used_in used q (x + 1)) (λ q. refl) r h l (rw (a, b))

-- pairs that become as many columns by f as by g
new-same : (f g : ℕ → ℕ) (k x new : ℕ) → ((i : ℕ) → i < x + 2 * k → f i ≡ g i) → new_columns f k x new ≡ new_columns g k x new
new-same f g zero x new s = refl
new-same f g (suc k) x new s = rw (s x (omega arith), new-same f g k (x + 2) (suc (new + g x)) (λ i l. s i (omega arith)))

-- the table says of the first h rows what the boxes say, and so of every pair
module _ (rows cols : List ℕ) (used : List (List ℕ)) (u : Tells rows cols used) where
  collision-same : (x h : ℕ) → h ≤ 48 → x + 1 < 160 → collision_in used x h ≡ collision rows cols x h
  collision-same x zero l b = refl
  collision-same x (suc r) l b =
      rw (collision-same x r (omega arith) b, u r x l (omega arith), u r (x + 1) l b)

  extra-same : (x h : ℕ) → h ≡ suc (largest rows) → h ≤ 48 → x + 1 < 160 → extra_in used h x ≡ extra rows cols x
  extra-same x h e l b = ap (λ (t : Bool). cond t 1 0) (collision-same x h l b ∙ ap (collision rows cols x) e)

  pub table_same : (h start pairs : ℕ) → h ≡ suc (largest rows) → h ≤ 48 → start + 2 * pairs < 160 →
      table_to start pairs (extra_in used h) ≡ table_to start pairs (extra rows cols)
  table_same h start pairs e l b =
      ap (λ (t : List ℕ). replicate start 0 ++ t)
      (new-same (extra_in used h) (extra rows cols) pairs start start (λ i k. extra-same i h e l (omega arith)))
