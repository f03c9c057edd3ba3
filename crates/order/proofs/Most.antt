-- No sum of a pair table is above 32,736. Before the rounds each addition counts once. After round 1 a pair has the sums of distinct
-- pairs, so that each addition counts at most once again: at most 352. In round 2 a pair gains two such sums for each of at most 46
-- nodes between.
-- Assumes nothing.
use Prim.Native.Nat.{ℕ, zero, suc, ◌+◌, ◌-◌, ◌*◌, ◌≤◌, ◌<◌}
use native.Mathlib.Omega.{arith}
use mathlib.Core.Logic.{inl, inr}
use mathlib.Core.Path.{◌≡◌, refl, sym, ◌∙◌}
use mathlib.Core.Bool.{Bool, true, false, cond, ◌&&◌}
use mathlib.Core.List.{List, [], ◌∷◌, map}
use lib.Dec.{eqb}
use lib.ListN.{length, length-map}
use borrow.Author.Tests.{eq-eqb, ne_eqb}
use Rattle.laws.proofs.Tests.{same?}
use Rattle.graph.specs.Shape.{Shape}
use Rattle.laws.specs.Lists.{All, tally}
use Rattle.order.specs.Against.{Against, against, all}
use Rattle.order.specs.Weights.{Table, stands, before_of, after_of, round, first}
use Rattle.order.specs.Claims.{Aimed}
use Rattle.order.specs.code.Sums.{sum_up}
use Rattle.order.proofs.Tables.{value_of, before-value, after-value}
use Rattle.order.proofs.Legs.{leg}
use Rattle.order.proofs.Rounds.{Fine, Flagged, fine-first, flagged_first, fine-round, Sum, Reads, before-reads, after-reads, gain, round-made, second, ups, before-first, after_first}
use Rattle.order.proofs.InPlace.{up_same}
use Rattle.order.proofs.Hold.{gain-up}

-- ---- sums over the nodes after a
up-add : (f g : ℕ → ℕ) (a m : ℕ) → sum_up (λ b. f b + g b) a m ≡ sum_up f a m + sum_up g a m
unfolding sum_up
up-add f g a zero = refl
up-add f g a (suc m) = omega (arith, up-add f g a m)

up_le : (f g : ℕ → ℕ) (a m : ℕ) → ((i : ℕ) → i < m → f (suc a + i) ≤ g (suc a + i)) → sum_up f a m ≤ sum_up g a m
unfolding sum_up
up_le f g a zero h = omega arith
up_le f g a (suc m) h = omega (arith, up_le f g a m (λ i l. h i (omega arith)), h m (omega arith))

up-most : (f : ℕ → ℕ) (a m : ℕ) → ((i : ℕ) → i < m → f (suc a + i) ≤ 704) → sum_up f a m ≤ 704 * m
unfolding sum_up
up-most f a zero h = omega arith
up-most f a (suc m) h = omega (arith, up-most f a m (λ i l. h i (omega arith)), h m (omega arith))

abbrev one : ℕ → ℕ → ℕ
one q b = cond (eqb q b) 1 0

-- a number is at most one of the nodes after a, and none of them if it lies past them
one-past : (q a m : ℕ) → a + m < q → sum_up (one q) a m ≡ 0
unfolding sum_up
one-past q a zero h = refl
one-past q a (suc m) h =
    let n : (q ≡ suc a + m → ⊥) = λ e. omega arith in
    let z : one q (suc a + m) ≡ 0 = rw (ne_eqb q (suc a + m) n) in
    omega (arith, one-past q a m (omega arith))

one_le : (b : Bool) → ◌≤◌ (cond b 1 0) 1
one_le true = omega arith
one_le false = omega arith

one-most : (q a m : ℕ) → sum_up (one q) a m ≤ 1
unfolding sum_up
one-most q a zero = omega arith
one-most q a (suc m) =
    elim (same? q (suc a + m)) [
      | inl e ↦ omega (arith, one-past q a m (omega arith), one_le (eqb q (suc a + m)))
      | inr n ↦ let z : one q (suc a + m) ≡ 0 = rw (ne_eqb q (suc a + m) n) in omega (arith, one-most q a m)
    ]

-- ---- what one addition counts for the pair of a and d and all ways between them
module _ (p q a m : ℕ) where
  abbrev d : ℕ
  d = suc a + m

  abbrev hit : ℕ → ℕ → ℕ
  hit x y = cond (eqb p x && eqb q y) 1 0

  hit-from : (x y : ℕ) → (p ≡ x → ⊥) → hit x y ≡ 0
  hit-from x y n = rw (ne_eqb p x n)

  hit_le : (b c : Bool) → ◌≤◌ (cond (b && c) 1 0) (cond b 1 0)
  hit_le true true = omega arith
  hit_le true false = omega arith
  hit_le false c = omega arith

  pub hits_most : hit a d + sum_up (λ b. hit a b + hit b d) a m ≤ 1
  hits_most =
      elim (same? p a) [
        | inl e ↦
            let s : sum_up (λ b. hit a b + hit b d) a m ≡ sum_up (one q) a m =
            up_same (λ b. hit a b + hit b d) (one q) a m
            (λ i h.
            let n : (p ≡ suc a + i → ⊥) = λ z. omega arith in
            let u : hit (suc a + i) d ≡ 0 = hit-from (suc a + i) d n in
            let v : hit a (suc a + i) ≡ one q (suc a + i) = rw (eq-eqb p a e) in
            omega arith) in
            let t : hit a d ≡ one q d = rw (eq-eqb p a e) in
            elim (same? q d) [
              | inl k ↦ omega (arith, s, t, one-past q a m (omega arith), one_le (eqb q d))
              | inr n ↦ let z : one q d ≡ 0 = rw (ne_eqb q d n) in omega (arith, s, t, one-most q a m)
            ]
        | inr n ↦
            let t : hit a d ≡ 0 = hit-from a d n in
            let s : sum_up (λ b. hit a b + hit b d) a m ≤ sum_up (one p) a m =
            up_le (λ b. hit a b + hit b d) (one p) a m (λ i h. let u : hit a (suc a + i) ≡ 0 = hit-from a (suc a + i) n in omega (arith, hit_le (eqb p (suc a + i)) (eqb q d))) in
            omega (arith, s, t, one-most p a m)
      ]

tally-is : (b : Bool) (k : ℕ) → tally b k ≡ cond b 1 0 + k
tally-is true k = omega arith
tally-is false k = omega arith

up_none : (f : ℕ → ℕ) (a m : ℕ) → ((b : ℕ) → f b ≡ 0) → sum_up f a m ≡ 0
unfolding sum_up
up_none f a zero h = refl
up_none f a (suc m) h = omega (arith, up_none f a m h, h (suc a + m))

ups_cons : (x y : ℕ) (c : Against) (cs : List Against) → ups x y (c ∷ cs) ≡ cond (eqb c.first x && eqb c.second y) 1 0 + ups x y cs
unfolding ups
ups_cons x y c cs = tally-is (eqb c.first x && eqb c.second y) (ups x y cs)

ups_nil : (x y : ℕ) → ups x y [] ≡ 0
unfolding ups
ups_nil x y = refl

-- all additions together
pub ways_most : (a m : ℕ) (cs : List Against) → ups a (suc a + m) cs + sum_up (λ b. ups a b cs + ups b (suc a + m) cs) a m ≤ length cs
ways_most a m [] =
    let z : sum_up (λ b. ups a b [] + ups b (suc a + m) []) a m ≡ 0 = up_none (λ b. ups a b [] + ups b (suc a + m) []) a m (λ b. omega (arith, ups_nil a b, ups_nil b (suc a + m))) in
    omega (arith, ups_nil a (suc a + m))
ways_most a m (c ∷ cs) =
    let e = suc a + m in
    let h : ℕ → ℕ → ℕ = λ x y. cond (eqb c.first x && eqb c.second y) 1 0 in
    let f : ℕ → ℕ = λ b. h a b + h b e in
    let g : ℕ → ℕ = λ b. ups a b cs + ups b e cs in
    let s : sum_up (λ b. ups a b (c ∷ cs) + ups b e (c ∷ cs)) a m ≡ sum_up (λ b. f b + g b) a m =
    up_same (λ b. ups a b (c ∷ cs) + ups b e (c ∷ cs)) (λ b. f b + g b) a m
    (λ i l. omega (arith, ups_cons a (suc a + i) c cs, ups_cons (suc a + i) e c cs)) in
    omega (arith, s, up-add f g a m, ups_cons a e c cs, hits_most c.first c.second a m, ways_most a m cs)

-- ---- the sum w of a pair after a round
pick_le : (b : Bool) (x n : ℕ) → x ≤ n → cond b x 0 ≤ n
pick_le true x n h = h
pick_le false x n h = omega arith

module _ (n : ℕ) (t : Table) (f : Fine n t) (w : Sum) (w' : ℕ → ℕ → ℕ) (r : Reads w w') where
  leg_le : (a c b : ℕ) → leg w r.adds t t a c b ≤ value_of w a b t + value_of w b c t
  leg_le a c b = pick_le (stands a b t) (cond (stands b c t) (value_of w a b t + value_of w b c t) 0) (value_of w a b t + value_of w b c t) (pick_le (stands b c t) (value_of w a b t + value_of w b c t) (value_of w a b t + value_of w b c t) (omega arith))

  -- the table counts the additions of a list
  made-most : (cs : List Against) → ((a b : ℕ) → a < b → value_of w a b t ≡ ups a b cs) → All Flagged t → (a c : ℕ) → a < c → c < n → value_of w a c (round t) ≤ length cs
  made-most cs h g a c l k =
      let m = c - suc a in
      let e : suc a + m ≡ c = omega arith in
      let s : sum_up (leg w r.adds t t a c) a m ≤ sum_up (λ b. ups a b cs + ups b c cs) a m =
      up_le (leg w r.adds t t a c) (λ b. ups a b cs + ups b c cs) a m
      (λ i j. omega (arith, leg_le a c (suc a + i), h a (suc a + i) (omega arith), h (suc a + i) c (omega arith))) in
      let u : ups a c cs + sum_up (λ b. ups a b cs + ups b c cs) a m ≤ length cs = rw e at (ways_most a m cs) in
      omega (arith, round-made w w' r n t f g a c, gain-up n t f w w' r a c l k, h a c l)

  -- each sum is at most 352
  gain-most : n ≤ 48 → ((a b : ℕ) → a < b → b < n → value_of w a b t ≤ 352) → (a c : ℕ) → a < c → c < n → value_of w a c t + gain w w' r n t f a c ≤ 32736
  gain-most few h a c l k =
      let s : sum_up (leg w r.adds t t a c) a (c - suc a) ≤ 704 * (c - suc a) =
      up-most (leg w r.adds t t a c) a (c - suc a)
      (λ i j. omega (arith, leg_le a c (suc a + i), h a (suc a + i) (omega arith) (omega arith), h (suc a + i) c (omega arith) k)) in
      omega (arith, gain-up n t f w w' r a c l k, h a c l k)

-- the additions the other way round
abbrev swapped : Against → Against
swapped c = against c.second c.first

and_swap : (a b : Bool) → (a && b) ≡ (b && a)
and_swap true true = refl
and_swap true false = refl
and_swap false true = refl
and_swap false false = refl

ups-swapped : (a b : ℕ) (cs : List Against) → ups b a cs ≡ ups a b (map swapped cs)
unfolding ups
ups-swapped a b [] = refl
ups-swapped a b (c ∷ cs) = cc (and_swap (eqb c.first b) (eqb c.second a), ups-swapped a b cs)

module _ (g : Shape) (few : length g ≤ 48) (aimed : Aimed (length g) g) (room : length (all g) ≤ 352) (a c : ℕ) (l : a < c) (k : c < length g) where
  abbrev n : ℕ
  n = length g

  pub before-made : before_of a c (round (first g)) ≤ 352
  before-made =
      omega (arith, before-value a c (round (first g)), made-most n (first g) (fine-first g aimed) (λ e. e.before) (λ x y. x) before-reads (all g) (λ x y i. sym (before-value x y (first g)) ∙ before-first g x y i) (flagged_first g) a c l k)

  pub after-made : after_of a c (round (first g)) ≤ 352
  after-made =
      omega (arith, after-value a c (round (first g)), made-most n (first g) (fine-first g aimed) (λ e. e.after) (λ x y. y) after-reads (map swapped (all g)) (λ x y i. sym (after-value x y (first g)) ∙ after_first g x y i ∙ ups-swapped x y (all g)) (flagged_first g) a c l k, length-map (all g) swapped)

-- after both rounds
module _ (g : Shape) (few : length g ≤ 48) (aimed : Aimed (length g) g) (room : length (all g) ≤ 352) (a c : ℕ) (l : a < c) (k : c < length g) where
  most : (w : Sum) (w' : ℕ → ℕ → ℕ) (r : Reads w w') → ((x y : ℕ) → x < y → y < length g → value_of w x y (round (first g)) ≤ 352) → value_of w a c (round (round (first g))) ≤ 32736
  most w w' r h =
      let f = fine-first g aimed in
      let v = value_of w a c (round (first g)) + gain w w' r (length g) (round (first g)) (fine-round (length g) (first g) f) a c in
      omega (arith, second (length g) (first g) f (flagged_first g) w w' r a c, pick_le (stands a c (round (first g))) v 32736 (gain-most (length g) (round (first g)) (fine-round (length g) (first g) f) w w' r few h a c l k))

  pub before-most : before_of a c (round (round (first g))) ≤ 32736
  before-most =
      omega (arith, before-value a c (round (round (first g))), most (λ e. e.before) (λ x y. x) before-reads (λ x y i j. omega (arith, before-value x y (round (first g)), before-made g few aimed room x y i j)))

  pub after-most : after_of a c (round (round (first g))) ≤ 32736
  after-most =
      omega (arith, after-value a c (round (round (first g))), most (λ e. e.after) (λ x y. y) after-reads (λ x y i j. omega (arith, after-value x y (round (first g)), after-made g few aimed room x y i j)))
