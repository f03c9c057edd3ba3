-- What the loops over nodes and rounds need: each step's columns are the definition's, and stay columns.
-- Assumes nothing.
use Prim.Native.Nat.{ℕ, zero, suc, ◌+◌, ◌-◌, ◌*◌, ◌≤◌, ◌<◌}
use native.Mathlib.Omega.{arith}
use native.Mathlib.Nat.{le_of_suc-le-suc, not-suc-le-zero}
use mathlib.Core.Path.{◌≡◌, refl, ap, ◌∙◌}
use mathlib.Core.List.{List, ◌++◌}
use lib.Dec.{ltb}
use lib.ListN.{length, set, take, replicate, length-set, length-map}
use lib.Seq.{take_at}
use Rattle.laws.specs.Each.{each}
use Rattle.laws.proofs.Each.{keeps}
use Rattle.laws.proofs.Tests.{pick}
use Rattle.graph.specs.Shape.{Shape}
use Rattle.grid.specs.Lists.{largest, smallest}
use Rattle.grid.specs.Columns.{at, taken, columns_of, incidents, target, go_to, first_move, table, fold_from, average_one, mean, average, round}
use Rattle.grid.specs.code.Placed.{FirstColumns}
use Rattle.grid.specs.code.Arrays.{Boxes, Inside}
use Rattle.grid.specs.Heights.{heights}
use Rattle.grid.proofs.ListLaws.{everywhere}
use Rattle.grid.proofs.ColumnLaws.{Below, move-below, fold_below, average-below, table0_folds, table1_folds}
use Rattle.grid.proofs.HeightLaws.{heights-long, heights-below}

each_same : (f : ℕ → List ℕ → List ℕ) → ((p : ℕ) (l : List ℕ) → length (f p l) ≡ length l) → (l : List ℕ) (k : ℕ) → length (each l f k) ≡ length l
each_same f same l k = keeps (λ p u. length u ≡ length l) l f refl k (λ p u h e. same p u ∙ e)

module _ (rows : List ℕ) where
  pub fold_same : (x : ℕ) (cols : List ℕ) → length (fold_from x rows cols) ≡ length cols
  unfolding fold_from
  fold_same x cols = length-map cols (at (table x rows cols))

  -- columns below b stay so
  some_fold_below : (b x : ℕ) → x ≤ 1 → (cols : List ℕ) → Below b cols → Below b (fold_from x rows cols)
  unfolding fold_from
  some_fold_below b zero h cols = fold_below b rows cols (table 0 rows cols) (table0_folds rows cols)
  some_fold_below b (suc zero) h cols = fold_below b rows cols (table 1 rows cols) (table1_folds rows cols)
  some_fold_below b (suc (suc x)) h cols = absurd (not-suc-le-zero (le_of_suc-le-suc h))

  -- the first k of the folds of a round
  folds_below : (b : ℕ) (cols : List ℕ) → Below b cols → (k : ℕ) → k ≤ 2 → Below b (each cols (λ x. fold_from x rows) k)
  folds_below b cols s k l = keeps (λ x u. Below b u) cols (λ x. fold_from x rows) s k (λ x u h t. some_fold_below b x (omega arith) u t)

module _ (g : Shape) (rows : List ℕ) where
  pub move_same : (p : ℕ) (cols : List ℕ) → length (first_move g rows p cols) ≡ length cols
  move_same p cols =
      let xs : List ℕ = columns_of cols (incidents g p) in
      let x : ℕ = target (at cols p) (smallest (largest xs) xs) (largest xs) in
      pick (λ (l : List ℕ). length l ≡ length cols) (ltb (length xs) 2) cols (go_to rows p x cols) refl
      (pick (λ (l : List ℕ). length l ≡ length cols) (taken rows cols (at rows p) x) cols (set cols p x) refl (length-set cols p x))

  pub average-same : (p : ℕ) (cols : List ℕ) → length (average_one g rows p cols) ≡ length cols
  average-same p cols = length-set cols p _

  pub round_same : (k : ℕ) (cols : List ℕ) → length (round g rows cols) ≡ length cols
  unfolding average
  round_same k cols =
      each_same (average_one g rows) average-same (fold_from 1 rows (fold_from 0 rows cols)) (length g)
      ∙ fold_same rows 1 (fold_from 0 rows cols) ∙ fold_same rows 0 cols

  -- columns below b stay so
  averages_below : (b : ℕ) (cols : List ℕ) → Below b cols → (k : ℕ) → Below b (each cols (average_one g rows) k)
  averages_below b cols s k = keeps (λ p u. Below b u) cols (average_one g rows) s k (λ p u h t. average-below b rows u t p (mean (columns_of u (incidents g p))))

  round-below : (b : ℕ) (cols : List ℕ) → Below b cols → Below b (round g rows cols)
  unfolding average each
  round-below b cols s = averages_below b (fold_from 1 rows (fold_from 0 rows cols)) (folds_below rows b cols s 2 (omega arith)) (length g)

-- ---- n boxes
module _ (n : ℕ) (rows : List ℕ) where
  boxes-of : n ≤ 48 → length rows ≡ n → ((k : ℕ) → k < n → at rows k < 48) → (now : List ℕ) → length now ≡ n → Below 144 now → Boxes n rows now
  boxes-of few long r now e s = record { few = few; rows_long = long; cols_long = e; row = r; column = λ k h. s k }

  below_of : (cols : List ℕ) → Boxes n rows cols → Below 144 cols
  below_of cols z = everywhere cols n 144 (omega arith) (omega (arith, z.cols_long)) z.column

  module _ (cols : List ℕ) (z : Boxes n rows cols) where
    -- p nodes are averaged
    pub averaged_boxes : (g : Shape) (p : ℕ) → Boxes n rows (each cols (average_one g rows) p)
    averaged_boxes g p =
        boxes-of z.few z.rows_long z.row (each cols (average_one g rows) p) (each_same (average_one g rows) (average-same g rows) cols p ∙ z.cols_long)
        (averages_below g rows 144 cols (below_of cols z) p)

    -- k of the two folds of a round, and both
    pub folded_boxes : (k : ℕ) → k ≤ 2 → Boxes n rows (each cols (λ x. fold_from x rows) k)
    folded_boxes k l =
        boxes-of z.few z.rows_long z.row (each cols (λ x. fold_from x rows) k) (each_same (λ x. fold_from x rows) (fold_same rows) cols k ∙ z.cols_long)
        (folds_below rows 144 cols (below_of cols z) k l)

    pub twice_boxes : Boxes n rows (fold_from 1 rows (fold_from 0 rows cols))
    unfolding each
    twice_boxes = folded_boxes 2 (omega arith)

    -- k rounds
    pub rounds_boxes : (g : Shape) (k : ℕ) → Boxes n rows (each cols (λ i. round g rows) k)
    rounds_boxes g k =
        boxes-of z.few z.rows_long z.row (each cols (λ i. round g rows) k) (each_same (λ i. round g rows) (round_same g rows) cols k ∙ z.cols_long)
        (keeps (λ p u. Below 144 u) cols (λ i. round g rows) (below_of cols z) k (λ p u h t. round-below g rows 144 u t))

  -- from the first columns
  module _ (g : Shape) (many : length g ≡ n) (few : n ≤ 48) (long : length rows ≡ n) (inside : Inside 48 rows) (first : List ℕ) (f : FirstColumns n first) where
    firsts-below : 0 < n → Below (2 * n) first
    firsts-below h = everywhere first n (2 * n) (omega arith) (omega (arith, f.long)) f.below

    moves_below : 0 < n → (p : ℕ) → Below (2 * n + p) (each first (first_move g rows) p)
    moves_below h p =
        keeps (λ k u. Below (2 * n + k) u) first (first_move g rows) (λ q. omega (arith, firsts-below h q)) p
        (λ k u l t q. omega (arith, move-below (2 * n + k) u t g rows k q))

    -- p nodes have moved
    pub moved-boxes : (p : ℕ) → p ≤ n → Boxes n rows (each first (first_move g rows) p)
    moved-boxes p l =
        record {
          few = few;
          rows_long = long;
          cols_long = each_same (first_move g rows) (move_same g rows) first p ∙ f.long;
          row = λ k h. inside.below k (omega (arith, long));
          column = λ k h. omega (arith, moves_below (omega arith) p k);
        }

-- What the stage above reads of the rows.
module _ (n : ℕ) (g : Shape) (long : length g ≡ n) (few : n ≤ 48) where
  module _ (r : List ℕ) (e : r ≡ heights g ++ replicate (48 - n) 0) where
    pub heights-take : take n r ≡ heights g
    heights-take = ap (take n) e ∙ take_at (heights g) (replicate (48 - n) 0) n (heights-long g ∙ long)

  pub heights-inside : Inside 48 (heights g)
  heights-inside = record { below = λ k h. omega (arith, heights-below g k (omega (arith, heights-long g)), heights-long g) }
