-- Module 6: every row is below the number of boxes. A walk sees rows from 1 to 2n - 1 only, so that starting it at n in place of 0 cuts nothing off.
-- Each node that a walk enters is one more, and lies at most one row outside the rows seen so far.
-- Assumes nothing.
use Prim.Native.Nat.{ℕ, zero, suc, ◌+◌, ◌-◌, ◌*◌, ◌≤◌, ◌<◌, min, max}
use native.Mathlib.Omega.{arith}
use native.Mathlib.Nat.{not-suc-le-zero}
use mathlib.Core.Path.{◌≡◌, refl, ap, sym, ◌∙◌, subst}
use mathlib.Core.Option.{Option, none, some}
use mathlib.Core.Bool.{Bool, true, false, false≢true}
use mathlib.Core.List.{List, [], ◌∷◌}
use lib.ListN.{length, get_or, set, replicate, length-set, length-map, length-replicate, get_or-replicate}
use Rattle.graph.specs.Shape.{Incidents, Shape, incidents_at}
use Rattle.laws.specs.Each.{each}
use Rattle.laws.specs.Lists.{All}
use Rattle.grid.specs.Lists.{or_else, nothing}
use Rattle.grid.specs.Columns.{at}
use Rattle.grid.specs.Heights.{Rows, fresh, through, enter, walk_from, least_row, lowered, reached_from, start, heights}
use Rattle.grid.specs.code.Walk.{unseen}
use Rattle.grid.proofs.ListLaws.{at_map}
use Rattle.laws.proofs.Each.{keeps}

-- how many nodes have a row
abbrev pub seen : Rows → ℕ
seen [] = 0
seen (none ∷ v) = seen v
seen (some r ∷ v) = suc (seen v)

-- each row is from lo to hi
abbrev pub Within : ℕ → ℕ → Rows → Type 0
Within lo hi [] = Unit {0}
Within lo hi (none ∷ v) = Within lo hi v
Within lo hi (some r ∷ v) = (lo ≤ r) × (r ≤ hi) × Within lo hi v

pub seen_le : (v : Rows) → seen v ≤ length v
seen_le [] = omega arith
seen_le (none ∷ v) = omega (arith, seen_le v)
seen_le (some r ∷ v) = omega (arith, seen_le v)

pub within_wider : (a b lo hi : ℕ) (v : Rows) → a ≤ lo → hi ≤ b → Within lo hi v → Within a b v
within_wider a b lo hi [] h k w = tt
within_wider a b lo hi (none ∷ v) h k w = within_wider a b lo hi v h k w
within_wider a b lo hi (some r ∷ v) h k w = (omega (arith, w.0), omega (arith, w.1), within_wider a b lo hi v h k w.2)

within-set : (lo hi row : ℕ) (v : Rows) (p : ℕ) → lo ≤ row → row ≤ hi → Within lo hi v → Within lo hi (set v p (some row))
within-set lo hi row [] p h k w = tt
within-set lo hi row (none ∷ v) zero h k w = (h, k, w)
within-set lo hi row (some r ∷ v) zero h k w = (h, k, w.2)
within-set lo hi row (none ∷ v) (suc p) h k w = within-set lo hi row v p h k w
within-set lo hi row (some r ∷ v) (suc p) h k w = (w.0, w.1, within-set lo hi row v p h k w.2)

seen-set : (row : ℕ) (v : Rows) (p : ℕ) → fresh v p ≡ true → seen (set v p (some row)) ≡ suc (seen v)
seen-set row [] p e = absurd (false≢true e)
seen-set row (none ∷ v) zero e = refl
seen-set row (some r ∷ v) zero e = absurd (false≢true e)
seen-set row (none ∷ v) (suc p) e = seen-set row v p e
seen-set row (some r ∷ v) (suc p) e = ap suc (seen-set row v p e)

-- rows lo to hi are no more than the nodes seen
pub record Spread (n lo hi : ℕ) (v : Rows) : Type 0 where
  pub long : length v ≡ n
  pub within : Within lo hi v
  pub few : suc hi ≤ lo + seen v

-- so it is with rows that hold these
pub record Walked (n lo hi : ℕ) (v : Rows) : Type 0 where
  pub low : ℕ
  pub high : ℕ
  pub lower : low ≤ lo
  pub higher : hi ≤ high
  pub spread : Spread n low high v

module _ (n : ℕ) where
  stays : (lo hi : ℕ) (v : Rows) → Spread n lo hi v → Walked n lo hi v
  stays lo hi v s = record { low = lo; high = hi; lower = omega arith; higher = omega arith; spread = s }

  -- a walk that comes to a node at this row
  abbrev Walks : ℕ → (Rows → ℕ → Rows) → Type 0
  Walks row go = (v : Rows) (q lo hi : ℕ) → lo ≤ suc row → row ≤ suc hi → Spread n lo hi v → Walked n lo hi (go v q)

  through_walks : (row : ℕ) (go : Rows → ℕ → Rows) → Walks row go → (qs : List ℕ) (v : Rows) (lo hi : ℕ) → lo ≤ suc row → row ≤ suc hi →
      Spread n lo hi v → Walked n lo hi (through go v qs)
  through_walks row go w [] v lo hi h k s = stays lo hi v s
  through_walks row go w (q ∷ qs) v lo hi h k s =
      let a = w v q lo hi h k s in
      let b = through_walks row go w qs (go v q) a.low a.high (omega (arith, a.lower)) (omega (arith, a.higher)) a.spread in
      record { low = b.low; high = b.high; lower = omega (arith, a.lower, b.lower); higher = omega (arith, a.higher, b.higher); spread = b.spread }

  -- node p is entered
  module _ (row : ℕ) (up down : Rows → ℕ → Rows) (u : Walks (row - 1) up) (d : Walks (row + 1) down) (m : Incidents)
      (v : Rows) (p lo hi : ℕ) (h : lo ≤ suc row) (k : row ≤ suc hi) (s : Spread n lo hi v) where
    placed : fresh v p ≡ true → Spread n (min lo row) (max hi row) (set v p (some row))
    placed e =
        record {
          long = length-set v p (some row) ∙ s.long;
          within = within-set (min lo row) (max hi row) row v p (omega arith) (omega arith) (within_wider (min lo row) (max hi row) lo hi v (omega arith) (omega arith) s.within);
          few = omega (arith, s.few, seen-set row v p e);
        }

    entered : fresh v p ≡ true → Walked n (min lo row) (max hi row) (enter true up down v (set v p (some row)) m)
    entered e =
        let w = set v p (some row) in
        let a = through_walks (row - 1) up u m.sources w (min lo row) (max hi row) (omega arith) (omega arith) (placed e) in
        let b = through_walks (row + 1) down d m.sinks (through up w m.sources) a.low a.high (omega (arith, a.lower)) (omega (arith, a.higher)) a.spread in
        record { low = b.low; high = b.high; lower = omega (arith, a.lower, b.lower); higher = omega (arith, a.higher, b.higher); spread = b.spread }

    entering : (t : Bool) → fresh v p ≡ t → Walked n lo hi (enter t up down v (set v p (some row)) m)
    entering true e =
        let a = entered e in
        record { low = a.low; high = a.high; lower = omega (arith, a.lower); higher = omega (arith, a.higher); spread = a.spread }
    entering false e = stays lo hi v s

  walk-walks : (d : ℕ) (g : Shape) (row : ℕ) → Walks row (λ v p. walk_from d g row v p)
  walk-walks zero g row v p lo hi h k s = stays lo hi v s
  walk-walks (suc d) g row v p lo hi h k s =
      entering row (λ u q. walk_from d g (row - 1) u q) (λ u q. walk_from d g (row + 1) u q)
      (λ u q. walk-walks d g (row - 1) u q) (λ u q. walk-walks d g (row + 1) u q) (incidents_at g p) v p lo hi h k s (fresh v p) refl

within_none : (lo hi n : ℕ) → Within lo hi (replicate n none)
within_none lo hi zero = tt
within_none lo hi (suc n) = within_none lo hi n

-- the walk from a start: n nodes, of which p is one
module _ (g : Shape) (p : ℕ) (hp : p < length g) where
  start-fresh : fresh (replicate (length g) none) p ≡ true
  start-fresh = ap nothing (get_or-replicate (length g) p none (some 0) hp)

  from : (n : ℕ) → n ≡ length g → (e : fresh (replicate n none) p ≡ true) → p < n → Walked n n n (walk_from n g n (replicate n none) p)
  from zero q e h = absurd (not-suc-le-zero h)
  from (suc m) q e h =
      let row : ℕ = suc m in
      let v : Rows = replicate row none in
      let s : Spread row row m v = record { long = length-replicate row none; within = within_none row m row; few = omega arith } in
      let a : Walked row (min row row) (max m row) (enter true (λ u q. walk_from m g (row - 1) u q) (λ u q. walk_from m g (row + 1) u q) v (set v p (some row)) (incidents_at g p)) =
      entered row row (λ u q. walk_from m g (row - 1) u q) (λ u q. walk_from m g (row + 1) u q)
      (λ u q. walk-walks row m g (row - 1) u q) (λ u q. walk-walks row m g (row + 1) u q) (incidents_at g p) v p row m (omega arith) (omega arith) s e in
      let same : walk_from (suc m) g row v p ≡ enter true (λ u q. walk_from m g (row - 1) u q) (λ u q. walk_from m g (row + 1) u q) v (set v p (some row)) (incidents_at g p) =
      ap (λ (t : Bool). enter t (λ u q. walk_from m g (row - 1) u q) (λ u q. walk_from m g (row + 1) u q) v (set v p (some row)) (incidents_at g p)) e in
      subst (λ (w : Rows). Walked row row row w) (sym same)
      (record { low = a.low; high = a.high; lower = omega (arith, a.lower); higher = omega (arith, a.higher); spread = a.spread })

  pub walked : Walked (length g) (length g) (length g) (reached_from g p)
  walked = from (length g) refl start-fresh hp

  -- the rows of a walk, which starts at n: none is 0, so none is cut off
  pub reached-positive : Within 1 (2 * length g - 1) (reached_from g p)
  reached-positive =
      let w = walked in
      let c = seen_le (reached_from g p) in
      within_wider 1 (2 * length g - 1) w.low w.high (reached_from g p)
      (omega (arith, c, w.higher, w.spread.few, w.spread.long)) (omega (arith, c, w.lower, w.spread.few, w.spread.long)) w.spread.within

  pub reached-rows : All (λ (o : Option ℕ). o ≡ some 0 → ⊥) (reached_from g p)
  reached-rows = go (reached_from g p) reached-positive
    where
      go : (v : Rows) → Within 1 (2 * length g - 1) v → All (λ (o : Option ℕ). o ≡ some 0 → ⊥) v
      go [] w = tt
      go (none ∷ v) w = ((λ e. let z : ◌≡◌ {A = ℕ} 0 1 = cc in absurd (omega arith)), go v w)
      go (some r ∷ v) w = ((λ e. let z : r ≡ 0 = cc in absurd (omega (arith, w.0))), go v w.2)

-- each row is below n
abbrev pub Below : ℕ → Rows → Type 0
Below n [] = Unit {0}
Below n (none ∷ v) = Below n v
Below n (some r ∷ v) = (r < n) × Below n v

least_ge : (lo hi m : ℕ) (v : Rows) → lo ≤ m → Within lo hi v → lo ≤ least_row m v
least_ge lo hi m [] h w = h
least_ge lo hi m (none ∷ v) h w = least_ge lo hi m v h w
least_ge lo hi m (some r ∷ v) h w = omega (arith, w.0, least_ge lo hi m v h w.2)

lowered-below : (n lo hi m : ℕ) → lo ≤ m → suc hi ≤ lo + n → (v rows : Rows) → Within lo hi v → Below n rows → Below n (lowered m v rows)
lowered-below n lo hi m h k [] rows w b = b
lowered-below n lo hi m h k (none ∷ v) [] w b = tt
lowered-below n lo hi m h k (some r ∷ v) [] w b = tt
lowered-below n lo hi m h k (none ∷ v) (none ∷ rows) w b = lowered-below n lo hi m h k v rows w b
lowered-below n lo hi m h k (none ∷ v) (some y ∷ rows) w b = (b.0, lowered-below n lo hi m h k v rows w b.1)
lowered-below n lo hi m h k (some r ∷ v) (none ∷ rows) w b = (omega (arith, w.0, w.1), lowered-below n lo hi m h k v rows w.2 b)
lowered-below n lo hi m h k (some r ∷ v) (some y ∷ rows) w b = (omega (arith, w.0, w.1), lowered-below n lo hi m h k v rows w.2 b.1)

length-lowered : (m : ℕ) (v rows : Rows) → length (lowered m v rows) ≡ length rows
length-lowered m [] rows = refl
length-lowered m (x ∷ v) [] = refl
length-lowered m (x ∷ v) (y ∷ rows) = ap suc (length-lowered m v rows)

-- the rows so far
pub record Lowered (n : ℕ) (rows : Rows) : Type 0 where
  pub long : length rows ≡ n
  pub below : Below n rows

start-keeps : (g : Shape) (p : ℕ) (rows : Rows) → p < length g → Lowered (length g) rows → (t : Bool) → Lowered (length g) (start t g p rows)
start-keeps g p rows h s true =
    let v = reached_from g p in
    let w = walked g p h in
    let l = least_ge w.low w.high (length g) v w.lower w.spread.within in
    record {
      long = length-lowered (least_row (length g) v) v rows ∙ s.long;
      below = lowered-below (length g) w.low w.high (least_row (length g) v) l (omega (arith, w.spread.few, w.spread.long, seen_le v)) v rows w.spread.within s.below;
    }
start-keeps g p rows h s false = s

below_none : (n m : ℕ) → Below n (replicate m none)
below_none n zero = tt
below_none n (suc m) = below_none n m

below_at : (n : ℕ) (v : Rows) → Below n v → (k : ℕ) → k < n → or_else 0 (get_or v k none) < n
below_at n [] b k h = omega arith
below_at n (none ∷ v) b zero h = omega arith
below_at n (some r ∷ v) b zero h = b.0
below_at n (none ∷ v) b (suc k) h = below_at n v b k (omega arith)
below_at n (some r ∷ v) b (suc k) h = below_at n v b.1 k (omega arith)

module _ (g : Shape) where
  abbrev final : Rows
  final = each (replicate (length g) none) (λ p rows. start (fresh rows p) g p rows) (length g)

  final-lowered : Lowered (length g) final
  final-lowered =
      keeps (λ p rows. Lowered (length g) rows) (replicate (length g) none) (λ p rows. start (fresh rows p) g p rows)
      (record { long = length-replicate (length g) none; below = below_none (length g) (length g) }) (length g)
      (λ p rows h s. start-keeps g p rows h s (fresh rows p))

  -- each node has a row
  pub heights-long : length (heights g) ≡ length g
  unfolding heights
  heights-long = length-map final (or_else 0) ∙ final-lowered.long

  -- rows are below the number of boxes
  pub heights-below : (k : ℕ) → k < length g → at (heights g) k < length g
  unfolding heights
  heights-below k h =
      rw (at_map (or_else 0) final k none (omega (arith, final-lowered.long))) (below_at (length g) final final-lowered.below k h)

-- The depth bound is never used up: any other that is no less gives the same walk, since each node on the path had no row before it.
pub unseen-set : (row : ℕ) (v : Rows) (p : ℕ) → fresh v p ≡ true → suc (unseen (set v p (some row))) ≡ unseen v
unseen-set row [] p e = absurd (false≢true e)
unseen-set row (none ∷ v) zero e = refl
unseen-set row (some r ∷ v) zero e = absurd (false≢true e)
unseen-set row (none ∷ v) (suc p) e = ap suc (unseen-set row v p e)
unseen-set row (some r ∷ v) (suc p) e = unseen-set row v p e

-- where all have a row, none is fresh
pub unseen-none : (v : Rows) (p : ℕ) → unseen v ≤ 0 → fresh v p ≡ false
unseen-none [] p h = refl
unseen-none (none ∷ v) p h = absurd (not-suc-le-zero h)
unseen-none (some r ∷ v) zero h = refl
unseen-none (some r ∷ v) (suc p) h = unseen-none v p h

pub unseen-replicate : (n : ℕ) → unseen (replicate n none) ≡ n
unseen-replicate zero = refl
unseen-replicate (suc n) = ap suc (unseen-replicate n)

through-falls : (go : Rows → ℕ → Rows) → ((v : Rows) (q : ℕ) → unseen (go v q) ≤ unseen v) → (v : Rows) (qs : List ℕ) → unseen (through go v qs) ≤ unseen v
through-falls go f v [] = omega arith
through-falls go f v (q ∷ qs) = omega (arith, f v q, through-falls go f (go v q) qs)

enter-falls : (t : Bool) (up down : Rows → ℕ → Rows) → ((v : Rows) (q : ℕ) → unseen (up v q) ≤ unseen v) → ((v : Rows) (q : ℕ) → unseen (down v q) ≤ unseen v) →
    (v w : Rows) → (t ≡ true → unseen w ≤ unseen v) → (m : Incidents) → unseen (enter t up down v w m) ≤ unseen v
enter-falls true up down f k v w h m =
    omega (arith, h refl, through-falls up f w m.sources, through-falls down k (through up w m.sources) m.sinks)
enter-falls false up down f k v w h m = omega arith

walk-falls : (d : ℕ) (g : Shape) (row : ℕ) (v : Rows) (p : ℕ) → unseen (walk_from d g row v p) ≤ unseen v
walk-falls zero g row v p = omega arith
walk-falls (suc d) g row v p =
    enter-falls (fresh v p) (λ u q. walk_from d g (row - 1) u q) (λ u q. walk_from d g (row + 1) u q) (λ u q. walk-falls d g (row - 1) u q) (λ u q. walk-falls d g (row + 1) u q)
    v (set v p (some row)) (λ e. omega (arith, unseen-set row v p e)) (incidents_at g p)

through_same : (m : ℕ) (go to : Rows → ℕ → Rows) → ((v : Rows) (q : ℕ) → unseen (go v q) ≤ unseen v) → ((v : Rows) (q : ℕ) → unseen v ≤ m → go v q ≡ to v q) →
    (v : Rows) → unseen v ≤ m → (qs : List ℕ) → through go v qs ≡ through to v qs
through_same m go to f s v h [] = refl
through_same m go to f s v h (q ∷ qs) =
    through_same m go to f s (go v q) (omega (arith, f v q)) qs ∙ ap (λ (u : Rows). through to u qs) (s v q h)

-- both walks of one node
module _ (d e : ℕ) (g : Shape) (row : ℕ) (v : Rows) (p : ℕ)
    (up : (u : Rows) (q : ℕ) → unseen u < unseen v → walk_from d g (row - 1) u q ≡ walk_from e g (row - 1) u q)
    (down : (u : Rows) (q : ℕ) → unseen u < unseen v → walk_from d g (row + 1) u q ≡ walk_from e g (row + 1) u q) where
  same-entered : (t : Bool) → fresh v p ≡ t →
      enter t (λ u q. walk_from d g (row - 1) u q) (λ u q. walk_from d g (row + 1) u q) v (set v p (some row)) (incidents_at g p)
      ≡ enter t (λ u q. walk_from e g (row - 1) u q) (λ u q. walk_from e g (row + 1) u q) v (set v p (some row)) (incidents_at g p)
  same-entered true f =
      let w = set v p (some row) in
      let n : Incidents = incidents_at g p in
      let l = unseen-set row v p f in
      let m : ℕ = unseen w in
      let a = through_same m (λ u q. walk_from d g (row - 1) u q) (λ u q. walk_from e g (row - 1) u q) (λ u q. walk-falls d g (row - 1) u q)
      (λ u q h. up u q (omega (arith, l))) w (omega arith) n.sources in
      let x : Rows = through (λ u q. walk_from d g (row - 1) u q) w n.sources in
      through_same m (λ u q. walk_from d g (row + 1) u q) (λ u q. walk_from e g (row + 1) u q) (λ u q. walk-falls d g (row + 1) u q)
      (λ u q h. down u q (omega (arith, l))) x (through-falls (λ u q. walk_from d g (row - 1) u q) (λ u q. walk-falls d g (row - 1) u q) w n.sources) n.sinks
      ∙ ap (λ (u : Rows). through (λ z q. walk_from e g (row + 1) z q) u n.sinks) a
  same-entered false f = refl

walk_same : (d e : ℕ) (g : Shape) (row : ℕ) (v : Rows) (p : ℕ) → unseen v ≤ d → unseen v ≤ e → walk_from d g row v p ≡ walk_from e g row v p
walk_same zero zero g row v p h k = refl
walk_same zero (suc e) g row v p h k =
    sym (ap (λ (t : Bool). enter t (λ u q. walk_from e g (row - 1) u q) (λ u q. walk_from e g (row + 1) u q) v (set v p (some row)) (incidents_at g p)) (unseen-none v p h))
walk_same (suc d) zero g row v p h k =
    ap (λ (t : Bool). enter t (λ u q. walk_from d g (row - 1) u q) (λ u q. walk_from d g (row + 1) u q) v (set v p (some row)) (incidents_at g p)) (unseen-none v p k)
walk_same (suc d) (suc e) g row v p h k =
    same-entered d e g row v p
    (λ u q l. walk_same d e g (row - 1) u q (omega arith) (omega arith)) (λ u q l. walk_same d e g (row + 1) u q (omega arith) (omega arith)) (fresh v p) refl

pub depth-enough : (g : Shape) (p more : ℕ) → walk_from (length g + more) g (length g) (replicate (length g) none) p ≡ reached_from g p
depth-enough g p more =
    let u = unseen-replicate (length g) in
    walk_same (length g + more) (length g) g (length g) (replicate (length g) none) p (omega (arith, u)) (omega (arith, u))
