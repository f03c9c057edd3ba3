-- The pair table before the rounds, after one and after both: its sums, by pair. In round 1 every missing pair is made by its first
-- addition; in round 2 none is made. So neither order of insertion nor order of additions matters.
-- Assumes nothing.
use Prim.Native.Nat.{ℕ, zero, suc, ◌+◌, ◌≤◌, ◌<◌}
use native.Mathlib.Omega.{arith}
use native.Mathlib.Nat.{not-suc-le-zero, le_of_suc-le-suc, eq-or-lt_of_le}
use mathlib.Core.Logic.{◌⊎◌, inl, inr}
use mathlib.Core.Path.{◌≡◌, refl, ap, sym, ◌∙◌}
use mathlib.Core.Bool.{Bool, true, false, cond, ◌||◌, ◌&&◌}
use mathlib.Core.List.{List, [], ◌∷◌, ◌++◌, map}
use lib.Dec.{eqb, ltb, leb}
use lib.ListN.{length}
use borrow.Author.Tests.{eq-eqb, ne_eqb, eqb-true, lt-ltb, le-ltb, ltb-true, ltb-false}
use Rattle.laws.proofs.Tests.{same?}
use Rattle.graph.specs.Shape.{Shape}
use Rattle.laws.specs.Lists.{All, tally}
use Rattle.laws.proofs.Lists.{all_map, all_join}
use Rattle.order.specs.Against.{Against, all}
use Rattle.order.specs.Weights.{Pair, Table, of, stands, more, raise, add, count, counted, before_of, after_of, placed, region, both, additions, apply, applied, round, first}
use Rattle.order.specs.Claims.{Aimed}
use Rattle.order.proofs.Nodes.{Both, both-all}
use Rattle.order.proofs.Tables.{true_false, and_left, and_right, of-smaller, of-larger, of-here, pair, value_of, value-missing, before-value, after-value, sum_of, Made, Unmade, stands-raise, stands-end, value-add, value-add-other, applied-sum, applied-missing}
use Rattle.order.proofs.Legs.{Distinct, sum_to, leg, round-sum}

-- ---- what holds of each pair of a table
module _ (P : Pair → Type 0) where
  all-raise : (a b x y : ℕ) (t : Table) → ((e : Pair) → P e → P (more x y e)) → All P t → All P (raise a b x y t)
  all-raise a b x y [] f h = tt
  all-raise a b x y (e ∷ es) f h = (go (of a b e) h.0, all-raise a b x y es f h.1)
    where
      go : (s : Bool) → P e → P (cond s (more x y e) e)
      go true p = f e p
      go false p = p

  all_end : (t : Table) (e : Pair) → All P t → P e → All P (t ++ (e ∷ []))
  all_end [] e h p = (p, tt)
  all_end (f ∷ fs) e h p = (h.0, all_end fs e h.1 p)

  all-pick : (b : Bool) (s t : Table) → All P s → All P t → All P (cond b s t)
  all-pick true s t h k = h
  all-pick false s t h k = k

  pub all-add : (make flag : Bool) (a b x y : ℕ) (t : Table) → ((e : Pair) → P e → P (more x y e)) → P (pair a b x y flag) → All P t → All P (add make flag a b x y t)
  all-add make flag a b x y t f p h =
      all-pick (stands a b t) (raise a b x y t) (cond make (t ++ (pair a b x y flag ∷ [])) t) (all-raise a b x y t f h)
      (all-pick make (t ++ (pair a b x y flag ∷ [])) t (all_end t (pair a b x y flag) h p) h)

  pub all_placed : (e : Pair) (fs : Table) → P e → All P fs → All P (placed e fs)
  all_placed e [] p h = (p, tt)
  all_placed e (f ∷ fs) p h = all-pick (leb e.larger f.larger) (e ∷ f ∷ fs) (f ∷ placed e fs) (p, h) (h.0, all_placed e fs p h.1)

-- the pairs of a region, each with its smaller member
region-all : (P : Pair → Type 0) (b : ℕ) (t : Table) → All P t → All (λ f. P f × (f.smaller ≡ b)) (region b t)
region-all P b [] h = tt
region-all P b (f ∷ fs) h = go (eqb f.smaller b) refl (region-all P b fs h.1)
  where
    go : (s : Bool) → eqb f.smaller b ≡ s → All (λ e. P e × (e.smaller ≡ b)) (region b fs) → All (λ e. P e × (e.smaller ≡ b)) (cond s (placed f (region b fs)) (region b fs))
    go true e k = all_placed (λ e. P e × (e.smaller ≡ b)) f (region b fs) (h.0, eqb-true f.smaller b e) k
    go false e k = k

both-map : (Q R P : Pair → Type 0) (e : Pair) (fs : List Pair) → Q e → All (λ f. R f × (f.smaller ≡ e.larger)) fs →
    ((e f : Pair) → Q e → R f → f.smaller ≡ e.larger → P (both e f)) → All P (map (both e) fs)
both-map Q R P e [] q h g = tt
both-map Q R P e (f ∷ fs) q h g = (g e f q h.0.0 h.0.1, both-map Q R P e fs q h.1 g)

pub additions-all : (Q R P : Pair → Type 0) (t es : Table) → All R t → All Q es → ((e f : Pair) → Q e → R f → f.smaller ≡ e.larger → P (both e f)) → All P (additions t es)
additions-all Q R P t [] r q g = tt
additions-all Q R P t (e ∷ es) r q g =
    all_join P (map (both e) (region e.larger t)) (additions t es) (both-map Q R P e (region e.larger t) q.0 (region-all R e.larger t r) g)
    (additions-all Q R P t es r q.1 g)

-- ---- a proper table of n nodes: each pair once, smaller first, with a sum
pub record Proper (n : ℕ) (e : Pair) : Type 0 where
  pub rising : e.smaller < e.larger
  pub below : e.larger < n
  pub some : 0 < e.before + e.after

pub record Fine (n : ℕ) (t : Table) : Type 0 where
  pub once : Distinct t
  pub each : All (Proper n) t

distinct-raise : (a b x y : ℕ) (t : Table) → Distinct t → Distinct (raise a b x y t)
distinct-raise a b x y [] d = tt
distinct-raise a b x y (e ∷ es) d = (go (of a b e), distinct-raise a b x y es d.1)
  where
    go : (s : Bool) → stands (cond s (more x y e) e).smaller (cond s (more x y e) e).larger (raise a b x y es) ≡ false
    go true = stands-raise e.smaller e.larger a b x y es ∙ d.0
    go false = stands-raise e.smaller e.larger a b x y es ∙ d.0

or_left : (a b : Bool) → (a || b) ≡ false → a ≡ false
or_left true b e = e
or_left false b e = refl

or_right : (a b : Bool) → (a || b) ≡ false → b ≡ false
or_right true b e = true_false e
or_right false b e = e

distinct-end : (a b x y : ℕ) (flag : Bool) (t : Table) → stands a b t ≡ false → Distinct t → Distinct (t ++ (pair a b x y flag ∷ []))
distinct-end a b x y flag [] h d = (refl, tt)
distinct-end a b x y flag (e ∷ es) h d =
    (stands-end e.smaller e.larger es (pair a b x y flag) ∙ rw d.0 (go (of e.smaller e.larger (pair a b x y flag)) refl), distinct-end a b x y flag es (or_right (of a b e) (stands a b es) h) d.1)
  where
    go : (s : Bool) → of e.smaller e.larger (pair a b x y flag) ≡ s → s ≡ false
    go true k =
        true_false (sym (of-here a b e (sym (of-smaller e.smaller e.larger (pair a b x y flag) k)) (sym (of-larger e.smaller e.larger (pair a b x y flag) k))) ∙ or_left (of a b e) (stands a b es) h)
    go false k = refl

distinct-add : (make flag : Bool) (a b x y : ℕ) (t : Table) → Distinct t → Distinct (add make flag a b x y t)
distinct-add make flag a b x y t d = go (stands a b t) refl make
  where
    go : (s : Bool) → stands a b t ≡ s → (m : Bool) → Distinct (cond s (raise a b x y t) (cond m (t ++ (pair a b x y flag ∷ [])) t))
    go true e m = distinct-raise a b x y t d
    go false e true = distinct-end a b x y flag t e d
    go false e false = d

pub fine-add : (n : ℕ) (make flag : Bool) (a b x y : ℕ) (t : Table) → a < b → b < n → 0 < x + y → Fine n t → Fine n (add make flag a b x y t)
fine-add n make flag a b x y t l k z f =
    record {
      once = distinct-add make flag a b x y t f.once;
      each = all-add (Proper n) make flag a b x y t (λ e p. record { rising = p.rising; below = p.below; some = omega (arith, p.some) }) (record { rising = l; below = k; some = z }) f.each;
    }

fine-applied : (n : ℕ) (ds : List Pair) (t : Table) → All (Proper n) ds → Fine n t → Fine n (applied t ds)
fine-applied n [] t p f = f
fine-applied n (d ∷ ds) t p f = fine-applied n ds (apply t d) p.1 (fine-add n d.flag false d.smaller d.larger d.before d.after t p.0.rising p.0.below p.0.some f)

pub fine-round : (n : ℕ) (t : Table) → Fine n t → Fine n (round t)
unfolding round
fine-round n t f =
    fine-applied n (additions t t) t
    (additions-all (Proper n) (Proper n) (Proper n) t t f.each f.each
    (λ e g p q h. record { rising = omega (arith, p.rising, q.rising, h); below = q.below; some = omega (arith, p.some) }))
    f

-- a pair stands exactly if it has a sum
stands_cons : (n : ℕ) (e : Pair) (o s : Bool) (x y : ℕ) → Proper n e → s ≡ ltb 0 (x + y) → (o || s) ≡ ltb 0 (cond o e.before x + cond o e.after y)
stands_cons n e true s x y p h = sym (lt-ltb 0 (e.before + e.after) p.some)
stands_cons n e false s x y p h = h

pub stands-sum : (n a b : ℕ) (t : Table) → All (Proper n) t → stands a b t ≡ ltb 0 (before_of a b t + after_of a b t)
stands-sum n a b [] h = sym (le-ltb 0 0 (omega arith))
stands-sum n a b (e ∷ es) h = stands_cons n e (of a b e) (stands a b es) (before_of a b es) (after_of a b es) h.0 (stands-sum n a b es h.1)

-- a pair that is not smaller first does not stand
not_rising_cons : (n a b : ℕ) (e : Pair) (o s : Bool) → of a b e ≡ o → Proper n e → b ≤ a → s ≡ false → (o || s) ≡ false
not_rising_cons n a b e true s k p l h = absurd (omega (arith, p.rising, of-smaller a b e k, of-larger a b e k))
not_rising_cons n a b e false s k p l h = h

pub not_rising : (n a b : ℕ) (t : Table) → All (Proper n) t → b ≤ a → stands a b t ≡ false
not_rising n a b [] h l = refl
not_rising n a b (e ∷ es) h l = not_rising_cons n a b e (of a b e) (stands a b es) refl h.0 l (not_rising n a b es h.1 l)

-- ---- the two sums, and a fact of both
abbrev pub Sum : Type 0
Sum = Pair → ℕ

pub record Reads (w : Sum) (w' : ℕ → ℕ → ℕ) : Type 0 where
  pub grows : (x y : ℕ) (e : Pair) → w (more x y e) ≡ w e + w' x y
  pub fresh : (a b x y : ℕ) (flag : Bool) → w (pair a b x y flag) ≡ w' x y
  pub reads : (e : Pair) → w' e.before e.after ≡ w e
  pub adds : (e f : Pair) → w (both e f) ≡ w e + w f

pub before-reads : Reads (λ e. e.before) (λ x y. x)
before-reads = record { grows = λ x y e. refl; fresh = λ a b x y flag. refl; reads = λ e. refl; adds = λ e f. refl }

pub after-reads : Reads (λ e. e.after) (λ x y. y)
after-reads = record { grows = λ x y e. refl; fresh = λ a b x y flag. refl; reads = λ e. refl; adds = λ e f. refl }

-- ---- before the rounds: how often one node stands against another
unfoldable pub ups : ℕ → ℕ → List Against → ℕ
ups a b [] = 0
ups a b (c ∷ cs) = tally (eqb c.first a && eqb c.second b) (ups a b cs)

pub fine-count : (n : ℕ) (t : Table) (c : Against) → c.first < n → c.second < n → Fine n t → Fine n (count t c)
fine-count n t c h k f = go (ltb c.first c.second) refl (ltb c.second c.first) refl
  where
    go : (s : Bool) → ltb c.first c.second ≡ s → (r : Bool) → ltb c.second c.first ≡ r →
        Fine n (cond s (add true true c.first c.second 1 0 t) (cond r (add true true c.second c.first 0 1 t) t))
    go true e r q = fine-add n true true c.first c.second 1 0 t (ltb-true c.first c.second e) k (omega arith) f
    go false e true q = fine-add n true true c.second c.first 0 1 t (ltb-true c.second c.first q) h (omega arith) f
    go false e false q = f

fine-counted : (n : ℕ) (cs : List Against) (t : Table) → Both n cs → Fine n t → Fine n (counted t cs)
fine-counted n [] t b f = f
fine-counted n (c ∷ cs) t b f = fine-counted n cs (count t c) b.2 (fine-count n t c b.0 b.1 f)

pub fine-first : (g : Shape) → Aimed (length g) g → Fine (length g) (first g)
unfolding first
fine-first g a = fine-counted (length g) (all g) [] (both-all g a) (record { once = tt; each = tt })

abbrev pub Flagged : Pair → Type 0
Flagged e = e.flag ≡ true

flagged_count : (t : Table) (c : Against) → All Flagged t → All Flagged (count t c)
flagged_count t c f =
    all-pick Flagged (ltb c.first c.second) (add true true c.first c.second 1 0 t) (cond (ltb c.second c.first) (add true true c.second c.first 0 1 t) t)
    (all-add Flagged true true c.first c.second 1 0 t (λ e p. p) refl f)
    (all-pick Flagged (ltb c.second c.first) (add true true c.second c.first 0 1 t) t (all-add Flagged true true c.second c.first 0 1 t (λ e p. p) refl f) f)

flagged_counted : (cs : List Against) (t : Table) → All Flagged t → All Flagged (counted t cs)
flagged_counted [] t f = f
flagged_counted (c ∷ cs) t f = flagged_counted cs (count t c) (flagged_count t c f)

pub flagged_first : (g : Shape) → All Flagged (first g)
unfolding first
flagged_first g = flagged_counted (all g) [] tt

-- ---- a round on a table whose flags are all true
flag-both : (e f : Pair) → e.flag ≡ true → f.flag ≡ true → (e.flag && f.flag) ≡ true
flag-both e f p q = rw (p, q)

module _ (w : Sum) (w' : ℕ → ℕ → ℕ) (r : Reads w w') (n : ℕ) (t : Table) (f : Fine n t) where
  abbrev pub gain : ℕ → ℕ → ℕ
  gain a c = sum_to n (leg w r.adds t t a c)

  sum_is : (a c : ℕ) → sum_of w a c (additions t t) ≡ gain a c
  sum_is a c = round-sum w r.adds n a c t f.once (all_map {P = Proper n} {Q = λ e. e.larger < n} (λ e p. p.below) t f.each)

  pub round-made : All Flagged t → (a c : ℕ) → value_of w a c (round t) ≡ value_of w a c t + gain a c
  unfolding round
  round-made g a c =
      let m : Made a c (additions t t) = all_map {P = Flagged} {Q = λ d. of a c d ≡ true → d.flag ≡ true} (λ d p q. p) (additions t t) (additions-all Flagged Flagged Flagged t t g g (λ e h p q s. flag-both e h p q)) in
      applied-sum w w' r.grows r.fresh r.reads a c (additions t t) t (inr m) ∙ ap (λ (z : ℕ). value_of w a c t + z) (sum_is a c)

  pub round-stood : (a c : ℕ) → stands a c t ≡ true → value_of w a c (round t) ≡ value_of w a c t + gain a c
  unfolding round
  round-stood a c s = applied-sum w w' r.grows r.fresh r.reads a c (additions t t) t (inl s) ∙ ap (λ (z : ℕ). value_of w a c t + z) (sum_is a c)

  pub round-missing : (a c : ℕ) → stands a c t ≡ false → Unmade a c (additions t t) → value_of w a c (round t) ≡ 0
  unfolding round
  round-missing a c s u = value-missing w a c (applied t (additions t t)) (applied-missing w w' r.grows r.fresh r.reads a c (additions t t) t s u)

-- ---- what one node against another adds
module _ (w : Sum) (w' : ℕ → ℕ → ℕ) (r : Reads w w') where
  plus : (a b x y : ℕ) (t : Table) → a < b → value_of w a b (add true true x y 1 0 t) ≡ value_of w a b t + cond (eqb x a && eqb y b) (w' 1 0) 0
  plus a b x y t l = go (same? x a) (same? y b)
    where
      other : ((a ≡ x) × (b ≡ y) → ⊥) → (eqb x a && eqb y b) ≡ false → value_of w a b (add true true x y 1 0 t) ≡ value_of w a b t + cond (eqb x a && eqb y b) (w' 1 0) 0
      other o e = value-add-other w w' r.grows r.fresh r.reads a b x y 1 0 true true t o ∙ rw e (omega arith)

      go : (x ≡ a) ⊎ (x ≡ a → ⊥) → (y ≡ b) ⊎ (y ≡ b → ⊥) → value_of w a b (add true true x y 1 0 t) ≡ value_of w a b t + cond (eqb x a && eqb y b) (w' 1 0) 0
      go (inl p) (inl q) = rw (p, q, eq-eqb a a refl, eq-eqb b b refl) (value-add w w' r.grows r.fresh r.reads a b 1 0 true true t (inr refl))
      go (inr p) q = other (λ e. p (sym e.0)) (rw (ne_eqb x a p))
      go (inl p) (inr q) = other (λ e. q (sym e.1)) (rw (eq-eqb x a p, ne_eqb y b q))

  minus : (a b x y : ℕ) (t : Table) → a < b → value_of w a b (add true true x y 0 1 t) ≡ value_of w a b t + cond (eqb y b && eqb x a) (w' 0 1) 0
  minus a b x y t l = go (same? x a) (same? y b)
    where
      other : ((a ≡ x) × (b ≡ y) → ⊥) → (eqb y b && eqb x a) ≡ false → value_of w a b (add true true x y 0 1 t) ≡ value_of w a b t + cond (eqb y b && eqb x a) (w' 0 1) 0
      other o e = value-add-other w w' r.grows r.fresh r.reads a b x y 0 1 true true t o ∙ rw e (omega arith)

      go : (x ≡ a) ⊎ (x ≡ a → ⊥) → (y ≡ b) ⊎ (y ≡ b → ⊥) → value_of w a b (add true true x y 0 1 t) ≡ value_of w a b t + cond (eqb y b && eqb x a) (w' 0 1) 0
      go (inl p) (inl q) = rw (p, q, eq-eqb a a refl, eq-eqb b b refl) (value-add w w' r.grows r.fresh r.reads a b 0 1 true true t (inr refl))
      go (inl p) (inr q) = other (λ e. q (sym e.1)) (rw (ne_eqb y b q))
      go (inr p) (inl q) = other (λ e. p (sym e.0)) (rw (eq-eqb y b q, ne_eqb x a p))
      go (inr p) (inr q) = other (λ e. p (sym e.0)) (rw (ne_eqb y b q))

  abbrev up : ℕ → ℕ → Against → Bool
  up a b c = eqb c.first a && eqb c.second b

  -- first against second is no pair of the other order
  no-up : (a b : ℕ) (c : Against) → b ≤ a → c.first < c.second → up a b c ≡ false
  no-up a b c l h = go (up a b c) refl
    where
      go : (s : Bool) → up a b c ≡ s → s ≡ false
      go true e = absurd (omega (arith, eqb-true c.first a (and_left (eqb c.first a) (eqb c.second b) e), eqb-true c.second b (and_right (eqb c.first a) (eqb c.second b) e)))
      go false e = refl

  no-down : (a b : ℕ) (c : Against) → a ≤ b → c.second < c.first → up a b c ≡ false
  no-down a b c l h = go (up a b c) refl
    where
      go : (s : Bool) → up a b c ≡ s → s ≡ false
      go true e = absurd (omega (arith, eqb-true c.first a (and_left (eqb c.first a) (eqb c.second b) e), eqb-true c.second b (and_right (eqb c.first a) (eqb c.second b) e)))
      go false e = refl

  no_self : (a b : ℕ) (c : Against) → (a ≡ b → ⊥) → c.first ≡ c.second → up a b c ≡ false
  no_self a b c l h = go (up a b c) refl
    where
      go : (s : Bool) → up a b c ≡ s → s ≡ false
      go true e = absurd (l (sym (eqb-true c.first a (and_left (eqb c.first a) (eqb c.second b) e)) ∙ h ∙ eqb-true c.second b (and_right (eqb c.first a) (eqb c.second b) e)))
      go false e = refl

  pub value-count : (a b : ℕ) (t : Table) (c : Against) → a < b → value_of w a b (count t c) ≡ value_of w a b t + cond (up a b c) (w' 1 0) 0 + cond (up b a c) (w' 0 1) 0
  value-count a b t c l = go (ltb c.first c.second) refl (ltb c.second c.first) refl
    where
      go : (s : Bool) → ltb c.first c.second ≡ s → (q : Bool) → ltb c.second c.first ≡ q →
          value_of w a b (cond s (add true true c.first c.second 1 0 t) (cond q (add true true c.second c.first 0 1 t) t)) ≡ value_of w a b t + cond (up a b c) (w' 1 0) 0 + cond (up b a c) (w' 0 1) 0
      go true e q k = rw (no-up b a c (omega arith) (ltb-true c.first c.second e)) (plus a b c.first c.second t l ∙ omega arith)
      go false e true k = rw (no-down a b c (omega arith) (ltb-true c.second c.first k)) (minus a b c.second c.first t l ∙ omega arith)
      go false e false k =
          let h : c.first ≡ c.second = omega (arith, ltb-false c.first c.second e, ltb-false c.second c.first k) in
          rw (no_self a b c (λ z. omega arith) h, no_self b a c (λ z. omega arith) h) (omega arith)

tally-is : (b : Bool) (k : ℕ) → tally b k ≡ cond b 1 0 + k
tally-is true k = omega arith
tally-is false k = omega arith

no_more : (b : Bool) → ◌≡◌ {A = ℕ} (cond b 0 0) 0
no_more true = refl
no_more false = refl

-- the sums before the rounds
pub before-counted : (a b : ℕ) (cs : List Against) (t : Table) → a < b → value_of (λ e. e.before) a b (counted t cs) ≡ value_of (λ e. e.before) a b t + ups a b cs
unfolding ups
before-counted a b [] t l = omega arith
before-counted a b (c ∷ cs) t l =
    omega (arith, before-counted a b cs (count t c) l, value-count (λ e. e.before) (λ x y. x) before-reads a b t c l, tally-is (eqb c.first a && eqb c.second b) (ups a b cs), no_more (eqb c.first b && eqb c.second a))

pub after-counted : (a b : ℕ) (cs : List Against) (t : Table) → a < b → value_of (λ e. e.after) a b (counted t cs) ≡ value_of (λ e. e.after) a b t + ups b a cs
unfolding ups
after-counted a b [] t l = omega arith
after-counted a b (c ∷ cs) t l =
    omega (arith, after-counted a b cs (count t c) l, value-count (λ e. e.after) (λ x y. y) after-reads a b t c l, tally-is (eqb c.first b && eqb c.second a) (ups b a cs), no_more (eqb c.first a && eqb c.second b))

pub before-first : (g : Shape) (a b : ℕ) → a < b → before_of a b (first g) ≡ ups a b (all g)
unfolding first
before-first g a b l = before-value a b (first g) ∙ before-counted a b (all g) [] l ∙ omega arith

pub after_first : (g : Shape) (a b : ℕ) → a < b → after_of a b (first g) ≡ ups b a (all g)
unfolding first
after_first g a b l = after-value a b (first g) ∙ after-counted a b (all g) [] l ∙ omega arith

-- ---- round 2: a pair whose flag is true stood before round 1, so that what two such pairs add to was made then
abbrev Old : Table → Pair → Type 0
Old t e = e.flag ≡ true → stands e.smaller e.larger t ≡ true

or_true : (b : Bool) → (b || true) ≡ true
or_true true = refl
or_true false = refl

old-self : (t : Table) → All (Old t) t
old-self [] = tt
old-self (e ∷ es) =
    (λ f. rw (eq-eqb e.smaller e.smaller refl, eq-eqb e.larger e.larger refl), all_map {P = Old es} {Q = Old (e ∷ es)} (λ x p f. rw (p f) (or_true (of x.smaller x.larger e))) es (old-self es))

old-applied : (t : Table) (ds : List Pair) (u : Table) → All (Old t) u → All (Old t) (applied u ds)
old-applied t [] u h = h
old-applied t (d ∷ ds) u h =
    old-applied t ds (apply u d) (all-add (Old t) d.flag false d.smaller d.larger d.before d.after u (λ e p. p) (λ q. true_false (sym q)) h)

old-round : (t : Table) → All (Old t) (round t)
unfolding round
old-round t = old-applied t (additions t t) t (old-self t)

sum-least : (n b : ℕ) (f : ℕ → ℕ) → b < n → f b ≤ sum_to n f
sum-least zero b f l = absurd (not-suc-le-zero l)
sum-least (suc n) b f l =
    elim (eq-or-lt_of_le (le_of_suc-le-suc l)) [
      | inl e ↦ let z : f b ≡ f n = ap f e in omega arith
      | inr k ↦ omega (arith, sum-least n b f k)
    ]

module _ (n : ℕ) (t : Table) (f : Fine n t) (g : All Flagged t) where
  -- what a round adds at least, of each sum
  least : (w : Sum) (w' : ℕ → ℕ → ℕ) (r : Reads w w') (a b c : ℕ) → b < n → stands a b t ≡ true → stands b c t ≡ true → value_of w a b t ≤ value_of w a c (round t)
  least w w' r a b c l p q =
      let e : leg w r.adds t t a c b ≡ value_of w a b t + value_of w b c t = rw (p, q) in
      omega (arith, round-made w w' r n t f g a c, sum-least n b (leg w r.adds t t a c) l, e)

  third : (a b c : ℕ) → b < n → stands a b t ≡ true → stands b c t ≡ true → stands a c (round t) ≡ true
  third a b c l p q =
      let some : 0 < before_of a b t + after_of a b t = ltb-true 0 (before_of a b t + after_of a b t) (sym (stands-sum n a b t f.each) ∙ p) in
      stands-sum n a c (round t) (fine-round n t f).each
      ∙ lt-ltb 0 (before_of a c (round t) + after_of a c (round t))
      (omega (arith, least (λ e. e.before) (λ x y. x) before-reads a b c l p q, least (λ e. e.after) (λ x y. y) after-reads a b c l p q, before-value a b t, after-value a b t, before-value a c (round t), after-value a c (round t)))

  none_made : (a c : ℕ) → stands a c (round t) ≡ false → Unmade a c (additions (round t) (round t))
  none_made a c s =
      let q = all_both (round t) (fine-round n t f).each (old-round t) in
      additions-all (λ e. Proper n e × Old t e) (λ e. Proper n e × Old t e) (λ d. of a c d ≡ true → d.flag ≡ false) (round t) (round t) q q
      (λ e h p r j o. made e h p r j o e.flag refl h.flag refl)
    where
      all_both : (u : Table) → All (Proper n) u → All (Old t) u → All (λ e. Proper n e × Old t e) u
      all_both [] x y = tt
      all_both (e ∷ es) x y = ((x.0, y.0), all_both es x.1 y.1)

      made : (e h : Pair) → Proper n e × Old t e → Proper n h × Old t h → h.smaller ≡ e.larger → of a c (both e h) ≡ true → (i : Bool) → e.flag ≡ i → (k : Bool) → h.flag ≡ k → (i && k) ≡ false
      made e h p r j o true i true k =
          let x : stands a e.larger t ≡ true = rw (of-smaller a c (both e h) o) at (p.1 i) in
          let y : stands e.larger c t ≡ true = rw (j, of-larger a c (both e h) o) at (r.1 k) in
          true_false (sym (third a e.larger c p.0.below x y) ∙ s)
      made e h p r j o true i false k = refl
      made e h p r j o false i k z = refl

  -- the sums after round 1 and round 2
  pub second : (w : Sum) (w' : ℕ → ℕ → ℕ) (r : Reads w w') (a c : ℕ) →
      value_of w a c (round (round t)) ≡ cond (stands a c (round t)) (value_of w a c (round t) + gain w w' r n (round t) (fine-round n t f) a c) 0
  second w w' r a c = go (stands a c (round t)) refl
    where
      go : (s : Bool) → stands a c (round t) ≡ s → value_of w a c (round (round t)) ≡ cond s (value_of w a c (round t) + gain w w' r n (round t) (fine-round n t f) a c) 0
      go true e = round-stood w w' r n (round t) (fine-round n t f) a c e
      go false e = round-missing w w' r n (round t) (fine-round n t f) a c e (none_made a c e)
