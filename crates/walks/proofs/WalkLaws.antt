-- The walk until a node repeats ends in a cycle.
-- Assumes nothing.
use Prim.Native.Nat.{ℕ, zero, suc, ◌+◌, ◌≤◌, ◌<◌}
use native.Mathlib.Omega.{arith}
use mathlib.Core.Path.{◌≡◌, refl, ap, sym, ◌∙◌, subst}
use mathlib.Core.Logic.{◌⊎◌, inl, inr}
use mathlib.Core.Bool.{Bool, true, false, cond, ◌||◌, false≢true}
use mathlib.Core.List.{List, [], ◌∷◌}
use lib.Dec.{eqb}
use lib.ListN.{length}
use borrow.Author.Tests.{eqb-true}
use Rattle.laws.specs.Lists.{All, has}
use Rattle.laws.proofs.Tests.{pick, pick-by}
use Rattle.walks.specs.Walks.{Distinct, up_to, Around, Cycle, walk}
use Rattle.walks.proofs.Few.{has-tail, has_not, has?, few}

-- each is related to the next
abbrev Chain : (ℕ → ℕ → Type 0) → List ℕ → Type 0
Chain E [] = Unit {0}
Chain E (x ∷ []) = Unit {0}
Chain E (x ∷ y ∷ xs) = E x y × Chain E (y ∷ xs)

-- ---- a path cut at q
up_not : (p q : ℕ) (xs : List ℕ) → has p xs ≡ false → has p (up_to q xs) ≡ false
up_not p q [] e = refl
up_not p q (x ∷ xs) e =
    let t = has-tail p x xs e in
    has_not p x (cond (eqb x q) [] (up_to q xs)) t.0 (pick (λ (l : List ℕ). has p l ≡ false) (eqb x q) [] (up_to q xs) refl (up_not p q xs t.1))

up-distinct : (q : ℕ) (xs : List ℕ) → Distinct xs → Distinct (up_to q xs)
up-distinct q [] d = tt
up-distinct q (x ∷ xs) d = pick (λ (l : List ℕ). Distinct (x ∷ l)) (eqb x q) [] (up_to q xs) (refl, tt) (up_not x q xs d.0, up-distinct q xs d.1)

-- q is related to w: the path up to q goes around
up_around : (E : ℕ → ℕ → Type 0) (q w : ℕ) → E q w → (x : ℕ) (xs : List ℕ) → Chain E (x ∷ xs) → has q (x ∷ xs) ≡ true → Around E (up_to q (x ∷ xs)) w
up_around E q w r x [] c e = go (eqb x q) refl e
  where
    go : (b : Bool) → eqb x q ≡ b → (b || false) ≡ true → Around E (x ∷ cond b [] []) w
    go true i e = subst (λ (z : ℕ). E z w) (sym (eqb-true x q i)) r
    go false i e = absurd (false≢true e)
up_around E q w r x (y ∷ ys) c e = go (eqb x q) refl e (up_around E q w r y ys c.1)
  where
    go : (b : Bool) → eqb x q ≡ b → (b || has q (y ∷ ys)) ≡ true → (has q (y ∷ ys) ≡ true → Around E (up_to q (y ∷ ys)) w) → Around E (x ∷ cond b [] (up_to q (y ∷ ys))) w
    go true i e f = subst (λ (z : ℕ). E z w) (sym (eqb-true x q i)) r
    go false i e f = (c.0, f e)

-- ---- the walk: of a good path `next` is below n and related to the head, and a path that goes on is good
module _ (n : ℕ) (E : ℕ → ℕ → Type 0) (next : List ℕ → ℕ) (Good : List ℕ → Type 0)
    (below : (x : ℕ) (rest : List ℕ) → Good (x ∷ rest) → next (x ∷ rest) < n)
    (related : (x : ℕ) (rest : List ℕ) → Good (x ∷ rest) → E (next (x ∷ rest)) x)
    (goes_on : (x : ℕ) (rest : List ℕ) → Good (x ∷ rest) → has (next (x ∷ rest)) (x ∷ rest) ≡ false → Good (next (x ∷ rest) ∷ x ∷ rest)) where
  -- a path of different nodes below n, each related to the next
  pub record Path (x : ℕ) (rest : List ℕ) : Type 0 where
    pub good : Good (x ∷ rest)
    pub distinct : Distinct (x ∷ rest)
    pub inside : All (λ y. y < n) (x ∷ rest)
    pub chain : Chain E (x ∷ rest)

  -- r is a path x, rest up to the node that comes again
  pub record Met (r : List ℕ) : Type 0 where
    pub x : ℕ
    pub rest : List ℕ
    pub path : Path x rest
    pub again : has (next (x ∷ rest)) (x ∷ rest) ≡ true
    pub is : r ≡ up_to (next (x ∷ rest)) (x ∷ rest)

  grown : (x : ℕ) (rest : List ℕ) → Path x rest → has (next (x ∷ rest)) (x ∷ rest) ≡ false → Path (next (x ∷ rest)) (x ∷ rest)
  grown x rest p e =
      record {
        good = goes_on x rest p.good e;
        distinct = (e, p.distinct);
        inside = (below x rest p.good, p.inside);
        chain = (related x rest p.good, p.chain);
      }

  -- a path that n nodes are on meets itself
  met_by : (x : ℕ) (rest : List ℕ) → Path x rest → n ≤ length (x ∷ rest) → has (next (x ∷ rest)) (x ∷ rest) ≡ true
  met_by x rest p l = go (has? (next (x ∷ rest)) (x ∷ rest))
    where
      go : (has (next (x ∷ rest)) (x ∷ rest) ≡ true) ⊎ (has (next (x ∷ rest)) (x ∷ rest) ≡ false) → has (next (x ∷ rest)) (x ∷ rest) ≡ true
      go (inl e) = e
      go (inr e) = absurd (omega (arith, few n (next (x ∷ rest) ∷ x ∷ rest) (grown x rest p e).distinct (grown x rest p e).inside))

  meets : (d : ℕ) (x : ℕ) (rest : List ℕ) → Path x rest → n ≤ length (x ∷ rest) + d → Met (walk next d (x ∷ rest))
  unfolding walk
  meets zero x rest p l = record { x = x; rest = rest; path = p; again = met_by x rest p (omega arith); is = refl }
  meets (suc d) x rest p l =
      pick-by Met (has (next (x ∷ rest)) (x ∷ rest)) (up_to (next (x ∷ rest)) (x ∷ rest)) (walk next d (next (x ∷ rest) ∷ x ∷ rest))
      (λ e. record { x = x; rest = rest; path = p; again = e; is = refl })
      (λ e. meets d (next (x ∷ rest)) (x ∷ rest) (grown x rest p e) (omega arith))

  -- the walk where its next node is on the path, and where it is not
  ended : (k : ℕ) (path : List ℕ) → has (next path) path ≡ true → walk next k path ≡ up_to (next path) path
  unfolding walk
  ended zero path e = refl
  ended (suc k) path e = rw e

  goes : (k : ℕ) (path : List ℕ) → has (next path) path ≡ false → walk next (suc k) path ≡ walk next k (next path ∷ path)
  unfolding walk
  goes k path e = rw e

  -- any larger bound gives the same: the walk ends by itself
  enough : (more d : ℕ) (x : ℕ) (rest : List ℕ) → Path x rest → n ≤ length (x ∷ rest) + d → walk next (d + more) (x ∷ rest) ≡ walk next d (x ∷ rest)
  enough more zero x rest p l =
      let e = met_by x rest p (omega arith) in
      ended (0 + more) (x ∷ rest) e ∙ sym (ended 0 (x ∷ rest) e)
  enough more (suc d) x rest p l = by (has? (next (x ∷ rest)) (x ∷ rest)) (λ e. enough more d (next (x ∷ rest)) (x ∷ rest) (grown x rest p e) (omega arith))
    where
      further : suc d + more ≡ suc (d + more)
      further = omega arith

      by : (has (next (x ∷ rest)) (x ∷ rest) ≡ true) ⊎ (has (next (x ∷ rest)) (x ∷ rest) ≡ false) →
          (has (next (x ∷ rest)) (x ∷ rest) ≡ false → walk next (d + more) (next (x ∷ rest) ∷ x ∷ rest) ≡ walk next d (next (x ∷ rest) ∷ x ∷ rest)) →
          walk next (suc d + more) (x ∷ rest) ≡ walk next (suc d) (x ∷ rest)
      by (inl e) f = ended (suc d + more) (x ∷ rest) e ∙ sym (ended (suc d) (x ∷ rest) e)
      by (inr e) f = ap (λ (k : ℕ). walk next k (x ∷ rest)) further ∙ goes (d + more) (x ∷ rest) e ∙ f e ∙ sym (goes d (x ∷ rest) e)

  pub walk_enough : (more d x : ℕ) → Good (x ∷ []) → x < n → n ≤ suc d → walk next (d + more) (x ∷ []) ≡ walk next d (x ∷ [])
  walk_enough more d x g h l = enough more d x [] (record { good = g; distinct = (refl, tt); inside = (h, tt); chain = tt }) (omega arith)

  met_cycle : (r : List ℕ) → Met r → Cycle E r
  met_cycle r m =
      subst (Cycle E) (sym m.is)
      (record {
        distinct = up-distinct (next (m.x ∷ m.rest)) (m.x ∷ m.rest) m.path.distinct;
        closed = up_around E (next (m.x ∷ m.rest)) m.x (related m.x m.rest m.path.good) m.x m.rest m.path.chain m.again;
      })

  -- from one good node: distinct nodes that close a cycle
  pub walk_cycle : (d x : ℕ) → Good (x ∷ []) → x < n → n ≤ suc d → Cycle E (walk next d (x ∷ []))
  walk_cycle d x g h l = met_cycle (walk next d (x ∷ [])) (meets d x [] (record { good = g; distinct = (refl, tt); inside = (h, tt); chain = tt }) (omega arith))

-- ---- no cycle where a rank rises along each step
module _ (E : ℕ → ℕ → Type 0) (rank : ℕ → ℕ) (rises : (x y : ℕ) → E x y → rank x < rank y) where
  around_rises : (x : ℕ) (xs : List ℕ) (z : ℕ) → Around E (x ∷ xs) z → rank x < rank z
  around_rises x [] z a = rises x z a
  around_rises x (y ∷ ys) z a = omega (arith, rises x y a.0, around_rises y ys z a.1)

  pub no-cycle : (cs : List ℕ) → Cycle E cs → ⊥
  no-cycle [] c = c.closed
  no-cycle (x ∷ xs) c = omega (arith, around_rises x xs x c.closed)

-- ---- a cycle of another relation
module _ (E F : ℕ → ℕ → Type 0) (f : (x y : ℕ) → E x y → F x y) where
  around_by : (x : ℕ) (xs : List ℕ) (z : ℕ) → Around E (x ∷ xs) z → Around F (x ∷ xs) z
  around_by x [] z a = f x z a
  around_by x (y ∷ ys) z a = (f x y a.0, around_by y ys z a.1)

  pub cycle-by : (cs : List ℕ) → Cycle E cs → Cycle F cs
  cycle-by [] c = absurd c.closed
  cycle-by (x ∷ xs) c = record { distinct = c.distinct; closed = around_by x xs x c.closed }

-- what holds of each node that a step begins at holds of all of a cycle
module _ (E : ℕ → ℕ → Type 0) (P : ℕ → Type 0) (f : (x y : ℕ) → E x y → P x) where
  around_all : (x : ℕ) (xs : List ℕ) (z : ℕ) → Around E (x ∷ xs) z → All P (x ∷ xs)
  around_all x [] z a = (f x z a, tt)
  around_all x (y ∷ ys) z a = (f x y a.0, around_all y ys z a.1)

  pub cycle-all : (cs : List ℕ) → Cycle E cs → All P cs
  cycle-all [] c = tt
  cycle-all (x ∷ xs) c = around_all x xs x c.closed
