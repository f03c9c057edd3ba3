-- What stands in a pair table after an addition, and after a list of additions: the sums of a pair do not depend on the order of insertion.
-- Assumes nothing.
use Prim.Native.Nat.{ℕ, ◌+◌}
use native.Mathlib.Omega.{arith}
use mathlib.Core.Logic.{◌⊎◌, inl, inr}
use mathlib.Core.Path.{◌≡◌, refl, ap, sym, ◌∙◌}
use mathlib.Core.Bool.{Bool, true, false, cond, ◌||◌, ◌&&◌}
use mathlib.Core.List.{List, [], ◌∷◌, ◌++◌}
use lib.Dec.{eqb}
use borrow.Author.Tests.{eq-eqb, eqb-true}
use Rattle.laws.proofs.Tests.{or_assoc, pick}
use Rattle.laws.specs.Lists.{All}
use Rattle.order.specs.Weights.{Pair, Table, of, stands, more, raise, add, before_of, after_of, apply, applied}

-- ---- tests
pub true_false : {A : Type 0} → true ≡ false → A
true_false e = absurd (let z : ◌≡◌ {A = ℕ} 0 1 = cc in omega arith)

pub and_left : (a b : Bool) → (a && b) ≡ true → a ≡ true
and_left true b e = refl
and_left false b e = e

pub and_right : (a b : Bool) → (a && b) ≡ true → b ≡ true
and_right true b e = e
and_right false b e = true_false (sym e)

pub of-smaller : (a b : ℕ) (e : Pair) → of a b e ≡ true → e.smaller ≡ a
of-smaller a b e h = eqb-true e.smaller a (and_left (eqb e.smaller a) (eqb e.larger b) h)

pub of-larger : (a b : ℕ) (e : Pair) → of a b e ≡ true → e.larger ≡ b
of-larger a b e h = eqb-true e.larger b (and_right (eqb e.smaller a) (eqb e.larger b) h)

pub of-here : (a b : ℕ) (e : Pair) → e.smaller ≡ a → e.larger ≡ b → of a b e ≡ true
of-here a b e p q = rw (eq-eqb e.smaller a p, eq-eqb e.larger b q)

-- ---- which pairs stand
module _ (a b c d x y : ℕ) where
  keep-of : (e : Pair) (t : Bool) → of a b (cond t (more x y e) e) ≡ of a b e
  keep-of e true = refl
  keep-of e false = refl

  pub stands-raise : (t : Table) → stands a b (raise c d x y t) ≡ stands a b t
  stands-raise [] = refl
  stands-raise (e ∷ es) = cc (keep-of e (of c d e), stands-raise es)

or_none : (a : Bool) → (a || false) ≡ a
or_none true = refl
or_none false = refl

pub stands-end : (a b : ℕ) (t : Table) (e : Pair) → stands a b (t ++ (e ∷ [])) ≡ stands a b t || of a b e
stands-end a b [] e = or_none (of a b e)
stands-end a b (f ∷ fs) e = ap (λ (z : Bool). of a b f || z) (stands-end a b fs e) ∙ or_assoc (of a b f) (stands a b fs) (of a b e)

-- ---- the sum w of a pair, its before or its after
abbrev pub value_of : (Pair → ℕ) → ℕ → ℕ → Table → ℕ
value_of w a b [] = 0
value_of w a b (e ∷ es) = cond (of a b e) (w e) (value_of w a b es)

pub before-value : (a b : ℕ) (t : Table) → before_of a b t ≡ value_of (λ e. e.before) a b t
before-value a b [] = refl
before-value a b (e ∷ es) = ap (cond (of a b e) e.before) (before-value a b es)

pub after-value : (a b : ℕ) (t : Table) → after_of a b t ≡ value_of (λ e. e.after) a b t
after-value a b [] = refl
after-value a b (e ∷ es) = ap (cond (of a b e) e.after) (after-value a b es)

missing_cons : (b c : Bool) (x v : ℕ) → (c ≡ false → v ≡ 0) → (b || c) ≡ false → cond b x v ≡ 0
missing_cons true c x v f e = true_false e
missing_cons false c x v f e = f e

pub value-missing : (w : Pair → ℕ) (a b : ℕ) (t : Table) → stands a b t ≡ false → value_of w a b t ≡ 0
value-missing w a b [] h = refl
value-missing w a b (e ∷ es) h = missing_cons (of a b e) (stands a b es) (w e) (value_of w a b es) (value-missing w a b es) h

module _ (a b c d : ℕ) (other : (a ≡ c) × (b ≡ d) → ⊥) where
  -- no pair is that of a and b and that of c and d
  pub apart : (e : Pair) → of c d e ≡ true → of a b e ≡ false
  apart e h = go (of a b e) refl
    where
      go : (t : Bool) → of a b e ≡ t → t ≡ false
      go true k = absurd (other (sym (of-smaller a b e k) ∙ of-smaller c d e h, sym (of-larger a b e k) ∙ of-larger c d e h))
      go false k = refl

-- an addition has x before and y after, of which w' picks the one that w reads
module _ (w : Pair → ℕ) (w' : ℕ → ℕ → ℕ) (grows : (x y : ℕ) (e : Pair) → w (more x y e) ≡ w e + w' x y) where
  same_cons : (a b x y : ℕ) (e : Pair) (t : Bool) (v u : ℕ) → of a b e ≡ t → (stands : Bool) → (t || stands) ≡ true → (stands ≡ true → v ≡ u + w' x y) →
      cond (of a b (cond t (more x y e) e)) (w (cond t (more x y e) e)) v ≡ cond t (w e) u + w' x y
  same_cons a b x y e true v u o s h f = rw o (grows x y e)
  same_cons a b x y e false v u o s h f = rw o (f h)

  pub value-raise : (a b x y : ℕ) (t : Table) → stands a b t ≡ true → value_of w a b (raise a b x y t) ≡ value_of w a b t + w' x y
  value-raise a b x y [] h = true_false (sym h)
  value-raise a b x y (e ∷ es) h = same_cons a b x y e (of a b e) (value_of w a b (raise a b x y es)) (value_of w a b es) refl (stands a b es) h (value-raise a b x y es)

  other_cons : (a b x y : ℕ) (e : Pair) (t : Bool) (v u : ℕ) → (t ≡ true → of a b e ≡ false) → v ≡ u →
      cond (of a b (cond t (more x y e) e)) (w (cond t (more x y e) e)) v ≡ cond (of a b e) (w e) u
  other_cons a b x y e true v u f h = rw (f refl) h
  other_cons a b x y e false v u f h = ap (cond (of a b e) (w e)) h

  pub value-other : (a b c d x y : ℕ) → ((a ≡ c) × (b ≡ d) → ⊥) → (t : Table) → value_of w a b (raise c d x y t) ≡ value_of w a b t
  value-other a b c d x y o [] = refl
  value-other a b c d x y o (e ∷ es) =
      other_cons a b x y e (of c d e) (value_of w a b (raise c d x y es)) (value_of w a b es) (apart a b c d o e) (value-other a b c d x y o es)

  end-at_cons : (t s : Bool) (f v e : ℕ) → (s ≡ false → v ≡ e) → (t || s) ≡ false → cond t f v ≡ e
  end-at_cons true s f v e h q = true_false q
  end-at_cons false s f v e h q = h q

  pub end-at : (a b : ℕ) (e : Pair) (t : Table) → stands a b t ≡ false → value_of w a b (t ++ (e ∷ [])) ≡ cond (of a b e) (w e) 0
  end-at a b e [] h = refl
  end-at a b e (f ∷ fs) h = end-at_cons (of a b f) (stands a b fs) (w f) (value_of w a b (fs ++ (e ∷ []))) (cond (of a b e) (w e) 0) (end-at a b e fs) h

  pub end-other : (a b : ℕ) (e : Pair) (t : Table) → of a b e ≡ false → value_of w a b (t ++ (e ∷ [])) ≡ value_of w a b t
  end-other a b e [] h = rw h
  end-other a b e (f ∷ fs) h = ap (cond (of a b f) (w f)) (end-other a b e fs h)

-- the pair of a and b with these sums
abbrev pub pair : ℕ → ℕ → ℕ → ℕ → Bool → Pair
pair a b x y flag = record { smaller = a; larger = b; before = x; after = y; flag = flag }

-- the sum of w over those of the pair of a and b
abbrev pub sum_of : (Pair → ℕ) → ℕ → ℕ → List Pair → ℕ
sum_of w a b [] = 0
sum_of w a b (d ∷ ds) = cond (of a b d) (w d + sum_of w a b ds) (sum_of w a b ds)

-- each addition to the pair of a and b may make it; none of them may
abbrev pub Made : ℕ → ℕ → List Pair → Type 0
Made a b ds = All (λ d. of a b d ≡ true → d.flag ≡ true) ds

abbrev pub Unmade : ℕ → ℕ → List Pair → Type 0
Unmade a b ds = All (λ d. of a b d ≡ true → d.flag ≡ false) ds

-- ---- an addition
module _ (a b x y : ℕ) (make flag : Bool) (t : Table) where
  add-stood : stands a b t ≡ true → add make flag a b x y t ≡ raise a b x y t
  add-stood h = rw h

  add-made : stands a b t ≡ false → make ≡ true → add make flag a b x y t ≡ t ++ (pair a b x y flag ∷ [])
  add-made h m = rw (h, m)

  pub add_dropped : stands a b t ≡ false → make ≡ false → add make flag a b x y t ≡ t
  add_dropped h m = rw (h, m)

pub of_other : (a b c d x y : ℕ) (flag : Bool) → ((a ≡ c) × (b ≡ d) → ⊥) → of a b (pair c d x y flag) ≡ false
of_other a b c d x y flag o = apart a b c d o (pair c d x y flag) (of-here c d (pair c d x y flag) refl refl)

pub stands-add : (a b x y : ℕ) (make flag : Bool) (t : Table) → (stands a b t ≡ true) ⊎ (make ≡ true) → stands a b (add make flag a b x y t) ≡ true
stands-add a b x y make flag t h = go (stands a b t) refl h
  where
    go : (s : Bool) → stands a b t ≡ s → (stands a b t ≡ true) ⊎ (make ≡ true) → stands a b (add make flag a b x y t) ≡ true
    go true e k = ap (stands a b) (add-stood a b x y make flag t e) ∙ stands-raise a b a b x y t ∙ e
    go false e (inl k) = true_false (sym k ∙ e)
    go false e (inr m) = ap (stands a b) (add-made a b x y make flag t e m) ∙ stands-end a b t (pair a b x y flag) ∙ rw (e, eq-eqb a a refl, eq-eqb b b refl)

pub stands-other : (a b c d x y : ℕ) (make flag : Bool) (t : Table) → ((a ≡ c) × (b ≡ d) → ⊥) → stands a b (add make flag c d x y t) ≡ stands a b t
stands-other a b c d x y make flag t o =
    pick (λ (u : Table). stands a b u ≡ stands a b t) (stands c d t) (raise c d x y t) (cond make (t ++ (pair c d x y flag ∷ [])) t)
    (stands-raise a b c d x y t)
    (pick (λ (u : Table). stands a b u ≡ stands a b t) make (t ++ (pair c d x y flag ∷ [])) t (stands-end a b t (pair c d x y flag) ∙ ap (λ (z : Bool). stands a b t || z) (of_other a b c d x y flag o) ∙ or_none (stands a b t)) refl)

module _
    (w : Pair → ℕ) (w' : ℕ → ℕ → ℕ) (grows : (x y : ℕ) (e : Pair) → w (more x y e) ≡ w e + w' x y)
    (fresh : (a b x y : ℕ) (flag : Bool) → w (pair a b x y flag) ≡ w' x y) (reads : (e : Pair) → w' e.before e.after ≡ w e) where
  pub value-add : (a b x y : ℕ) (make flag : Bool) (t : Table) → (stands a b t ≡ true) ⊎ (make ≡ true) → value_of w a b (add make flag a b x y t) ≡ value_of w a b t + w' x y
  value-add a b x y make flag t h = go (stands a b t) refl h
    where
      go : (s : Bool) → stands a b t ≡ s → (stands a b t ≡ true) ⊎ (make ≡ true) → value_of w a b (add make flag a b x y t) ≡ value_of w a b t + w' x y
      go true e k = ap (value_of w a b) (add-stood a b x y make flag t e) ∙ value-raise w w' grows a b x y t e
      go false e (inl k) = true_false (sym k ∙ e)
      go false e (inr m) =
          let z : value_of w a b t ≡ 0 = value-missing w a b t e in
          ap (value_of w a b) (add-made a b x y make flag t e m) ∙ end-at w w' grows a b (pair a b x y flag) t e
          ∙ rw (eq-eqb a a refl, eq-eqb b b refl) (fresh a b x y flag ∙ rw z (omega arith))

  pub value-add-other : (a b c d x y : ℕ) (make flag : Bool) (t : Table) → ((a ≡ c) × (b ≡ d) → ⊥) → value_of w a b (add make flag c d x y t) ≡ value_of w a b t
  value-add-other a b c d x y make flag t o =
      pick (λ (u : Table). value_of w a b u ≡ value_of w a b t) (stands c d t) (raise c d x y t) (cond make (t ++ (pair c d x y flag ∷ [])) t)
      (value-other w w' grows a b c d x y o t)
      (pick (λ (u : Table). value_of w a b u ≡ value_of w a b t) make (t ++ (pair c d x y flag ∷ [])) t (end-other w w' grows a b (pair c d x y flag) t (of_other a b c d x y flag o)) refl)

  -- a list of additions
  not_of : (a b : ℕ) (d : Pair) → of a b d ≡ false → (a ≡ d.smaller) × (b ≡ d.larger) → ⊥
  not_of a b d h e = true_false (sym (of-here a b d (sym e.0) (sym e.1)) ∙ h)

  pub applied-sum : (a b : ℕ) (ds : List Pair) (t : Table) → (stands a b t ≡ true) ⊎ Made a b ds → value_of w a b (applied t ds) ≡ value_of w a b t + sum_of w a b ds
  applied-sum a b [] t h = omega arith
  applied-sum a b (d ∷ ds) t h = go (of a b d) refl h (applied-sum a b ds (apply t d))
    where
      go : (o : Bool) → of a b d ≡ o → (stands a b t ≡ true) ⊎ Made a b (d ∷ ds) →
          ((stands a b (apply t d) ≡ true) ⊎ Made a b ds → value_of w a b (applied (apply t d) ds) ≡ value_of w a b (apply t d) + sum_of w a b ds) →
          value_of w a b (applied (apply t d) ds) ≡ value_of w a b t + cond o (w d + sum_of w a b ds) (sum_of w a b ds)
      go true e k rest =
          let s : (stands a b t ≡ true) ⊎ (d.flag ≡ true) = elim k [ inl q ↦ inl q | inr m ↦ inr (m.0 e) ] in
          let p : a ≡ d.smaller = sym (of-smaller a b d e) in
          let q : b ≡ d.larger = sym (of-larger a b d e) in
          let u : add d.flag false d.smaller d.larger d.before d.after t ≡ add d.flag false a b d.before d.after t = rw (← p, ← q) in
          let v : value_of w a b (apply t d) ≡ value_of w a b t + w' d.before d.after = ap (value_of w a b) u ∙ value-add a b d.before d.after d.flag false t s in
          let z : stands a b (apply t d) ≡ true = ap (stands a b) u ∙ stands-add a b d.before d.after d.flag false t s in
          omega (arith, rest (inl z), v, reads d)
      go false e k rest =
          let o = not_of a b d e in
          let v : value_of w a b (apply t d) ≡ value_of w a b t = value-add-other a b d.smaller d.larger d.before d.after d.flag false t o in
          let z : stands a b (apply t d) ≡ stands a b t = stands-other a b d.smaller d.larger d.before d.after d.flag false t o in
          let s : (stands a b (apply t d) ≡ true) ⊎ Made a b ds = elim k [ inl q ↦ inl (z ∙ q) | inr m ↦ inr m.1 ] in
          omega (arith, rest s, v)

  pub applied-missing : (a b : ℕ) (ds : List Pair) (t : Table) → stands a b t ≡ false → Unmade a b ds → stands a b (applied t ds) ≡ false
  applied-missing a b [] t h u = h
  applied-missing a b (d ∷ ds) t h u = applied-missing a b ds (apply t d) (go (of a b d) refl) u.1
    where
      go : (o : Bool) → of a b d ≡ o → stands a b (apply t d) ≡ false
      go true e =
          let p : a ≡ d.smaller = sym (of-smaller a b d e) in
          let q : b ≡ d.larger = sym (of-larger a b d e) in
          let k : stands d.smaller d.larger t ≡ false = rw (← p, ← q) h in
          ap (stands a b) (add_dropped d.smaller d.larger d.before d.after d.flag false t k (u.0 e)) ∙ h
      go false e = stands-other a b d.smaller d.larger d.before d.after d.flag false t (not_of a b d e) ∙ h
