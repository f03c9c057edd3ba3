-- The sinks of one node gain their sources, where the code takes them with their numbers: what each turn keeps.
-- Assumes nothing.
use Prim.Native.Nat.{ℕ, zero, suc, ◌+◌, ◌-◌, ◌≤◌, ◌<◌}
use native.Mathlib.Omega.{arith}
use native.Mathlib.Numerals.{add-one}
use mathlib.Core.Path.{◌≡◌, refl, ap, sym, ◌∙◌}
use mathlib.Core.Bool.{Bool, true, false, cond}
use mathlib.Core.List.{List, [], ◌∷◌}
use lib.Dec.{eqb}
use lib.ListN.{length, get_or, take, drop, drop_of_length-le}
use lib.Seq.{drop-cons}
use borrow.Author.Tests.{eqb-true, eqb-false}
use Rattle.std.specs.Prelude.{Option, None, Some}
use Rattle.std.specs.List.{filter, enumerate_from}
use Rattle.std.specs.Iterator.{AlwaysYields}
use Rattle.std.proofs.lemmas.Iterator.{YieldsList}
use Rattle.graph.specs.declared.Item.{Item}
use Rattle.graph.specs.Items.{Items}
use Rattle.graph.specs.declared.Tables.{Tables}
use Rattle.graph.specs.code.Tables.{owned, source_of, held, gained_in, items_of, Fit, SinksDone}
use Rattle.graph.specs.Outcome.{no_item}
use Rattle.graph.proofs.Lefts.{Left, left_end, left_other, left-own}

abbrev pub own : ℕ → List Item → List Item
own p = filter (λ (x : Item). eqb x.owner p)

-- Before a turn, with the table s of sources: the iterator gives the sinks of p from record k on, the first of them number i.
pub record Turn {S A : Type 0} (steps : S → Option A → S → Type 0) (v : A → ℕ × Item) (g : ℕ) (t : Tables) (p : ℕ) (s : Items) (it : S) : Type 0 where
  pub i : ℕ
  pub k : ℕ
  pub left : Left g t p s i k
  pub ahead : AlwaysYields steps v it (enumerate_from i (own p (drop k (items_of t.sinks))))

-- the next sink of p: record k, e, and the rest of them
record Next (g : ℕ) (t : Tables) (p : ℕ) (s : Items) (i : ℕ) (e : Item) (rest : List Item) : Type 0 where
  k : ℕ
  left : Left g t p s i k
  inside : k < length (items_of t.sinks)
  is : get_or (items_of t.sinks) k no_item ≡ e
  owner : e.owner ≡ p
  more : own p (drop (suc k) (items_of t.sinks)) ≡ rest

some-none : {A : Type 0} (x : A) (xs : List A) → x ∷ xs ≡ [] → ⊥
some-none x xs f = omega (arith, ap length f)

module _ (g : ℕ) (t : Tables) (b : Fit g t) (p : ℕ) (hp : p < t.n) (s : Items) (i : ℕ) where
  abbrev ys : List Item
  ys = items_of t.sinks

  -- record k is the next, or another's, which is passed over
  next-by : (k : ℕ) → k < length ys → Left g t p s i k → (e : Item) (rest : List Item) → (Left g t p s i (k + 1) → own p (drop (k + 1) ys) ≡ e ∷ rest → Next g t p s i e rest) →
      (c : Bool) → eqb (get_or ys k no_item).owner p ≡ c → cond c (get_or ys k no_item ∷ own p (drop (suc k) ys)) (own p (drop (suc k) ys)) ≡ e ∷ rest → Next g t p s i e rest
  next-by k h l e rest later true o f =
      let is : get_or ys k no_item ≡ e = ap (λ xs. get_or xs 0 no_item) f in
      record { k = k; left = l; inside = h; is = is; owner = ap (λ (x : Item). x.owner) (sym is) ∙ eqb-true (get_or ys k no_item).owner p o; more = ap (drop 1) f }
  next-by k h l e rest later false o f = later (left_other g t b p hp s i k l h (eqb-false (get_or ys k no_item).owner p o)) (rw add-one f)

  next-sink : (d k : ℕ) → length ys - k ≡ d → Left g t p s i k → (e : Item) (rest : List Item) → own p (drop k ys) ≡ e ∷ rest → Next g t p s i e rest
  next-sink zero k h l e rest f = absurd (some-none e rest (sym f ∙ ap (own p) (drop_of_length-le ys (omega (arith, h)))))
  next-sink (suc d) k h l e rest f =
      next-by k (omega (arith, h)) l e rest (λ m. next-sink d (k + 1) (omega (arith, h)) m e rest) (eqb (get_or ys k no_item).owner p) refl
      (ap (own p) (sym (drop-cons ys k no_item (omega (arith, h)))) ∙ f)

  -- at the end the others are passed over too
  abbrev Last : Type 0
  Last = (k : ℕ) × (length ys ≤ k) × Left g t p s i k

  last-by : (k : ℕ) → k < length ys → Left g t p s i k → (Left g t p s i (k + 1) → own p (drop (k + 1) ys) ≡ [] → Last) →
      (c : Bool) → eqb (get_or ys k no_item).owner p ≡ c → cond c (get_or ys k no_item ∷ own p (drop (suc k) ys)) (own p (drop (suc k) ys)) ≡ [] → Last
  last-by k h l later true o f = absurd (some-none _ _ f)
  last-by k h l later false o f = later (left_other g t b p hp s i k l h (eqb-false (get_or ys k no_item).owner p o)) (rw add-one f)

  no-sink : (d k : ℕ) → length ys - k ≡ d → Left g t p s i k → own p (drop k ys) ≡ [] → Last
  no-sink zero k h l f = (k, omega (arith, h), l)
  no-sink (suc d) k h l f =
      last-by k (omega (arith, h)) l (no-sink d (k + 1) (omega (arith, h))) (eqb (get_or ys k no_item).owner p) refl
      (ap (own p) (sym (drop-cons ys k no_item (omega (arith, h)))) ∙ f)

-- what one call of `next` says
module _ {S A : Type 0} (steps : S → Option A → S → Type 0) (v : A → ℕ × Item) (it on : S) where
  came : (i : ℕ) (zs : List Item) → AlwaysYields steps v it (enumerate_from i zs) → (x : A) → steps it (Some x) on →
      (rest : List Item) × (zs ≡ (v x).1 ∷ rest) × ((v x).0 ≡ i) × AlwaysYields steps v on (enumerate_from (i + 1) rest)
  came i [] a x c = absurd (a x on c)
  came i (z ∷ zs) a x c = let n = a.1 x on c in (zs, ap (λ (q : ℕ × Item). q.1 ∷ zs) (sym n.0), ap (λ (q : ℕ × Item). q.0) n.0, n.1)

  gone : (i : ℕ) (zs : List Item) → AlwaysYields steps v it (enumerate_from i zs) → steps it None on → zs ≡ []
  gone i [] a c = refl
  gone i (z ∷ zs) a c = absurd (a.0 on c)

module _ {S A : Type 0} (steps : S → Option A → S → Type 0) (v : A → ℕ × Item) (g : ℕ) (t : Tables) (b : Fit g t) (p : ℕ) (hp : p < t.n) where
  pub turn-first : (it : S) → YieldsList steps v it (enumerate_from 0 (own p (items_of t.sinks))) → Turn steps v g t p t.sources it
  turn-first it y =
      record {
        i = 0;
        k = 0;
        left =
            record {
              number = refl;
              room = omega arith;
              owners = b.linked.source_owners;
              sinked = b.sinked;
              paired = b.paired;
              same = refl;
              rest = refl;
            };
        ahead = y.runs;
      }

  module _ (s : Items) (it : S) (l : Turn steps v g t p s it) (on : S) where
    abbrev zs : List Item
    zs = items_of t.sinks

    pub turn_end : steps it None on → t.sources.count + length (owned p (take g zs)) ≤ 64 → SinksDone g t p (record { n = t.n; cuts = t.cuts; names = t.names; lines = t.lines; sources = s; sinks = t.sinks })
    turn_end c room =
        let past = no-sink g t b p hp s l.i (length zs - l.k) l.k refl l.left (gone steps v it on l.i (own p (drop l.k zs)) l.ahead c) in
        left_end g t b p hp s l.i past.0 past.2 room past.1

    module _ (x : A) (c : steps it (Some x) on) where
      after : (rest : List Item) × (own p (drop l.k zs) ≡ (v x).1 ∷ rest) × ((v x).0 ≡ l.i) × AlwaysYields steps v on (enumerate_from (l.i + 1) rest)
      after = came steps v it on l.i (own p (drop l.k zs)) l.ahead x c

      next : Next g t p s l.i (v x).1 after.0
      next = next-sink g t b p hp s l.i (length zs - l.k) l.k refl l.left (v x).1 after.0 after.1

      pub turn-next : (r : Items) → items_of r ≡ gained_in t.n (items_of s) (source_of p (v x).0 (v x).1.to) → r.count ≤ s.count + 1 → (held (source_of p (v x).0 (v x).1.to) (items_of s) ≡ true → r.count ≡ s.count) → Turn steps v g t p r on
      turn-next r f m kept =
          record {
            i = l.i + 1;
            k = next.k + 1;
            left = left-own g t b p hp s l.i next.k next.left next.inside (ap (λ (y : Item). y.owner) next.is ∙ next.owner) r (rw (next.is, ← after.2) f) m (rw (next.is, ← after.2) kept);
            ahead = rw (add-one next.k, next.more) after.3;
          }
