-- Laws on the tables and the path, as lists.
-- Assumes nothing.
use Prim.Native.Nat.{ℕ, zero, suc, ◌+◌, ◌≤◌, ◌<◌}
use native.Mathlib.Omega.{arith}
use native.Mathlib.Numerals.{add-one}
use native.Mathlib.Nat.{le_of_suc-le-suc, not-suc-le-zero}
use mathlib.Core.Path.{◌≡◌, refl, ap, sym, ◌∙◌}
use mathlib.Core.Bool.{Bool, true, false, cond, ◌&&◌, ◌||◌}
use mathlib.Core.List.{List, [], ◌∷◌, ◌++◌, map, map-append}
use lib.Dec.{eqb, ltb, eqb-zero-suc, eqb-suc-suc}
use lib.ListN.{length, get_or, set, take, drop, drop_of_length-le}
use lib.Seq.{drop-cons, get_or-take, length-take-le, take-set-lt, take-suc, take-suc-set, take_all}
use borrow.Author.Tests.{eq-eqb, ne_eqb, lt-ltb}
use Rattle.std.specs.List.{list_any, filter}
use Rattle.std.proofs.lemmas.List.{length-take, take_more_set}
use Rattle.laws.specs.Lists.{keep, one, tally}
use Rattle.laws.proofs.Lists.{get_d_tabulate}
use Rattle.tables.specs.Tables.{pushed, pushed_if}
use Rattle.graph.specs.declared.Item.{Item}
use Rattle.graph.specs.Items.{Items}
use Rattle.graph.specs.declared.reach.Seen.{Seen}
use Rattle.graph.specs.declared.reach.Seen.TheVariants.{Explored}
use Rattle.graph.specs.Cutting.{seen_at, unseen?}
use Rattle.graph.specs.Graph.{Edge, Line, node_at, bare, is_mark, has_marked, leads_to}
use Rattle.graph.specs.code.Tables.{owned, mark_of, edge_of, items_of, graph_from, node_of}
use Rattle.graph.specs.Outcome.{no_item}
use Rattle.graph.specs.code.Path.{unseens}

tally-both : (b : Bool) {m n : ℕ} → suc m ≡ n → suc (tally b m) ≡ tally b n
tally-both true e = ap suc e
tally-both false e = e

tally_le : (b : Bool) {m n : ℕ} → m ≤ n → tally b m ≤ suc n
tally_le true h = omega arith
tally_le false h = omega arith

pub unseens_le : (v : List Seen) → unseens v ≤ length v
unfolding unseens
unseens_le [] = omega arith
unseens_le (x ∷ xs) = tally_le (unseen? x) (unseens_le xs)

-- one node less is Unseen
pub unseens-set : (v : List Seen) (q : ℕ) (y : Seen) → unseen? y ≡ false → q < length v → unseen? (seen_at v q) ≡ true → suc (unseens (set v q y)) ≡ unseens v
unfolding unseens
unseens-set [] q y n h e = absurd (not-suc-le-zero h)
unseens-set (x ∷ xs) zero y n h e = rw (n, e)
unseens-set (x ∷ xs) (suc q) y n h e = tally-both (unseen? x) (unseens-set xs q y n (le_of_suc-le-suc h) e)

tally-less : (b : Bool) {m n : ℕ} → m ≤ n → tally b m ≤ tally b n
tally-less true h = omega arith
tally-less false h = h

tally-at-least : (b : Bool) (m : ℕ) → m ≤ tally b m
tally-at-least true m = omega arith
tally-at-least false m = omega arith

pub unseens_fall : (v : List Seen) (q : ℕ) (y : Seen) → unseen? y ≡ false → unseens (set v q y) ≤ unseens v
unfolding unseens
unseens_fall [] q y n = omega arith
unseens_fall (x ∷ xs) zero y n = rw n (tally-at-least (unseen? x) (unseens xs))
unseens_fall (x ∷ xs) (suc q) y n = tally-less (unseen? x) (unseens_fall xs q y n)

pub unseens-append : (v : List Seen) → unseens (v ++ (Explored ∷ Explored ∷ [])) ≡ unseens v
unfolding unseens
unseens-append [] = refl
unseens-append (x ∷ xs) = ap (tally (unseen? x)) (unseens-append xs)

-- the rest of a node's records from k on, where record k is another's, and where it is its own
module _ (c k : ℕ) (xs : List Item) (h : k < length xs) where
  pub owned-other : ((get_or xs k no_item).owner ≡ c → ⊥) → owned c (drop k xs) ≡ owned c (drop (suc k) xs)
  owned-other e = rw (drop-cons xs k no_item h, ne_eqb (get_or xs k no_item).owner c e)

  pub owned-own : (get_or xs k no_item).owner ≡ c → owned c (drop k xs) ≡ edge_of (get_or xs k no_item) ∷ owned c (drop (suc k) xs)
  owned-own e = rw (drop-cons xs k no_item h, eq-eqb (get_or xs k no_item).owner c e)

pub owned-end : (c k : ℕ) (xs : List Item) → length xs ≤ k → owned c (drop k xs) ≡ []
owned-end c k xs h = rw (drop_of_length-le xs h)

-- node p of the graph
pub node-graph : (n : ℕ) (ls : List (List Line)) (xs ys : List Item) (p : ℕ) → p < n → node_at (graph_from n ls xs ys) p ≡ node_of ls xs ys p
unfolding graph_from
node-graph n ls xs ys p h = get_d_tabulate (node_of ls xs ys) 0 n p bare h ∙ ap (node_of ls xs ys) (omega arith)

-- a mark held as its number plus 1
mark-is : (m i : ℕ) → is_mark (mark_of m) i ≡ eqb m (i + 1)
mark-is zero i = rw add-one (sym (eqb-zero-suc i))
mark-is (suc j) i = rw add-one (sym (eqb-suc-suc j i))

keep-marked : (b : Bool) (r : Item) (es : List Edge) (p i : ℕ) →
    has_marked (keep b (edge_of r) es) p i ≡ (b && (eqb r.to p && eqb r.mark (i + 1))) || has_marked es p i
keep-marked true r es p i = ap (λ (z : Bool). (eqb r.to p && z) || has_marked es p i) (mark-is r.mark i)
keep-marked false r es p i = refl

-- ---- what a chain over the records answers
pub any-marked : (q p i : ℕ) (xs : List Item) → list_any (λ (e : Item). eqb e.owner q && (eqb e.to p && eqb e.mark (i + 1))) xs ≡ has_marked (owned q xs) p i
any-marked q p i [] = refl
any-marked q p i (x ∷ xs) = rw (any-marked q p i xs) (sym (keep-marked (eqb x.owner q) x (owned q xs) p i))

keep-leads : (b : Bool) (r : Item) (es : List Edge) (p : ℕ) → (b && eqb r.to p) || leads_to es p ≡ leads_to (keep b (edge_of r) es) p
keep-leads true r es p = refl
keep-leads false r es p = refl

pub any-leads : (q p : ℕ) (xs : List Item) → list_any (λ (e : Item). eqb e.owner q && eqb e.to p) xs ≡ leads_to (owned q xs) p
any-leads q p [] = refl
any-leads q p (x ∷ xs) = rw (any-leads q p xs) (keep-leads (eqb x.owner q) x (owned q xs) p)

keep-count : (b : Bool) (r : Item) (xs : List Item) (es : List Edge) → length xs ≡ length es → length (cond b (r ∷ xs) xs) ≡ length (keep b (edge_of r) es)
keep-count true r xs es e = ap suc e
keep-count false r xs es e = e

pub filter-owned : (q : ℕ) (xs : List Item) → length (filter (λ (e : Item). eqb e.owner q) xs) ≡ length (owned q xs)
filter-owned q [] = refl
filter-owned q (x ∷ xs) = keep-count (eqb x.owner q) x (filter (λ (e : Item). eqb e.owner q) xs) (owned q xs) (filter-owned q xs)

pub take_le : {A : Type 0} (n : ℕ) (xs : List A) → length (take n xs) ≤ n
take_le n xs = omega (arith, length-take n xs)

-- the records of a table
pub table_le : (t : Items) → length (items_of t) ≤ t.count
table_le t = take_le t.count t.items

module _ (t : Items) (long : length t.items ≡ 88) (room : t.count ≤ 88) where
  pub table-size : length (items_of t) ≡ t.count
  table-size = length-take-le t.count t.items (omega arith)

  -- one record more, and a store within the first records
  pub pushed-is : t.count < 88 → (x : Item) (b : Bool) → b ≡ ltb t.count 88 → (r : Items) → r ≡ pushed_if b t x → (items_of r ≡ items_of t ++ one x) × (r.count ≡ t.count + 1)
  pushed-is h x b eb r e =
      let z : r ≡ pushed t x = e ∙ ap (λ (i : Bool). pushed_if i t x) (eb ∙ lt-ltb t.count 88 h) in
      (rw (z, add-one) (take-suc-set t.items t.count x (omega arith)), ap (λ (u : Items). u.count) z)

  pub stored-is : (k : ℕ) → k < t.count → (f : Item → Item) → take t.count (set t.items k (f (get_or t.items k no_item))) ≡ set (items_of t) k (f (get_or (items_of t) k no_item))
  stored-is k h f = rw (get_or-take t.count t.items k no_item h) (take-set-lt t.count t.items k (f (get_or t.items k no_item)) h)

  pub table_at : (k : ℕ) → k < t.count → get_or (items_of t) k no_item ≡ get_or t.items k no_item
  table_at k h = get_or-take t.count t.items k no_item h

-- ---- a loop that takes what f makes of each record
pub made-more : {A B : Type 0} (f : A → B) (xs : List A) (d : A) (k : ℕ) → k < length xs → map f (take k xs) ++ one (f (get_or xs k d)) ≡ map f (take (k + 1) xs)
made-more f xs d k h = sym (map-append f (take k xs) (get_or xs k d ∷ [])) ∙ ap (map f) (sym (take-suc xs k d h)) ∙ rw add-one

-- a table with one record more, by `push`
pub push-items : (t : Items) (x : Item) (room : Bool) (r : Items) → room ≡ ltb t.count 88 → r ≡ pushed_if room t x → length t.items ≡ 88 → t.count < 88 →
    (items_of r ≡ items_of t ++ one x) × (r.count ≡ t.count + 1)
push-items t x room r b e long h =
    let whole : r ≡ pushed t x = rw (b, lt-ltb t.count 88 h) at e in
    let inside : t.count < length t.items = omega arith in
    rw whole (take_more_set t.items t.count x inside, refl)

-- where fewer than 88 records are held
pub push-held : (t : Items) (x : Item) (room : Bool) (r : Items) → room ≡ ltb t.count 88 → r ≡ pushed_if room t x → length t.items ≡ 88 → length (items_of t) < 88 → t.count ≤ 88 →
    (items_of r ≡ items_of t ++ one x) × (r.count ≤ 88)
push-held t x room r b e long h fits =
    let left : t.count < 88 = omega (arith, table-size t long fits) in
    let m = push-items t x room r b e long left in
    (m.0, omega (arith, m.1))

-- record k of a table is another
pub put-item : (t : Items) (k : ℕ) (x : Item) → k < t.count → items_of (record { items = set t.items k x; count = t.count }) ≡ set (items_of t) k x
put-item t k x h = take-set-lt t.count t.items k x h

-- ---- a loop that stores what f makes of each record
module _ {A B : Type 0} (f : A → B) (xs : List A) (l : List B) where
  pub stored_more : (d : A) (k : ℕ) → k < length l → k < length xs → take k l ≡ map f (take k xs) → take (k + 1) (set l k (f (get_or xs k d))) ≡ map f (take (k + 1) xs)
  stored_more d k h i e =
      ap (λ (m : ℕ). take m (set l k (f (get_or xs k d)))) (add-one k) ∙ take-suc-set l k (f (get_or xs k d)) h ∙ rw e (made-more f xs d k i)

  pub stored-all : (k : ℕ) → length l ≡ k → length xs ≡ k → take k l ≡ map f (take k xs) → l ≡ map f xs
  stored-all k h i e =
      let a : length l ≤ k = omega arith in
      let b : length xs ≤ k = omega arith in
      sym (take_all k l a) ∙ e ∙ ap (map f) (take_all k xs b)
