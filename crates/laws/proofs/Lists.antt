-- Laws on lists.
-- Assumes nothing.
use Prim.Native.Nat.{ℕ, zero, suc, ◌+◌, ◌-◌, ◌≤◌, ◌<◌}
use native.Mathlib.Omega.{arith}
use native.Mathlib.Numerals.{add-one}
use native.Mathlib.Nat.{le_of_suc-le-suc, not-suc-le-zero}
use mathlib.Core.Path.{◌≡◌, refl, ap, sym, ◌∙◌}
use mathlib.Core.Bool.{Bool, true, false, ◌&&◌, false≢true}
use mathlib.Core.List.{List, [], ◌∷◌, ◌++◌, map, append_assoc, append-nil}
use lib.Dec.{eqb}
use lib.ListN.{length, get_or, set, take, drop, replicate, length-append, length-map, drop_of_length-le}
use lib.Seq.{get_or-set_same, get_or-set_other, get_or-take, drop-cons, length-take-le, sets, sets-eq, take-append_seam}
use borrow.Author.Tests.{eq-eqb, ne_eqb, eqb-true}
use Rattle.laws.specs.Bytes.{all_of, same}
use Rattle.laws.specs.Lists.{All, one, tabulate, keep, owned_by, joined, flat, padded, stack_of}

-- a count down is one more than the next
pub one_more : {A : Type 0} (f : ℕ → A) (left : ℕ) → 0 < left → f left ≡ f (suc (left - 1))
one_more f left h = let e : left ≡ suc (left - 1) = omega arith in ap f e

-- ---- lengths and elements
pub length-one : {A : Type 0} (xs : List A) (x : A) → length (xs ++ one x) ≡ length xs + 1
length-one xs x = length-append xs (one x)

-- the length of an array of structs, by that of their images
pub mapped_long : (A B : Type 0) (f : A → B) (l : List A) (n : ℕ) → length (map f l) ≡ n → length l ≡ n
mapped_long A B f l n e = sym (length-map l f) ∙ e

-- an element that is there, by any default
pub get_d_any : {A : Type 0} (xs : List A) (i : ℕ) (d e : A) → i < length xs → get_or xs i d ≡ get_or xs i e
get_d_any [] i d e h = absurd (not-suc-le-zero h)
get_d_any (x ∷ xs) zero d e h = refl
get_d_any (x ∷ xs) (suc i) d e h = get_d_any xs i d e (le_of_suc-le-suc h)

pub take-replicate : {A : Type 0} (n m : ℕ) (a : A) → n ≤ m → take n (replicate m a) ≡ replicate n a
take-replicate zero m a h = refl
take-replicate (suc n) zero a h = absurd (not-suc-le-zero h)
take-replicate (suc n) (suc m) a h = cc (take-replicate n m a (le_of_suc-le-suc h))

-- ---- each of the list
pub all_map : {A : Type 0} {P Q : A → Type 0} → ((x : A) → P x → Q x) → (xs : List A) → All P xs → All Q xs
all_map f [] a = tt
all_map f (x ∷ xs) a = (f x a.0, all_map f xs a.1)

pub all_join : {A : Type 0} (P : A → Type 0) (xs ys : List A) → All P xs → All P ys → All P (xs ++ ys)
all_join P [] ys a b = b
all_join P (x ∷ xs) ys a b = (a.0, all_join P xs ys a.1 b)

pub all_made : {A B : Type 0} (P : A → Type 0) (Q : B → Type 0) (f : A → B) → ((x : A) → P x → Q (f x)) → (xs : List A) → All P xs → All Q (map f xs)
all_made P Q f g [] a = tt
all_made P Q f g (x ∷ xs) a = (g x a.0, all_made P Q f g xs a.1)

-- ---- a table of a function
pub length-tabulate : {A : Type 0} (f : ℕ → A) (p k : ℕ) → length (tabulate f p k) ≡ k
length-tabulate f p zero = refl
length-tabulate f p (suc k) = ap suc (length-tabulate f (suc p) k)

pub get_d_tabulate : {A : Type 0} (f : ℕ → A) (p k i : ℕ) (d : A) → i < k → get_or (tabulate f p k) i d ≡ f (p + i)
get_d_tabulate f p zero i d h = absurd (not-suc-le-zero h)
get_d_tabulate f p (suc k) zero d h = ap f (omega arith)
get_d_tabulate f p (suc k) (suc i) d h = get_d_tabulate f (suc p) k i d (le_of_suc-le-suc h) ∙ ap f (omega arith)

pub tabulate_list : {A : Type 0} (z : A) (f : ℕ → A) (q : ℕ) (xs : List A) → ((i : ℕ) → i < length xs → f (q + i) ≡ get_or xs i z) → tabulate f q (length xs) ≡ xs
tabulate_list z f q [] h = refl
tabulate_list z f q (x ∷ xs) h =
    let e : q ≡ q + 0 = omega arith in
    cc (ap f e, h 0 (omega arith), tabulate_list z f (suc q) xs (λ i l. let d : suc q + i ≡ q + suc i = omega arith in ap f d ∙ h (suc i) (omega arith)))

module _ {A : Type 0} where
  pub tabulate-same : (f g : ℕ → A) (p k : ℕ) → ((m : ℕ) → p ≤ m → m < p + k → f m ≡ g m) → tabulate f p k ≡ tabulate g p k
  tabulate-same f g p zero e = refl
  tabulate-same f g p (suc k) e = cc (e p (omega arith) (omega arith), tabulate-same f g (suc p) k (λ m h l. e m (omega arith) (omega arith)))

  pub tabulate-snoc : (f : ℕ → A) (p k : ℕ) → tabulate f p (suc k) ≡ tabulate f p k ++ one (f (p + k))
  tabulate-snoc f p zero = let z : p ≡ p + 0 = omega arith in cc (ap f z)
  tabulate-snoc f p (suc k) = let z : suc p + k ≡ p + suc k = omega arith in cc (tabulate-snoc f (suc p) k, ap f z)

  -- one element of a table of values changes
  pub tabulate-set : (f g : ℕ → A) (x : A) (p k j : ℕ) → j < k → g (p + j) ≡ x → ((m : ℕ) → (m ≡ p + j → ⊥) → f m ≡ g m) → set (tabulate f p k) j x ≡ tabulate g p k
  tabulate-set f g x p zero j h e o = absurd (not-suc-le-zero h)
  tabulate-set f g x p (suc k) zero h e o =
      let z : p + 0 ≡ p = omega arith in
      cc (ap g z, e, tabulate-same f g (suc p) k (λ m l b. o m (λ q. omega arith)))
  tabulate-set f g x p (suc k) (suc j) h e o =
      let z : suc p + j ≡ p + suc j = omega arith in
      cc (o p (λ q. omega arith), tabulate-set f g x (suc p) k j (le_of_suc-le-suc h) (ap g z ∙ e) (λ m l. o m (λ q. l (q ∙ sym z))))

pub map-tabulate : {A B : Type 0} (h : A → B) (f : ℕ → A) (p k : ℕ) → map h (tabulate f p k) ≡ tabulate (λ m. h (f m)) p k
map-tabulate h f p zero = refl
map-tabulate h f p (suc k) = cc (map-tabulate h f (suc p) k)

-- ---- lists one after the other
pub joined-append : {A : Type 0} (xss yss : List (List A)) → joined (xss ++ yss) ≡ joined xss ++ joined yss
joined-append [] yss = refl
joined-append (xs ∷ xss) yss = rw (joined-append xss yss) (sym (append_assoc xs (joined xss) (joined yss)))

pub joined_snoc : {A : Type 0} (xss : List (List A)) (xs : List A) → joined (xss ++ one xs) ≡ joined xss ++ xs
joined_snoc xss xs = joined-append xss (one xs) ∙ rw (append-nil xs)

-- ---- the records that a node owns
pub keep_append : {A : Type 0} (b : Bool) (x : A) (l m : List A) → keep b x l ++ m ≡ keep b x (l ++ m)
keep_append true x l m = refl
keep_append false x l m = refl

pub owned-append : {R W : Type 0} (owner : R → ℕ) (value : R → W) (p : ℕ) (xs ys : List R)
    → owned_by owner value p (xs ++ ys) ≡ owned_by owner value p xs ++ owned_by owner value p ys
owned-append owner value p [] ys = refl
owned-append owner value p (x ∷ xs) ys =
    rw (owned-append owner value p xs ys) (sym (keep_append (eqb (owner x) p) (value x) (owned_by owner value p xs) (owned_by owner value p ys)))

-- ---- the records of a list of nodes, node after node
module _ {N R W : Type 0} (make : ℕ → W → R) (list : N → List W) where
  pub flat_append : (p : ℕ) (xs ys : List N) → flat make list p (xs ++ ys) ≡ flat make list p xs ++ flat make list (p + length xs) ys
  flat_append p [] ys = let e : p ≡ p + 0 = omega arith in ap (λ (q : ℕ). flat make list q ys) e
  flat_append p (x ∷ xs) ys =
      let e : suc p + length xs ≡ p + suc (length xs) = omega arith in
      rw (flat_append (suc p) xs ys, e) (sym (append_assoc (map (make p) (list x)) (flat make list (suc p) xs) (flat make list (p + suc (length xs)) ys)))

  pub flat-tabulate : (f : ℕ → N) (p k : ℕ) → flat make list p (tabulate f p k) ≡ joined (tabulate (λ q. map (make q) (list (f q))) p k)
  flat-tabulate f p zero = refl
  flat-tabulate f p (suc k) = cc (flat-tabulate f (suc p) k)

  -- what holds of each record of a node holds of all
  pub all-flat : (n : ℕ) (P : W → Type 0) (Q : R → Type 0) → ((p : ℕ) (w : W) → p < n → P w → Q (make p w)) → (p : ℕ) (xs : List N) → p + length xs ≤ n → All (λ x. All P (list x)) xs → All Q (flat make list p xs)
  all-flat n P Q f p [] h a = tt
  all-flat n P Q f p (x ∷ xs) h a =
      all_join Q (map (make p) (list x)) (flat make list (suc p) xs)
      (all_made P Q (make p) (λ w. f p w (omega arith)) (list x) a.0)
      (all-flat n P Q f (suc p) xs (omega arith) a.1)

-- only the lists matter
pub flat_map : {M N R W : Type 0} (make : ℕ → W → R) (list : N → List W) (f : M → N) (p : ℕ) (xs : List M) → flat make (λ x. list (f x)) p xs ≡ flat make list p (map f xs)
flat_map make list f p [] = refl
flat_map make list f p (x ∷ xs) = cc (flat_map make list f (suc p) xs)

-- what each node owns of them
module _ {R W : Type 0} (owner : R → ℕ) (value : R → W) (make : ℕ → W → R) (its : (p : ℕ) (w : W) → owner (make p w) ≡ p) where
  made_other : (p q : ℕ) → (q ≡ p → ⊥) → (ws : List W) → owned_by owner value p (map (make q) ws) ≡ []
  made_other p q n [] = refl
  made_other p q n (w ∷ ws) = rw (its q w, ne_eqb q p n) (made_other p q n ws)

  made-own : (p : ℕ) (ws : List W) → All (λ w. value (make p w) ≡ w) ws → owned_by owner value p (map (make p) ws) ≡ ws
  made-own p [] a = refl
  made-own p (w ∷ ws) a = rw (its p w, eq-eqb p p refl, a.0, made-own p ws a.1)

  module _ {N : Type 0} (list : N → List W) where
    pub owned-before : (p q : ℕ) (xs : List N) → p < q → owned_by owner value p (flat make list q xs) ≡ []
    owned-before p q [] h = refl
    owned-before p q (x ∷ xs) h =
        owned-append owner value p (map (make q) (list x)) (flat make list (suc q) xs)
        ∙ rw (made_other p q (λ e. omega arith) (list x)) (owned-before p (suc q) xs (omega arith))

    -- each value is kept by its record
    pub owned-flat : (z : N) (q i : ℕ) (xs : List N) → i < length xs → All (λ x. (p : ℕ) → All (λ w. value (make p w) ≡ w) (list x)) xs → owned_by owner value (q + i) (flat make list q xs) ≡ list (get_or xs i z)
    owned-flat z q i [] h k = absurd (not-suc-le-zero h)
    owned-flat z q zero (x ∷ xs) h k =
        let e : q + 0 ≡ q = omega arith in
        rw e
        (owned-append owner value q (map (make q) (list x)) (flat make list (suc q) xs)
        ∙ rw (made-own q (list x) (k.0 q), owned-before q (suc q) xs (omega arith)) (append-nil (list x)))
    owned-flat z q (suc i) (x ∷ xs) h k =
        let e : q + suc i ≡ suc q + i = omega arith in
        rw e
        (owned-append owner value (suc q + i) (map (make q) (list x)) (flat make list (suc q) xs)
        ∙ rw (made_other (suc q + i) q (λ e. omega arith) (list x)) (owned-flat z (suc q) i xs (le_of_suc-le-suc h) k.1))

-- ---- an array that holds a list from its start
module _ {A : Type 0} where
  pub length-padded : (m : ℕ) (z : A) (xs : List A) → length (padded m z xs) ≡ m
  length-padded zero z xs = refl
  length-padded (suc m) z [] = ap suc (length-padded m z [])
  length-padded (suc m) z (x ∷ xs) = ap suc (length-padded m z xs)

  pub padded-set : (m : ℕ) (z : A) (xs : List A) (x : A) → set (padded m z xs) (length xs) x ≡ padded m z (xs ++ one x)
  padded-set zero z xs x = refl
  padded-set (suc m) z [] x = refl
  padded-set (suc m) z (y ∷ ys) x = ap (λ (l : List A). y ∷ l) (padded-set m z ys x)

  pub padded-full : (m : ℕ) (z : A) (xs : List A) (x : A) → m ≤ length xs → padded m z xs ≡ padded m z (xs ++ one x)
  padded-full zero z xs x h = refl
  padded-full (suc m) z [] x h = absurd (not-suc-le-zero h)
  padded-full (suc m) z (y ∷ ys) x h = ap (λ (l : List A). y ∷ l) (padded-full m z ys x (le_of_suc-le-suc h))

  pub take-padded : (m : ℕ) (z : A) (xs : List A) → length xs ≤ m → take (length xs) (padded m z xs) ≡ xs
  take-padded m z [] h = refl
  take-padded zero z (x ∷ xs) h = absurd (not-suc-le-zero h)
  take-padded (suc m) z (x ∷ xs) h = ap (λ (l : List A). x ∷ l) (take-padded m z xs (le_of_suc-le-suc h))

  pub padded-none : (m : ℕ) (z : A) → padded m z [] ≡ replicate m z
  padded-none zero z = refl
  padded-none (suc m) z = ap (λ (l : List A). z ∷ l) (padded-none m z)

  pub padded-is : (m : ℕ) (z : A) (xs : List A) → length xs ≤ m → padded m z xs ≡ xs ++ replicate (m - length xs) z
  padded-is m z [] h = let e : m ≡ m - 0 = omega arith in padded-none m z ∙ ap (λ (k : ℕ). replicate k z) e
  padded-is zero z (x ∷ xs) h = absurd (not-suc-le-zero h)
  padded-is (suc m) z (x ∷ xs) h =
      let e : m - length xs ≡ suc m - suc (length xs) = omega arith in
      ap (λ (l : List A). x ∷ l) (padded-is m z xs (le_of_suc-le-suc h) ∙ ap (λ (k : ℕ). xs ++ replicate k z) e)

pub get_d_padded : {A : Type 0} (m : ℕ) (z : A) (xs : List A) (i : ℕ) (d : A) → i < m → get_or (padded m z xs) i d ≡ get_or xs i z
get_d_padded zero z xs i d h = absurd (not-suc-le-zero h)
get_d_padded (suc m) z [] zero d h = refl
get_d_padded (suc m) z [] (suc i) d h = get_d_padded m z [] i d (le_of_suc-le-suc h)
get_d_padded (suc m) z (x ∷ xs) zero d h = refl
get_d_padded (suc m) z (x ∷ xs) (suc i) d h = get_d_padded m z xs i d (le_of_suc-le-suc h)

-- ---- a path in an array
-- a store past the first d
pub stack_set : {A : Type 0} (z : A) (fs : List A) (i : ℕ) (x : A) (d : ℕ) → d ≤ i → stack_of z (set fs i x) d ≡ stack_of z fs d
stack_set z fs i x zero h = refl
stack_set z fs i x (suc d) h = cc (get_or-set_other fs i d x z (omega arith), stack_set z fs i x d (omega arith))

-- the last one, stored anew
pub stack_last : {A : Type 0} (z : A) (fs : List A) (d : ℕ) (x : A) → d < length fs → stack_of z (set fs d x) (suc d) ≡ x ∷ stack_of z fs d
stack_last z fs d x h = cc (get_or-set_same fs d x z h, stack_set z fs d x d (omega arith))

-- ---- a table stored from a place on
pub sets_append : {A : Type 0} (l : List A) (i : ℕ) (xs ys : List A) → sets l i (xs ++ ys) ≡ sets (sets l i xs) (i + length xs) ys
sets_append l i [] ys = let e : i ≡ i + 0 = omega arith in ap (λ k. sets l k ys) e
sets_append l i (x ∷ xs) ys =
    let e : suc i + length xs ≡ i + suc (length xs) = omega arith in
    sets_append (set l i x) (suc i) xs ys ∙ ap (λ k. sets (sets (set l i x) (suc i) xs) k ys) e

pub sets_next : {A : Type 0} (f : ℕ → A) (l : List A) (at k : ℕ) → sets l at (tabulate f 0 (k + 1)) ≡ set (sets l at (tabulate f 0 k)) (at + k) (f k)
sets_next f l at k =
    let e : at + length (tabulate f 0 k) ≡ at + k = omega (arith, length-tabulate f 0 k) in
    let d : 0 + k ≡ k = omega arith in
    ap (λ m. sets l at (tabulate f 0 m)) (add-one k)
    ∙ ap (sets l at) (tabulate-snoc f 0 k)
    ∙ sets_append l at (tabulate f 0 k) (one (f (0 + k)))
    ∙ ap (λ i. set (sets l at (tabulate f 0 k)) i (f (0 + k))) e
    ∙ ap (λ i. set (sets l at (tabulate f 0 k)) (at + k) (f i)) d

pub take_sets : {A : Type 0} (l xs : List A) → length xs ≤ length l → take (length xs) (sets l 0 xs) ≡ xs
take_sets l xs h =
    let k : 0 + length xs ≤ length l = omega arith in
    ap (take (length xs)) (sets-eq xs l 0 k) ∙ take-append_seam xs (drop (0 + length xs) l)

-- ---- the first n, from k on: loops that count k up
pub drop-up : {A : Type 0} (d : A) (n : ℕ) (xs : List A) → n ≤ length xs → (k : ℕ) → k < n → drop k (take n xs) ≡ get_or xs k d ∷ drop (k + 1) (take n xs)
drop-up {A} d n xs l k h =
    drop-cons (take n xs) k d (omega (arith, length-take-le n xs l))
    ∙ ap (λ (y : A). y ∷ drop (suc k) (take n xs)) (get_or-take n xs k d h)
    ∙ ap (λ (i : ℕ). get_or xs k d ∷ drop i (take n xs)) (sym (add-one k))

pub drop_past : {A : Type 0} (n : ℕ) (xs : List A) → n ≤ length xs → (k : ℕ) → n ≤ k → drop k (take n xs) ≡ []
drop_past n xs l k h = let m : length (take n xs) ≤ k = omega (arith, length-take-le n xs l) in drop_of_length-le (take n xs) m

-- ---- an array of one value
pub set-replicate : {A : Type 0} (m p : ℕ) (a : A) → set (replicate m a) p a ≡ replicate m a
set-replicate zero p a = refl
set-replicate (suc m) zero a = refl
set-replicate (suc m) (suc p) a = cc (set-replicate m p a)

pub drop-replicate : {A : Type 0} (n m : ℕ) (a : A) → drop n (replicate m a) ≡ replicate (m - n) a
drop-replicate zero m a = let e : m ≡ m - 0 = omega arith in ap (λ k. replicate k a) e
drop-replicate (suc n) zero a = let e : 0 ≡ 0 - suc n = omega arith in ap (λ k. replicate k a) e
drop-replicate (suc n) (suc m) a = let e : m - n ≡ suc m - suc n = omega arith in drop-replicate n m a ∙ ap (λ k. replicate k a) e

-- ---- a test of each of the list
module _ {A : Type 0} (t : A → Bool) (z : A) where
  -- it holds of one
  pub test_at : (xs : List A) (i : ℕ) → i < length xs → all_of t xs ≡ true → t (get_or xs i z) ≡ true
  test_at [] i h e = absurd (not-suc-le-zero h)
  test_at (x ∷ xs) zero h e = go (t x) e
    where
      go : (b : Bool) → (b && all_of t xs) ≡ true → b ≡ true
      go true i = refl
      go false i = i
  test_at (x ∷ xs) (suc i) h e = test_at xs i (le_of_suc-le-suc h) (go (t x) e)
    where
      go : (b : Bool) → (b && all_of t xs) ≡ true → all_of t xs ≡ true
      go true i = i
      go false i = absurd (false≢true i)

  -- one that fails
  pub test_fails : (xs : List A) (i n : ℕ) → i < n → i < length xs → t (get_or xs i z) ≡ false → all_of t (take n xs) ≡ false
  test_fails [] i n h l e = absurd (not-suc-le-zero l)
  test_fails (x ∷ xs) i zero h l e = absurd (not-suc-le-zero h)
  test_fails (x ∷ xs) zero (suc n) h l e = rw e
  test_fails (x ∷ xs) (suc i) (suc n) h l e = go (t x) (test_fails xs i n (le_of_suc-le-suc h) (le_of_suc-le-suc l) e)
    where
      go : (b : Bool) → all_of t (take n xs) ≡ false → (b && all_of t (take n xs)) ≡ false
      go true i = i
      go false i = refl

  -- of the first k, and of one more
  pub test_next : (xs : List A) (k : ℕ) → k < length xs → all_of t (take k xs) ≡ true → t (get_or xs k z) ≡ true → all_of t (take (k + 1) xs) ≡ true
  test_next xs k h e i = rw (add-one k) (go xs k h e i)
    where
      go : (xs : List A) (k : ℕ) → k < length xs → all_of t (take k xs) ≡ true → t (get_or xs k z) ≡ true → all_of t (take (suc k) xs) ≡ true
      go [] k h e i = refl
      go (x ∷ xs) zero h e i = rw i
      go (x ∷ xs) (suc k) h e i = of (t x) e (λ (q : all_of t (take k xs) ≡ true). go xs k (le_of_suc-le-suc h) q i)
        where
          of : (b : Bool) → (b && all_of t (take k xs)) ≡ true → (all_of t (take k xs) ≡ true → all_of t (take (suc k) xs) ≡ true) → (b && all_of t (take (suc k) xs)) ≡ true
          of true q f = f q
          of false q f = absurd (false≢true q)

-- ---- the test of two lists of numbers
pub same_true : (xs ys : List ℕ) → same xs ys ≡ true → xs ≡ ys
same_true [] [] e = refl
same_true [] (y ∷ ys) e = absurd (false≢true e)
same_true (x ∷ xs) [] e = absurd (false≢true e)
same_true (x ∷ xs) (y ∷ ys) e = go (eqb x y) refl e (λ (i : same xs ys ≡ true). same_true xs ys i)
  where
    go : (b : Bool) → eqb x y ≡ b → (b && same xs ys) ≡ true → (same xs ys ≡ true → xs ≡ ys) → x ∷ xs ≡ y ∷ ys
    go true i e f = cc (eqb-true x y i, f e)
    go false i e f = absurd (false≢true e)

pub same_self : (xs : List ℕ) → same xs xs ≡ true
same_self [] = refl
same_self (x ∷ xs) = rw (eq-eqb x x refl) (same_self xs)

pub same_not : (xs ys : List ℕ) → (xs ≡ ys → ⊥) → same xs ys ≡ false
same_not xs ys n = go (same xs ys) refl
  where
    go : (b : Bool) → same xs ys ≡ b → same xs ys ≡ false
    go true e = absurd (n (same_true xs ys e))
    go false e = e

-- a table that is right at each of the first n numbers
pub right-at : (right : ℕ → Bool) (n i : ℕ) → i < n → all_of right (tabulate (λ k. k) 0 n) ≡ true → right i ≡ true
right-at right n i h e =
    let z : 0 + i ≡ i = omega arith in
    ap right (sym (get_d_tabulate (λ k. k) 0 n i 0 h ∙ z)) ∙ test_at right 0 (tabulate (λ k. k) 0 n) i (omega (arith, length-tabulate (λ k. k) 0 n)) e
