-- Edge completion keeps that marked sources and added sinks come in pairs.
-- Assumes nothing.
use Prim.Native.Nat.{ℕ, zero, suc, ◌+◌, ◌≤◌, ◌<◌}
use native.Mathlib.Omega.{arith}
use native.Mathlib.Nat.{le_of_suc-le-suc, not-suc-le-zero}
use native.Mathlib.Numerals.{add-one}
use mathlib.Core.Path.{◌≡◌, refl, ap, sym, ◌∙◌, subst}
use mathlib.Core.Bool.{Bool, true, false, cond, ◌&&◌, ◌||◌}
use mathlib.Core.Option.{Option, none}
use mathlib.Core.List.{List, [], ◌∷◌, ◌++◌}
use lib.Dec.{T, eqb}
use lib.ListN.{length, get_or, set, take, get_or-append, length-append}
use lib.Seq.{take-append-le, take-append_seam, get_or-append_seam}
use borrow.Author.Tests.{eq-eqb, ne_eqb, eqb-true, eqb-false}
use Rattle.laws.specs.Lists.{keep, one, tally}
use Rattle.graph.specs.declared.Item.{Item}
use Rattle.graph.specs.Graph.{Edge, is_mark, leads_to, has_marked}
use Rattle.graph.specs.code.Tables.{owned, edge_of, mark_of, mark_item, sink_of, source_of, Sunk, bares, Sinked, Paired, Bare, dues}
use Rattle.graph.specs.Outcome.{no_item}

pub false_true : {A : Type 0} → false ≡ true → A
false_true e = absurd (subst T (sym e) tt)

pub or_mono : (a : Bool) {b c : Bool} → (b ≡ true → c ≡ true) → (a || b) ≡ true → (a || c) ≡ true
or_mono true f e = refl
or_mono false f e = f e

pub or_right : (a : Bool) {b : Bool} → b ≡ true → (a || b) ≡ true
or_right true e = refl
or_right false e = e

pub and_false : (a : Bool) → (a && false) ≡ false
and_false true = refl
and_false false = refl

-- a list of edges that gains edges keeps what it has
keep-leads : (b : Bool) (e : Edge) (l m : List Edge) (p : ℕ) → (leads_to l p ≡ true → leads_to m p ≡ true) → leads_to (keep b e l) p ≡ true → leads_to (keep b e m) p ≡ true
keep-leads true e l m p f h = or_mono (eqb e.to p) f h
keep-leads false e l m p f h = f h

keep-leads-right : (b : Bool) (e : Edge) (l : List Edge) (p : ℕ) → leads_to l p ≡ true → leads_to (keep b e l) p ≡ true
keep-leads-right true e l p h = or_right (eqb e.to p) h
keep-leads-right false e l p h = h

keep-marks : (b : Bool) (e : Edge) (l m : List Edge) (p i : ℕ) → (has_marked l p i ≡ true → has_marked m p i ≡ true) → has_marked (keep b e l) p i ≡ true → has_marked (keep b e m) p i ≡ true
keep-marks true e l m p i f h = or_mono (eqb e.to p && is_mark e.mark i) f h
keep-marks false e l m p i f h = f h

keep-marks-right : (b : Bool) (e : Edge) (l : List Edge) (p i : ℕ) → has_marked l p i ≡ true → has_marked (keep b e l) p i ≡ true
keep-marks-right true e l p i h = or_right (eqb e.to p && is_mark e.mark i) h
keep-marks-right false e l p i h = h

-- an unmarked edge may become another
keep-unmarked : (b : Bool) (e f : Edge) (l : List Edge) (p i : ℕ) → e.mark ≡ none → has_marked (keep b e l) p i ≡ true → has_marked (keep b f l) p i ≡ true
keep-unmarked true e f l p i z h =
    or_right (eqb f.to p && is_mark f.mark i)
    (sym (ap (λ (c : Bool). c || has_marked l p i) (ap (λ (o : Option ℕ). eqb e.to p && is_mark o i) z ∙ and_false (eqb e.to p))) ∙ h)
keep-unmarked false e f l p i z h = h

pub leads-more : (ys : List Item) (y : Item) (q p : ℕ) → leads_to (owned q ys) p ≡ true → leads_to (owned q (ys ++ one y)) p ≡ true
leads-more [] y q p e = false_true e
leads-more (x ∷ xs) y q p h = keep-leads (eqb x.owner q) (edge_of x) (owned q xs) (owned q (xs ++ one y)) p (leads-more xs y q p) h

keep-here : (b : Bool) (e : Edge) (l : List Edge) (p : ℕ) → b ≡ true → eqb e.to p ≡ true → leads_to (keep b e l) p ≡ true
keep-here true e l p h z = ap (λ (c : Bool). c || leads_to l p) z
keep-here false e l p h z = false_true h

pub leads-at : (ys : List Item) (k q p : ℕ) → k < length ys → (get_or ys k no_item).owner ≡ q → (get_or ys k no_item).to ≡ p → leads_to (owned q ys) p ≡ true
leads-at [] k q p h a b = absurd (not-suc-le-zero h)
leads-at (x ∷ xs) zero q p h a b = keep-here (eqb x.owner q) (edge_of x) (owned q xs) p (eq-eqb _ _ a) (eq-eqb _ _ b)
leads-at (x ∷ xs) (suc k) q p h a b = keep-leads-right (eqb x.owner q) (edge_of x) (owned q xs) p (leads-at xs k q p (le_of_suc-le-suc h) a b)

pub leads-new : (ys : List Item) (y : Item) → leads_to (owned y.owner (ys ++ one y)) y.to ≡ true
leads-new [] y = keep-here (eqb y.owner y.owner) (edge_of y) [] y.to (eq-eqb y.owner y.owner refl) (eq-eqb y.to y.to refl)
leads-new (x ∷ xs) y = keep-leads-right (eqb x.owner y.owner) (edge_of x) (owned y.owner (xs ++ one y)) y.to (leads-new xs y)

pub marks-more : (xs : List Item) (x : Item) (q p i : ℕ) → has_marked (owned q xs) p i ≡ true → has_marked (owned q (xs ++ one x)) p i ≡ true
marks-more [] y q p i e = false_true e
marks-more (x ∷ xs) y q p i h = keep-marks (eqb x.owner q) (edge_of x) (owned q xs) (owned q (xs ++ one y)) p i (marks-more xs y q p i) h

-- record k, which has no mark, gains one
pub marks-set : (xs : List Item) (k m : ℕ) → (get_or xs k no_item).mark ≡ 0 → (q p i : ℕ) → has_marked (owned q xs) p i ≡ true → has_marked (owned q (set xs k (mark_item m (get_or xs k no_item)))) p i ≡ true
marks-set [] k m z q p i e = false_true e
marks-set (x ∷ xs) zero m z q p i h = keep-unmarked (eqb x.owner q) (edge_of x) (edge_of (mark_item m x)) (owned q xs) p i (ap mark_of z) h
marks-set (x ∷ xs) (suc k) m z q p i h =
    keep-marks (eqb x.owner q) (edge_of x) (owned q xs) (owned q (set xs k (mark_item m (get_or xs k no_item)))) p i (marks-set xs k m z q p i) h

mark-here : (b : Bool) (e : Edge) (l : List Edge) (p i : ℕ) → b ≡ true → eqb e.to p ≡ true → is_mark e.mark i ≡ true → has_marked (keep b e l) p i ≡ true
mark-here true e l p i h z w = ap (λ (c : Bool). (c && is_mark e.mark i) || has_marked l p i) z ∙ ap (λ (c : Bool). c || has_marked l p i) w
mark-here false e l p i h z w = false_true h

pub marks-new : (xs : List Item) (k m : ℕ) → k < length xs → has_marked (owned (get_or xs k no_item).owner (set xs k (mark_item (m + 1) (get_or xs k no_item)))) (get_or xs k no_item).to m ≡ true
marks-new [] k m h = absurd (not-suc-le-zero h)
marks-new (x ∷ xs) zero m h =
    mark-here (eqb x.owner x.owner) (edge_of (mark_item (m + 1) x)) (owned x.owner xs) x.to m (eq-eqb x.owner x.owner refl) (eq-eqb x.to x.to refl)
    (ap (λ (n : ℕ). is_mark (mark_of n) m) (add-one m) ∙ eq-eqb m m refl)
marks-new (x ∷ xs) (suc k) m h =
    let q = (get_or xs k no_item).owner in
    keep-marks-right (eqb x.owner q) (edge_of x) (owned q (set xs k (mark_item (m + 1) (get_or xs k no_item)))) (get_or xs k no_item).to m (marks-new xs k m (le_of_suc-le-suc h))

-- how many have no mark
tally-less : (b : Bool) {m n : ℕ} → suc m ≡ n → suc (tally b m) ≡ tally b n
tally-less true e = ap suc e
tally-less false e = e

tally_le : (b : Bool) {m n : ℕ} → m ≤ n → tally b m ≤ suc n
tally_le true h = omega arith
tally_le false h = omega arith

pub bares_le : (xs : List Item) → bares xs ≤ length xs
bares_le [] = omega arith
bares_le (x ∷ xs) = tally_le (eqb x.mark 0) (bares_le xs)

pub bares-more : (xs : List Item) (x : Item) → eqb x.mark 0 ≡ false → bares (xs ++ one x) ≡ bares xs
bares-more [] x e = ap (λ (b : Bool). tally b 0) e
bares-more (y ∷ xs) x e = ap (tally (eqb y.mark 0)) (bares-more xs x e)

pub bares-set : (xs : List Item) (k : ℕ) (y : Item) → k < length xs → eqb (get_or xs k no_item).mark 0 ≡ true → eqb y.mark 0 ≡ false → suc (bares (set xs k y)) ≡ bares xs
bares-set [] k y h e n = absurd (not-suc-le-zero h)
bares-set (x ∷ xs) zero y h e n = ap (λ (b : Bool). suc (tally b (bares xs))) n ∙ sym (ap (λ (b : Bool). tally b (bares xs)) e)
bares-set (x ∷ xs) (suc k) y h e n = tally-less (eqb x.mark 0) (bares-set xs k y (le_of_suc-le-suc h) e n)

-- marked sources have their sinks
pub sinked-at : (ys xs : List Item) (k : ℕ) → k < length xs → Sinked ys xs → ((get_or xs k no_item).mark ≡ 0 → ⊥) → leads_to (owned (get_or xs k no_item).to ys) (get_or xs k no_item).owner ≡ true
sinked-at ys [] k h s = absurd (not-suc-le-zero h)
sinked-at ys (x ∷ xs) zero h s = s.0
sinked-at ys (x ∷ xs) (suc k) h s = sinked-at ys xs k (le_of_suc-le-suc h) s.1

pub sinked-one : (ys xs : List Item) (x : Item) → leads_to (owned x.to ys) x.owner ≡ true → Sinked ys xs → Sinked ys (xs ++ one x)
sinked-one ys [] x e s = (λ n. e, tt)
sinked-one ys (y ∷ xs) x e s = (s.0, sinked-one ys xs x e s.1)

pub sinked-more : (ys : List Item) (y : Item) (xs : List Item) → Sinked ys xs → Sinked (ys ++ one y) xs
sinked-more ys y [] s = tt
sinked-more ys y (x ∷ xs) s = (λ n. leads-more ys y x.to x.owner (s.0 n), sinked-more ys y xs s.1)

pub sinked-set : (ys xs : List Item) (k : ℕ) (x : Item) → leads_to (owned x.to ys) x.owner ≡ true → Sinked ys xs → Sinked ys (set xs k x)
sinked-set ys [] k x e s = tt
sinked-set ys (y ∷ xs) zero x e s = (λ n. e, s.1)
sinked-set ys (y ∷ xs) (suc k) x e s = (s.0, sinked-set ys xs k x e s.1)

pub sinked-bare : (ys xs : List Item) → Bare xs → Sinked ys xs
sinked-bare ys [] b = tt
sinked-bare ys (x ∷ xs) b = (λ n. absurd (n b.0), sinked-bare ys xs b.1)

-- added sinks have their sources
abbrev has : List Item → List Item → ℕ → Item → Type 0
has xs front k y = has_marked (owned y.to xs) y.owner (length (owned y.owner front)) ≡ true

at-end : (g : ℕ) (xs ys : List Item) (y : Item) → has xs ys (length ys) y → (k : ℕ) → k ≡ length ys → has xs (take k (ys ++ one y)) k (get_or (ys ++ one y) k no_item)
at-end g xs ys y h k e =
    let a : get_or (ys ++ one y) k no_item ≡ y = ap (λ (n : ℕ). get_or (ys ++ one y) n no_item) e ∙ get_or-append_seam ys y [] no_item in
    let b : take k (ys ++ one y) ≡ ys = ap (λ (n : ℕ). take n (ys ++ one y)) e ∙ take-append_seam ys (one y) in
    subst (λ (z : Item). has xs (take k (ys ++ one y)) k z) (sym a) (subst (λ (l : List Item). has xs l k y) (sym b) h)

before-end : (g : ℕ) (xs ys : List Item) (y : Item) → Paired g xs ys → (k : ℕ) → g ≤ k → k < length ys → has xs (take k (ys ++ one y)) k (get_or (ys ++ one y) k no_item)
before-end g xs ys y f k l h =
    subst (λ (z : Item). has xs (take k (ys ++ one y)) k z) (sym (get_or-append ys (one y) no_item k h))
    (subst (λ (m : List Item). has xs m k (get_or ys k no_item)) (sym (take-append-le k ys (one y) (omega arith))) (f k l h))

which : (g : ℕ) (xs ys : List Item) (y : Item) → Paired g xs ys → has xs ys (length ys) y → (k : ℕ) → g ≤ k → k < length (ys ++ one y) → (b : Bool) → eqb k (length ys) ≡ b → has xs (take k (ys ++ one y)) k (get_or (ys ++ one y) k no_item)
which g xs ys y f e k l h true t = at-end g xs ys y e k (eqb-true _ _ t)
which g xs ys y f e k l h false t =
    let n : k ≡ length ys → ⊥ = eqb-false k (length ys) t in
    let s : length (ys ++ one y) ≡ length ys + 1 = length-append ys (one y) in
    before-end g xs ys y f k l (omega (arith, n, s))

pub paired-one : (g : ℕ) (xs ys : List Item) (y : Item) → Paired g xs ys → has xs ys (length ys) y → Paired g xs (ys ++ one y)
paired-one g xs ys y f e k l h = which g xs ys y f e k l h (eqb k (length ys)) refl

-- the records of the nodes from p on
pub dues-gone : (z : Item) (zs : List Item) (p k : ℕ) → z.owner < p → dues (z ∷ zs) p k ≡ dues zs p k
dues-gone z zs p zero h = refl
dues-gone z zs p (suc k) h =
    let n : eqb z.owner p ≡ false = ne_eqb z.owner p (λ e. omega arith) in
    ap (λ (b : Bool). length (keep b (edge_of z) (owned p zs)) + dues (z ∷ zs) (suc p) k) n ∙ ap (λ (m : ℕ). length (owned p zs) + m) (dues-gone z zs (suc p) k (omega arith))

dues-look : (z : Item) (zs : List Item) (p k : ℕ) (b : Bool) → eqb z.owner p ≡ b → dues (z ∷ zs) (suc p) k ≤ suc (dues zs (suc p) k) → length (keep b (edge_of z) (owned p zs)) + dues (z ∷ zs) (suc p) k ≤ suc (length (owned p zs) + dues zs (suc p) k)
dues-look z zs p k true e h = let o : z.owner ≡ p = eqb-true _ _ e in let d : dues (z ∷ zs) (suc p) k ≡ dues zs (suc p) k = dues-gone z zs (suc p) k (omega arith) in omega (arith, d)
dues-look z zs p k false e h = omega (arith, h)

dues_cons : (z : Item) (zs : List Item) (p k : ℕ) → dues (z ∷ zs) p k ≤ suc (dues zs p k)
dues_cons z zs p zero = omega arith
dues_cons z zs p (suc k) = dues-look z zs p k (eqb z.owner p) refl (dues_cons z zs (suc p) k)

pub dues-none : (p k : ℕ) → dues [] p k ≡ 0
dues-none p zero = refl
dues-none p (suc k) = let d : dues [] (suc p) k ≡ 0 = dues-none (suc p) k in omega (arith, d)

pub dues_le : (zs : List Item) (p k : ℕ) → dues zs p k ≤ length zs
dues_le [] p k = omega (arith, dues-none p k)
dues_le (z ∷ zs) p k = omega (arith, dues_cons z zs p k, dues_le zs p k)

-- source j of p, record k, lacks its sink, gains it and is marked
module _ (g : ℕ) (xs ys : List Item) (p j k : ℕ) (f : Sunk xs p j k) (s : Sinked ys xs) (lack : leads_to (owned (get_or xs k no_item).to ys) p ≡ false) where
  abbrev x : Item
  x = get_or xs k no_item

  unmarked_by : (b : Bool) → eqb x.mark 0 ≡ b → x.mark ≡ 0
  unmarked_by true e = eqb-true _ _ e
  unmarked_by false e =
      false_true (sym lack ∙ subst (λ (o : ℕ). leads_to (owned x.to ys) o ≡ true) f.owner (sinked-at ys xs k f.inside s (eqb-false _ _ e)))

  unmarked : x.mark ≡ 0
  unmarked = unmarked_by (eqb x.mark 0) refl

  module _ (m : ℕ) (em : m ≡ length (owned x.to ys)) where
    abbrev z : Item
    z = sink_of p x.to

    pub gained-sinked : Sinked (ys ++ one z) (set xs k (mark_item (m + 1) x))
    gained-sinked =
        sinked-set (ys ++ one z) xs k (mark_item (m + 1) x)
        (subst (λ (o : ℕ). leads_to (owned x.to (ys ++ one z)) o ≡ true) (sym f.owner) (leads-new ys z))
        (sinked-more ys z xs s)

    pub gained-paired : Paired g xs ys → Paired g (set xs k (mark_item (m + 1) x)) (ys ++ one z)
    gained-paired r =
        paired-one g (set xs k (mark_item (m + 1) x)) ys z (λ i a b. marks-set xs k (m + 1) unmarked _ _ _ (r i a b))
        (subst (λ (n : ℕ). has_marked (owned p (set xs k (mark_item (m + 1) x))) x.to n ≡ true) em
        (subst (λ (o : ℕ). has_marked (owned o (set xs k (mark_item (m + 1) x))) x.to m ≡ true) f.owner (marks-new xs k m f.inside)))

    pub gained-bares : suc (bares (set xs k (mark_item (m + 1) x))) ≡ bares xs
    gained-bares = bares-set xs k (mark_item (m + 1) x) f.inside (eq-eqb _ _ unmarked) (ne_eqb (m + 1) 0 (λ e. omega arith))

-- sink i of p, record k, leads to q
module _ (g : ℕ) (ys xs : List Item) (p i q : ℕ) (at : leads_to (owned p ys) q ≡ true) where
  pub source_sinked : (b : Bool) → Sinked ys xs → Sinked ys (cond b xs (xs ++ one (source_of p i q)))
  source_sinked true s = s
  source_sinked false s = sinked-one ys xs (source_of p i q) at s

  pub source_paired : (b : Bool) → Paired g xs ys → Paired g (cond b xs (xs ++ one (source_of p i q))) ys
  source_paired true r = r
  source_paired false r = λ k a l. marks-more xs (source_of p i q) _ _ _ (r k a l)

  pub source_bares : (b : Bool) → bares (cond b xs (xs ++ one (source_of p i q))) ≡ bares xs
  source_bares true = refl
  source_bares false = bares-more xs (source_of p i q) (ne_eqb (i + 1) 0 (λ e. omega arith))
