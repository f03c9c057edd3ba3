-- What each step of completion, and each cut, keeps, the whole keeps.
-- Assumes nothing.
use Prim.Native.Nat.{ℕ, zero, suc, ◌+◌, ◌-◌, ◌≤◌, ◌<◌}
use native.Mathlib.Omega.{arith}
use mathlib.Core.Path.{◌≡◌, refl, ap, sym, subst, ◌∙◌}
use mathlib.Core.Bool.{Bool, true, false, cond, true≢false}
use mathlib.Core.Logic.{◌⊎◌, inl, inr, ⊎_elim}
use mathlib.Core.List.{List, [], ◌∷◌, ◌++◌}
use lib.Dec.{eqb, ltb}
use lib.ListN.{length, get_or, set, replicate, length-set, length-replicate, get_or-eq_default}
use lib.Seq.{get_or-set_other}
use borrow.Author.Tests.{eqb-true, eqb-false, ltb-true, ltb-false}
use Rattle.laws.proofs.Each.{each_holds, each_keeps}
use Rattle.laws.proofs.Tests.{pick, pick-by}
use Rattle.graph.specs.declared.reach.Seen.{Seen}
use Rattle.graph.specs.declared.reach.Seen.TheVariants.{Unseen, Marked, OnPath, Explored}
use Rattle.graph.specs.Graph.{Edge, Graph, no_edge, node_at, degree, none?}
use Rattle.graph.specs.Completion.{gain_source, complete_sinks, gain_sink, complete_sources, complete_node, complete}
use Rattle.graph.specs.Cutting.{Walk, mark_sinks, mark_from, mark_root, reached, cut, seeing, look, explore_sinks, explore_from, start, beginning, cutting, seen_at, unseen?, on_path?}
use Rattle.graph.proofs.Stands.{unseen-true, on_path-true}
use Rattle.graph.proofs.Resumes.{Grows, from-grown, look-grown, cut-grown}

-- ---- completion
pub complete-keeps : (P : Graph → Type 0) (g : Graph) → ((p : ℕ) (h : Graph) → p < length g → P h → P (complete_node h p)) → P g → P (complete g)
unfolding complete
complete-keeps P g f h = each_keeps P (λ p k. complete_node k p) (length g) f g h (length g) (omega arith)

-- what the single steps keep, whatever edges they are given
module _ (P : Graph → Type 0) (one : (g : Graph) (p i q : ℕ) → P g → P (gain_source g p i q)) (two : (g : Graph) (p j : ℕ) (e : Edge) → P g → P (gain_sink g p j e)) where
  sinks-keep : (g : Graph) (p i : ℕ) (es : List Edge) → P g → P (complete_sinks g p i es)
  sinks-keep g p i [] h = h
  sinks-keep g p i (e ∷ es) h =
      sinks-keep (cond (ltb e.to (length g)) (gain_source g p i e.to) g) p (suc i) es (pick P (ltb e.to (length g)) (gain_source g p i e.to) g (one g p i e.to h) h)

  sources-keep : (g : Graph) (p j : ℕ) (es : List Edge) → P g → P (complete_sources g p j es)
  sources-keep g p j [] h = h
  sources-keep g p j (e ∷ es) h = sources-keep (cond (ltb e.to (length g)) (gain_sink g p j e) g) p (suc j) es (pick P (ltb e.to (length g)) (gain_sink g p j e) g (two g p j e h) h)

  pub steps_keep : (g : Graph) → P g → P (complete g)
  steps_keep g =
      complete-keeps P g
      (λ p h l k.
      let m : Graph = complete_sinks h p 0 (node_at h p).sinks in
      sources-keep m p 0 (node_at m p).sources (sinks-keep h p 0 (node_at h p).sinks k))

-- ---- what roots reach: what each mark keeps, the whole keeps
module _ (P : List Seen → Type 0) (marks : (v : List Seen) (p : ℕ) → P v → P (set v p Marked)) where
  marks_hold : (go : List Seen → ℕ → List Seen) → ((v : List Seen) (q : ℕ) → P v → P (go v q)) → (v : List Seen) (es : List Edge) → P v → P (mark_sinks go v es)
  marks_hold go f v [] h = h
  marks_hold go f v (e ∷ es) h = marks_hold go f (go v e.to) es (f v e.to h)

  from-holds : (d : ℕ) (g : Graph) (v : List Seen) (p : ℕ) → P v → P (mark_from d g v p)
  from-holds zero g v p h = h
  from-holds (suc d) g v p h =
      pick P (unseen? (seen_at v p)) (mark_sinks (λ w q. mark_from d g w q) (set v p Marked) (node_at g p).sinks) v
      (marks_hold (λ w q. mark_from d g w q) (λ w q. from-holds d g w q) (set v p Marked) (node_at g p).sinks (marks v p h))
      h

  pub reached-holds : (g : Graph) → P (replicate (length g) Unseen) → P (reached g)
  unfolding reached
  reached-holds g h =
      each_keeps P (mark_root (length g) g) (length g)
      (λ p v l k. pick P (none? (node_at g p).sources) (mark_from (length g) g v p) v (from-holds (length g) g v p k) k)
      (replicate (length g) Unseen) h (length g) (omega arith)

-- each node has its mark
pub reached-long : (g : Graph) → length (reached g) ≡ length g
reached-long g = reached-holds (λ (u : List Seen). length u ≡ length g) (λ v p e. length-set v p Marked ∙ e) g (length-replicate (length g) Unseen)

-- and none is on the path
none-set : (v : List Seen) (p q : ℕ) → (seen_at v q ≡ OnPath → ⊥) → seen_at (set v p Marked) q ≡ OnPath → ⊥
none-set [] p q f e = f e
none-set (x ∷ v) zero zero f e = cc
none-set (x ∷ v) zero (suc q) f e = f e
none-set (x ∷ v) (suc p) zero f e = f e
none-set (x ∷ v) (suc p) (suc q) f e = none-set v p q f e

none_first : (n q : ℕ) → seen_at (replicate n Unseen) q ≡ OnPath → ⊥
none_first zero q e = cc
none_first (suc n) zero e = cc
none_first (suc n) (suc q) e = none_first n q e

pub reached-none : (g : Graph) (q : ℕ) → seen_at (reached g) q ≡ OnPath → ⊥
reached-none g = reached-holds (λ (u : List Seen). (q : ℕ) → seen_at u q ≡ OnPath → ⊥) (λ v p f q. none-set v p q (f q)) g (none_first (length g))

-- a root is marked
abbrev Met : ℕ → List Seen → Type 0
Met p v = seen_at v p ≡ Unseen → ⊥

seen-kept : (p : ℕ) (v : List Seen) (q : ℕ) → Met p v → Met p (set v q Marked)
seen-kept p [] q f e = f e
seen-kept zero (x ∷ v) zero f e = cc
seen-kept (suc p) (x ∷ v) zero f e = f e
seen-kept zero (x ∷ v) (suc q) f e = f e
seen-kept (suc p) (x ∷ v) (suc q) f e = seen-kept p v q f e

seen-now : (v : List Seen) (p : ℕ) → p < length v → Met p (set v p Marked)
seen-now [] p h e = omega arith
seen-now (x ∷ v) zero h e = cc
seen-now (x ∷ v) (suc p) h e = seen-now v p (omega arith) e

from-seen : (d : ℕ) (g : Graph) (v : List Seen) (p : ℕ) → p < length v → Met p (mark_from (suc d) g v p)
from-seen d g v p h =
    pick-by (Met p) (unseen? (seen_at v p)) (mark_sinks (λ w q. mark_from d g w q) (set v p Marked) (node_at g p).sinks) v
    (λ z. marks_hold (Met p) (seen-kept p) (λ w q. mark_from d g w q) (λ w q k. from-holds (Met p) (seen-kept p) d g w q k) (set v p Marked) (node_at g p).sinks (seen-now v p h))
    (λ z e. true≢false (sym (ap unseen? e) ∙ z))

pub root_seen : (g : Graph) (p : ℕ) → p < length g → (node_at g p).sources ≡ [] → Met p (reached g)
unfolding reached
root_seen g p l r =
    (each_holds (λ k v. (length v ≡ length g) × (p < k → Met p v)) (mark_root (length g) g) (length g) step
    (replicate (length g) Unseen) (length-replicate (length g) Unseen, λ h. absurd (omega (arith, h))) (length g) (omega arith)).1 l
  where
    step : (k : ℕ) (v : List Seen) → k < length g → (length v ≡ length g) × (p < k → Met p v) → (length (mark_root (length g) g k v) ≡ length g) × (p < suc k → Met p (mark_root (length g) g k v))
    step k v h a =
        let long : length (mark_from (length g) g v k) ≡ length g = from-holds (λ (u : List Seen). length u ≡ length g) (λ u q e. length-set u q Marked ∙ e) (length g) g v k a.0 in
        let same : length g ≡ suc (length g - 1) = omega arith in (
          pick (λ (u : List Seen). length u ≡ length g) (none? (node_at g k).sources) (mark_from (length g) g v k) v long a.0,
          λ o. by_number o (eqb p k) refl,
        )
      where
        by_number : p < suc k → (b : Bool) → eqb p k ≡ b → Met p (mark_root (length g) g k v)
        by_number o true z =
            let e : p ≡ k = eqb-true p k z in
            let same : length g ≡ suc (length g - 1) = omega arith in
            subst (λ (i : ℕ). Met p (mark_root (length g) g i v)) e
            (rw r (subst (λ (d : ℕ). Met p (mark_from d g v p)) (sym same) (from-seen (length g - 1) g v p (omega (arith, a.0)))))
        by_number o false z =
            let n : p ≡ k → ⊥ = eqb-false p k z in
            let old : Met p v = a.1 (omega (arith, n)) in
            pick (Met p) (none? (node_at g k).sources) (mark_from (length g) g v k) v (from-holds (Met p) (seen-kept p) (length g) g v k old) old

-- ---- cutting: n nodes were given, and those after them are explored
pub record Given (n : ℕ) (w : Walk) : Type 0 where
  pub longer : n ≤ length w.graph
  pub after : (k : ℕ) → n ≤ k → seen_at w.seen k ≡ Explored

two-more : (v : List Seen) (k : ℕ) → seen_at v k ≡ Explored → seen_at (v ++ (Explored ∷ Explored ∷ [])) k ≡ Explored
two-more [] zero e = refl
two-more [] (suc zero) e = refl
two-more [] (suc (suc k)) e = refl
two-more (x ∷ v) zero e = e
two-more (x ∷ v) (suc k) e = two-more v k e

-- a node that is seen as x after another was
seen-set : (v : List Seen) (c : ℕ) (x : Seen) (q : ℕ) → seen_at (set v c x) q ≡ OnPath → ((q ≡ c) × (x ≡ OnPath)) ⊎ (seen_at v q ≡ OnPath)
seen-set [] c x q e = inr e
seen-set (y ∷ v) zero x zero e = inl (refl, e)
seen-set (y ∷ v) zero x (suc q) e = inr e
seen-set (y ∷ v) (suc c) x zero e = inr e
seen-set (y ∷ v) (suc c) x (suc q) e = ⊎_elim (λ k. inl (ap suc k.0, k.1)) (λ k. inr k) (seen-set v c x q e)

seen_twice : (v : List Seen) (c q : ℕ) → seen_at (set (set v c OnPath) c Explored) q ≡ OnPath → seen_at v q ≡ OnPath
seen_twice [] c q e = e
seen_twice (y ∷ v) zero zero e = absurd (cc)
seen_twice (y ∷ v) zero (suc q) e = e
seen_twice (y ∷ v) (suc c) zero e = e
seen_twice (y ∷ v) (suc c) (suc q) e = seen_twice v c q e

seen_more : (v : List Seen) (q : ℕ) → seen_at (v ++ (Explored ∷ Explored ∷ [])) q ≡ OnPath → seen_at v q ≡ OnPath
seen_more [] zero e = absurd (cc)
seen_more [] (suc zero) e = absurd (cc)
seen_more [] (suc (suc q)) e = e
seen_more (x ∷ v) zero e = e
seen_more (x ∷ v) (suc q) e = seen_more v q e

pub degree_in : (g : Graph) (q : ℕ) → 0 < degree g q → q < length g
degree_in [] q h = absurd (omega (arith, h))
degree_in (x ∷ g) zero h = omega arith
degree_in (x ∷ g) (suc q) h = omega (arith, degree_in g q h)

-- each node on the path has a sink
abbrev Busy : Walk → Type 0
Busy w = (q : ℕ) → seen_at w.seen q ≡ OnPath → 0 < degree w.graph q

-- a node that is unseen was unseen before
unseen-set : (v : List Seen) (c : ℕ) (x : Seen) (q : ℕ) → (x ≡ Unseen → ⊥) → seen_at (set v c x) q ≡ Unseen → seen_at v q ≡ Unseen
unseen-set [] c x q n e = e
unseen-set (y ∷ v) zero x zero n e = absurd (n e)
unseen-set (y ∷ v) zero x (suc q) n e = e
unseen-set (y ∷ v) (suc c) x zero n e = e
unseen-set (y ∷ v) (suc c) x (suc q) n e = unseen-set v c x q n e

unseen-more : (v : List Seen) (q : ℕ) → seen_at (v ++ (Explored ∷ Explored ∷ [])) q ≡ Unseen → seen_at v q ≡ Unseen
unseen-more [] zero e = absurd (cc)
unseen-more [] (suc zero) e = absurd (cc)
unseen-more [] (suc (suc q)) e = e
unseen-more (x ∷ v) zero e = e
unseen-more (x ∷ v) (suc q) e = unseen-more v q e

-- v₀ is what roots reach: a cut is at a node c that they do not
module _ (n : ℕ) (v₀ : List Seen) (P : Walk → Type 0)
    (sees : (w : Walk) (c : ℕ) (x : Seen) → P w → P (seeing w c x))
    (cuts : (w : Walk) (c s : ℕ) → c < n → s < degree w.graph c → (get_or (node_at w.graph c).sinks s no_edge).to < n → n ≤ length w.graph → 0 < degree w.graph (get_or (node_at w.graph c).sinks s no_edge).to → seen_at v₀ c ≡ Unseen → P w →
    P (cut w c s (get_or (node_at w.graph c).sinks s no_edge))) where
  pub record Keeping (w : Walk) : Type 0 where
    pub given : Given n w
    pub busy : Busy w
    pub fresh : (q : ℕ) → seen_at w.seen q ≡ Unseen → seen_at v₀ q ≡ Unseen
    pub keeps : P w

  see_given : (w : Walk) (c : ℕ) (x : Seen) → c < n → Given n w → Given n (seeing w c x)
  see_given w c x l k = record { longer = k.longer; after = λ j h. get_or-set_other w.seen c j x Explored (λ e. omega arith) ∙ k.after j h }

  keep_see : (w : Walk) (c : ℕ) (x : Seen) → c < n → (x ≡ Unseen → ⊥) → (x ≡ OnPath → 0 < degree w.graph c) → Keeping w → Keeping (seeing w c x)
  keep_see w c x l o b k =
      record {
        given = see_given w c x l k.given;
        busy = λ q e. ⊎_elim (λ z. subst (λ (i : ℕ). 0 < degree w.graph i) (sym z.0) (b z.1)) (λ z. k.busy q z) (seen-set w.seen c x q e);
        fresh = λ q e. k.fresh q (unseen-set w.seen c x q o e);
        keeps = sees w c x k.keeps;
      }

  -- a node without sinks is on the path and off again
  keep_bare : (w : Walk) (c : ℕ) → c < n → Keeping w → Keeping (seeing (seeing w c OnPath) c Explored)
  keep_bare w c l k =
      record {
        given = see_given (seeing w c OnPath) c Explored l (see_given w c OnPath l k.given);
        busy = λ q e. k.busy q (seen_twice w.seen c q e);
        fresh = λ q e. k.fresh q (unseen-set w.seen c OnPath q (λ z. cc) (unseen-set (set w.seen c OnPath) c Explored q (λ z. cc) e));
        keeps = sees (seeing w c OnPath) c Explored (sees w c OnPath k.keeps);
      }

  abbrev Kept : (Walk → ℕ → Walk) → Type 0
  Kept go = (w : Walk) (q : ℕ) → q < n → seen_at v₀ q ≡ Unseen → Keeping w → Keeping (go w q)

  -- a node that is unseen or on the path was given
  given_in : (w : Walk) → Keeping w → (q : ℕ) (x : Seen) → seen_at w.seen q ≡ x → (x ≡ Explored → ⊥) → (b : Bool) → ltb q n ≡ b → q < n
  given_in w k q x e o true t = ltb-true q n t
  given_in w k q x e o false t = absurd (o (sym e ∙ k.given.after q (ltb-false q n t)))

  module _ (go : Walk → ℕ → Walk) (f : Kept go) (w : Walk) (c s : ℕ) (hc : c < n) (hf : seen_at v₀ c ≡ Unseen) (hs : s < degree w.graph c) (k : Keeping w) where
    abbrev e : Edge
    e = get_or (node_at w.graph c).sinks s no_edge

    abbrev x : Seen
    x = seen_at w.seen e.to

    keep_cut : e.to < n → x ≡ OnPath → Keeping (cut w c s e)
    keep_cut h z =
        record {
          given = record { longer = omega (arith, k.given.longer, (cut-grown w c s e).longer); after = λ j l. two-more w.seen j (k.given.after j l) };
          busy = λ q f. let b : 0 < degree w.graph q = k.busy q (seen_more w.seen q f) in omega (arith, b, (cut-grown w c s e).same q (degree_in w.graph q b));
          fresh = λ q f. k.fresh q (unseen-more w.seen q f);
          keeps = cuts w c s hc hs h k.given.longer (k.busy e.to z) hf k.keeps;
        }

    keep_look : Keeping (look go w c s)
    keep_look =
        pick-by Keeping (unseen? x) (go w e.to) (cond (on_path? x) (cut w c s e) w)
        (λ t. let z : x ≡ Unseen = unseen-true x t in f w e.to (given_in w k e.to x refl (λ u. cc) (ltb e.to n) refl) (k.fresh e.to z) k)
        (λ t. pick-by Keeping (on_path? x) (cut w c s e) w (λ r. let z : x ≡ OnPath = on_path-true x r in keep_cut (given_in w k e.to x refl (λ u. cc) (ltb e.to n) refl) z) (λ r. k))

  keep_sinks : (go : Walk → ℕ → Walk) → Kept go → Grows go → (m : ℕ) (w : Walk) (c s : ℕ) → c < n → seen_at v₀ c ≡ Unseen → s + m ≤ degree w.graph c → Keeping w → Keeping (explore_sinks go w c s m)
  keep_sinks go f g zero w c s hc hf h k = k
  keep_sinks go f g (suc m) w c s hc hf h k =
      keep_sinks go f g m (look go w c s) c (suc s) hc hf (omega (arith, (look-grown go g w c s).same c (omega (arith, k.given.longer)))) (keep_look go f w c s hc hf (omega arith) k)

  keep_node : (go : Walk → ℕ → Walk) → Kept go → Grows go → (w : Walk) (c : ℕ) → c < n → seen_at v₀ c ≡ Unseen → Keeping w → Keeping (seeing (explore_sinks go (seeing w c OnPath) c 0 (degree w.graph c)) c Explored)
  keep_node go f g w c hc hf k = by (degree w.graph c) refl
    where
      by : (m : ℕ) → degree w.graph c ≡ m → Keeping (seeing (explore_sinks go (seeing w c OnPath) c 0 m) c Explored)
      by zero z = keep_bare w c hc k
      by (suc m) z =
          keep_see (explore_sinks go (seeing w c OnPath) c 0 (suc m)) c Explored hc (λ e. cc) (λ e. absurd (cc))
          (keep_sinks go f g (suc m) (seeing w c OnPath) c 0 hc hf (omega arith) (keep_see w c OnPath hc (λ e. cc) (λ e. omega arith) k))

  keep_from : (d : ℕ) → Kept (explore_from d)
  keep_from zero w c hc hf k = k
  keep_from (suc d) w c hc hf k = keep_node (λ u q. explore_from d u q) (keep_from d) (from-grown d) w c hc hf k

  pub cutting_keeps : (g : Graph) → length g ≡ n → reached g ≡ v₀ → P (beginning g) → Keeping (cutting g)
  unfolding cutting
  cutting_keeps g e r h =
      let first : Keeping (beginning g) =
      record {
        given = record { longer = omega arith; after = λ k l. get_or-eq_default (reached g) Explored (omega (arith, reached-long g)) };
        busy = λ q z. absurd (reached-none g q z);
        fresh = λ q z. subst (λ (v : List Seen). seen_at v q ≡ Unseen) r z;
        keeps = h;
      } in
      each_keeps Keeping (start (length g)) n
      (λ p w l k. pick-by Keeping (unseen? (seen_at w.seen p)) (explore_from (length g) w p) w (λ z. keep_from (length g) w p l (k.fresh p (unseen-true (seen_at w.seen p) z)) k) (λ z. k))
      (beginning g) first (length g) (omega arith)
