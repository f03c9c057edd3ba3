-- The depth bound of both walks is never used up: any larger one gives the same.
-- Assumes nothing.
use Prim.Native.Nat.{ℕ, zero, suc, ◌+◌, ◌≤◌, ◌<◌}
use native.Mathlib.Omega.{arith}
use mathlib.Core.Path.{◌≡◌, refl, ap, sym, ◌∙◌}
use mathlib.Core.Bool.{Bool, true, false, cond, true≢false}
use mathlib.Core.List.{List, [], ◌∷◌}
use lib.Dec.{ltb}
use lib.ListN.{length, get_or, set, replicate, length-replicate, get_or-eq_default}
use borrow.Author.Tests.{ltb-true, ltb-false}
use Rattle.laws.specs.Each.{each}
use Rattle.laws.proofs.Tests.{pick}
use Rattle.graph.specs.declared.reach.Seen.{Seen}
use Rattle.graph.specs.declared.reach.Seen.TheVariants.{Unseen, Marked, OnPath, Explored}
use Rattle.graph.specs.Graph.{Edge, Graph, no_edge, node_at, degree, none?}
use Rattle.graph.specs.Cutting.{Walk, mark_sinks, mark_from, mark_root, reached, cut, seeing, look, explore_sinks, explore_from, start, beginning, cutting, seen_at, unseen?, on_path?}
use Rattle.graph.specs.code.Path.{unseens}
use Rattle.graph.proofs.Lists.{unseens_le, unseens-set, unseens_fall, unseens-append}
use Rattle.graph.proofs.Steps.{mark-seen}
use Rattle.graph.proofs.Keeps.{reached-long}

seen_in : (v : List Seen) (p : ℕ) → unseen? (seen_at v p) ≡ true → (b : Bool) → ltb p (length v) ≡ b → p < length v
seen_in v p e true t = ltb-true p (length v) t
seen_in v p e false t =
    let z : unseen? (seen_at v p) ≡ false = ap unseen? (get_or-eq_default v Explored (ltb-false p (length v) t)) in
    absurd (true≢false (sym e ∙ z))

-- a node seen is one unseen less
one_less : (v : List Seen) (p : ℕ) (y : Seen) → unseen? y ≡ false → unseen? (seen_at v p) ≡ true → suc (unseens (set v p y)) ≡ unseens v
one_less v p y n e = unseens-set v p y n (seen_in v p e (ltb p (length v)) refl) e

-- ---- what roots reach
abbrev Falls : (List Seen → ℕ → List Seen) → Type 0
Falls go = (v : List Seen) (q : ℕ) → unseens (go v q) ≤ unseens v

sinks_fall : (go : List Seen → ℕ → List Seen) → Falls go → (es : List Edge) (v : List Seen) → unseens (mark_sinks go v es) ≤ unseens v
sinks_fall go f [] v = omega arith
sinks_fall go f (e ∷ es) v = omega (arith, sinks_fall go f es (go v e.to), f v e.to)

from-falls : (d : ℕ) (g : Graph) → Falls (mark_from d g)
from-falls zero g v p = omega arith
from-falls (suc d) g v p =
    pick (λ (u : List Seen). unseens u ≤ unseens v) (unseen? (seen_at v p)) (mark_sinks (λ w q. mark_from d g w q) (set v p Marked) (node_at g p).sinks) v
    (omega (arith, sinks_fall (λ w q. mark_from d g w q) (from-falls d g) (node_at g p).sinks (set v p Marked), unseens_fall v p Marked refl))
    (omega arith)

sinks-enough : (m : ℕ) (go on : List Seen → ℕ → List Seen) → Falls go → ((v : List Seen) (q : ℕ) → unseens v ≤ m → go v q ≡ on v q) → (es : List Edge) (v : List Seen) → unseens v ≤ m → mark_sinks go v es ≡ mark_sinks on v es
sinks-enough m go on f h [] v l = refl
sinks-enough m go on f h (e ∷ es) v l =
    sinks-enough m go on f h es (go v e.to) (omega (arith, f v e.to)) ∙ ap (λ (u : List Seen). mark_sinks on u es) (h v e.to l)

pick_same : {A : Type 0} (b : Bool) (x y z : A) → (b ≡ true → x ≡ y) → cond b x z ≡ cond b y z
pick_same true x y z f = f refl
pick_same false x y z f = refl

none_left : (v : List Seen) (p : ℕ) → unseens v ≤ 0 → unseen? (seen_at v p) ≡ false
none_left v p l = go (unseen? (seen_at v p)) refl
  where
    go : (b : Bool) → unseen? (seen_at v p) ≡ b → b ≡ false
    go true e = let z = one_less v p Marked refl e in absurd (omega (arith, z))
    go false e = refl

from-enough : (d e : ℕ) (g : Graph) (v : List Seen) (p : ℕ) → unseens v ≤ d → unseens v ≤ e → mark_from d g v p ≡ mark_from e g v p
from-enough zero e g v p k l = sym (mark-seen e g v p (none_left v p k))
from-enough (suc d) zero g v p k l = mark-seen (suc d) g v p (none_left v p l)
from-enough (suc d) (suc e) g v p k l =
    pick_same (unseen? (seen_at v p)) (mark_sinks (λ w q. mark_from d g w q) (set v p Marked) (node_at g p).sinks) (mark_sinks (λ w q. mark_from e g w q) (set v p Marked) (node_at g p).sinks) v
    (λ t.
    let z = one_less v p Marked refl t in
    sinks-enough (unseens (set v p Marked)) (λ w q. mark_from d g w q) (λ w q. mark_from e g w q) (from-falls d g)
    (λ u q h. from-enough d e g u q (omega (arith, z)) (omega (arith, z))) (node_at g p).sinks (set v p Marked) (omega arith))

root_falls : (d : ℕ) (g : Graph) (p : ℕ) (v : List Seen) → unseens (mark_root d g p v) ≤ unseens v
root_falls d g p v = pick (λ (u : List Seen). unseens u ≤ unseens v) (none? (node_at g p).sources) (mark_from d g v p) v (from-falls d g v p) (omega arith)

root_enough : (d e : ℕ) (g : Graph) (p : ℕ) (v : List Seen) → unseens v ≤ d → unseens v ≤ e → mark_root d g p v ≡ mark_root e g p v
root_enough d e g p v k l = ap (λ (u : List Seen). cond (none? (node_at g p).sources) u v) (from-enough d e g v p k l)

-- a counting loop, by two steps that agree where the bound holds
module _ {S : Type 0} (size : S → ℕ) (m : ℕ) (step other : ℕ → S → S) (falls : (k : ℕ) (s : S) → size (step k s) ≤ size s) (agree : (k : ℕ) (s : S) → size s ≤ m → step k s ≡ other k s) where
  each-falls : (s : S) (k : ℕ) → size (each s step k) ≤ size s
  unfolding each
  each-falls s zero = omega arith
  each-falls s (suc k) = omega (arith, falls k (each s step k), each-falls s k)

  each-agree : (s : S) → size s ≤ m → (k : ℕ) → each s step k ≡ each s other k
  unfolding each
  each-agree s h zero = refl
  each-agree s h (suc k) = agree k (each s step k) (omega (arith, each-falls s k)) ∙ ap (other k) (each-agree s h k)

pub reached-enough : (g : Graph) (more : ℕ) → each (replicate (length g) Unseen) (mark_root (length g + more) g) (length g) ≡ reached g
unfolding reached
reached-enough g more =
    each-agree unseens (length g) (mark_root (length g + more) g) (mark_root (length g) g) (root_falls (length g + more) g)
    (λ p v h. root_enough (length g + more) (length g) g p v (omega arith) h)
    (replicate (length g) Unseen) (omega (arith, unseens_le (replicate (length g) Unseen), length-replicate {A = Seen} (length g) Unseen)) (length g)

-- ---- cutting
abbrev left : Walk → ℕ
left w = unseens w.seen

abbrev Sinks : (Walk → ℕ → Walk) → Type 0
Sinks go = (w : Walk) (q : ℕ) → left (go w q) ≤ left w

look-falls : (go : Walk → ℕ → Walk) → Sinks go → (w : Walk) (c s : ℕ) → left (look go w c s) ≤ left w
look-falls go f w c s =
    let e : Edge = get_or (node_at w.graph c).sinks s no_edge in
    let x : Seen = seen_at w.seen e.to in
    pick (λ (u : Walk). left u ≤ left w) (unseen? x) (go w e.to) (cond (on_path? x) (cut w c s e) w) (f w e.to)
    (pick (λ (u : Walk). left u ≤ left w) (on_path? x) (cut w c s e) w (omega (arith, unseens-append w.seen)) (omega arith))

walk-falls : (go : Walk → ℕ → Walk) → Sinks go → (k : ℕ) (w : Walk) (c s : ℕ) → left (explore_sinks go w c s k) ≤ left w
walk-falls go f zero w c s = omega arith
walk-falls go f (suc k) w c s = omega (arith, walk-falls go f k (look go w c s) c (suc s), look-falls go f w c s)

explore_falls : (d : ℕ) → Sinks (explore_from d)
explore_falls zero w c = omega arith
explore_falls (suc d) w c =
    let u : Walk = explore_sinks (λ x q. explore_from d x q) (seeing w c OnPath) c 0 (degree w.graph c) in
    omega (
      arith,
      unseens_fall u.seen c Explored refl,
      walk-falls (λ x q. explore_from d x q) (explore_falls d) (degree w.graph c) (seeing w c OnPath) c 0,
      unseens_fall w.seen c OnPath refl,
    )

abbrev Agree : ℕ → (Walk → ℕ → Walk) → (Walk → ℕ → Walk) → Type 0
Agree m go on = (w : Walk) (q : ℕ) → unseen? (seen_at w.seen q) ≡ true → left w ≤ m → go w q ≡ on w q

look-agree : (m : ℕ) (go on : Walk → ℕ → Walk) → Agree m go on → (w : Walk) (c s : ℕ) → left w ≤ m → look go w c s ≡ look on w c s
look-agree m go on f w c s l =
    let e : Edge = get_or (node_at w.graph c).sinks s no_edge in
    let x : Seen = seen_at w.seen e.to in
    pick_same (unseen? x) (go w e.to) (on w e.to) (cond (on_path? x) (cut w c s e) w) (λ t. f w e.to t l)

walk-agree : (m : ℕ) (go on : Walk → ℕ → Walk) → Sinks go → Agree m go on → (k : ℕ) (w : Walk) (c s : ℕ) → left w ≤ m → explore_sinks go w c s k ≡ explore_sinks on w c s k
walk-agree m go on h f zero w c s l = refl
walk-agree m go on h f (suc k) w c s l =
    walk-agree m go on h f k (look go w c s) c (suc s) (omega (arith, look-falls go h w c s))
    ∙ ap (λ (u : Walk). explore_sinks on u c (suc s) k) (look-agree m go on f w c s l)

explore_enough : (d e : ℕ) (w : Walk) (c : ℕ) → unseen? (seen_at w.seen c) ≡ true → left w ≤ d → left w ≤ e → explore_from d w c ≡ explore_from e w c
explore_enough zero e w c t k l = let z = one_less w.seen c OnPath refl t in absurd (omega (arith, z))
explore_enough (suc d) zero w c t k l = let z = one_less w.seen c OnPath refl t in absurd (omega (arith, z))
explore_enough (suc d) (suc e) w c t k l =
    let z = one_less w.seen c OnPath refl t in
    ap (λ (u : Walk). seeing u c Explored)
    (walk-agree (left (seeing w c OnPath)) (λ x q. explore_from d x q) (λ x q. explore_from e x q) (explore_falls d)
    (λ u q a b. explore_enough d e u q a (omega (arith, z)) (omega (arith, z))) (degree w.graph c) (seeing w c OnPath) c 0 (omega arith))

start_falls : (d p : ℕ) (w : Walk) → left (start d p w) ≤ left w
start_falls d p w = pick (λ (u : Walk). left u ≤ left w) (unseen? (seen_at w.seen p)) (explore_from d w p) w (explore_falls d w p) (omega arith)

start-enough : (d e p : ℕ) (w : Walk) → left w ≤ d → left w ≤ e → start d p w ≡ start e p w
start-enough d e p w k l = pick_same (unseen? (seen_at w.seen p)) (explore_from d w p) (explore_from e w p) w (λ t. explore_enough d e w p t k l)

pub cutting-enough : (g : Graph) (more : ℕ) → each (beginning g) (start (length g + more)) (length g) ≡ cutting g
unfolding cutting
cutting-enough g more =
    each-agree left (length g) (start (length g + more)) (start (length g)) (start_falls (length g + more))
    (λ p w h. start-enough (length g + more) (length g) p w (omega arith) h)
    (beginning g) (omega (arith, unseens_le (reached g), reached-long g)) (length g)
