-- Each way through a step of the cutting walk, as the walks of `Cut` have it: what is left of the walk stays.
-- Assumes nothing.
use Prim.Native.Nat.{ℕ, zero, suc, ◌+◌, ◌≤◌, ◌<◌}
use native.Mathlib.Omega.{arith}
use native.Mathlib.Nat.{sub-zero}
use mathlib.Core.Path.{◌≡◌, refl, ap, sym, ◌∙◌}
use mathlib.Core.Bool.{Bool, true, false, cond}
use mathlib.Core.List.{List, [], ◌∷◌, ◌++◌}
use lib.ListN.{length, get_or, set, length-set, length-append, get_or-append}
use Rattle.graph.specs.declared.reach.Frame.{Frame}
use Rattle.graph.specs.declared.reach.Seen.{Seen}
use Rattle.graph.specs.declared.reach.Seen.TheVariants.{OnPath, Explored}
use Rattle.graph.specs.Graph.{Edge, Node, Graph, no_edge, bare, node_at, degree}
use Rattle.graph.specs.Cutting.{Walk, cut, cut_graph, look, explore_from, explore_sinks, seeing, seen_at, unseen?, on_path?}
use Rattle.graph.specs.code.Explore.{rest, resume}
use Rattle.graph.proofs.Stands.{seen-on_path}

-- what no step of the walk undoes: the graph does not shrink, and a node keeps the number of its sinks
pub record Grown (g h : Graph) : Type 0 where
  pub longer : length g ≤ length h
  pub same : (c : ℕ) → c < length g → degree h c ≡ degree g c

pub grown_refl : (g : Graph) → Grown g g
grown_refl g = record { longer = omega arith; same = λ c l. refl }

pub grown_trans : {g h k : Graph} → Grown g h → Grown h k → Grown g k
grown_trans a b = record { longer = omega (arith, a.longer, b.longer); same = λ c l. b.same c (omega (arith, a.longer)) ∙ a.same c l }

-- a node in another's place, with as many sinks
degree-set : (g : Graph) (q c : ℕ) (x : Node) → length x.sinks ≡ degree g q → degree (set g q x) c ≡ degree g c
degree-set [] q c x e = refl
degree-set (n ∷ g) zero zero x e = e
degree-set (n ∷ g) zero (suc c) x e = refl
degree-set (n ∷ g) (suc q) zero x e = refl
degree-set (n ∷ g) (suc q) (suc c) x e = degree-set g q c x e

grown-set : (g : Graph) (q : ℕ) (x : Node) → length x.sinks ≡ degree g q → Grown g (set g q x)
grown-set g q x e = record { longer = simp length-set (omega arith); same = λ c l. degree-set g q c x e }

grown-append : (g h : Graph) → Grown g (g ++ h)
grown-append g h =
    record { longer = simp length-append (omega arith); same = λ c l. ap (λ (n : Node). length n.sinks) (get_or-append g h bare c l) }

pub length_cut : (g : Graph) (c s : ℕ) (e : Edge) → length (cut_graph g c s e) ≡ length g + 2
length_cut g c s e = simp (length-append, length-set)

pub cut-grown : (w : Walk) (c s : ℕ) (e : Edge) → Grown w.graph (cut w c s e).graph
cut-grown w c s e =
    grown_trans (grown-set w.graph c _ (length-set (node_at w.graph c).sinks s _))
    (grown_trans (grown-set _ e.to _ refl) (grown-append _ _))

pick-grown : (g : Graph) (a b : Bool) (x y z : Walk) → Grown g x.graph → Grown g y.graph → Grown g z.graph → Grown g (cond a x (cond b y z)).graph
pick-grown g true b x y z p q r = p
pick-grown g false true x y z p q r = q
pick-grown g false false x y z p q r = r

abbrev Go : Type 0
Go = Walk → ℕ → Walk

abbrev pub Grows : Go → Type 0
Grows go = (w : Walk) (q : ℕ) → Grown w.graph (go w q).graph

pub look-grown : (go : Go) → Grows go → (w : Walk) (c s : ℕ) → Grown w.graph (look go w c s).graph
look-grown go h w c s =
    let e = get_or (node_at w.graph c).sinks s no_edge in
    let x = seen_at w.seen e.to in
    pick-grown w.graph (unseen? x) (on_path? x) (go w e.to) (cut w c s e) w (h w e.to) (cut-grown w c s e) (grown_refl w.graph)

pub sinks-grown : (go : Go) → Grows go → (w : Walk) (c s k : ℕ) → Grown w.graph (explore_sinks go w c s k).graph
sinks-grown go h w c s zero = grown_refl w.graph
sinks-grown go h w c s (suc k) = grown_trans (look-grown go h w c s) (sinks-grown go h (look go w c s) c (suc s) k)

pub from-grown : (d : ℕ) → Grows (explore_from d)
from-grown zero w c = grown_refl w.graph
from-grown (suc d) w c = sinks-grown (λ u q. explore_from d u q) (from-grown d) (seeing w c OnPath) c 0 (degree w.graph c)

pub resume-grown : (d : ℕ) (w : Walk) (fs : List Frame) → Grown w.graph (resume d w fs).graph
unfolding resume
resume-grown d w [] = grown_refl w.graph
resume-grown d w (f ∷ fs) =
    grown_trans (sinks-grown (λ u q. explore_from d u q) (from-grown d) w f.node f.next (rest w f))
    (resume-grown (suc d) (seeing (explore_sinks (λ u q. explore_from d u q) w f.node f.next (rest w f)) f.node Explored) fs)

-- the last frame has no sink left
pub resume-leave : (d : ℕ) (w : Walk) (f : Frame) (fs : List Frame) → degree w.graph f.node ≤ f.next → resume d w (f ∷ fs) ≡ resume (suc d) (seeing w f.node Explored) fs
unfolding resume
resume-leave d w f fs h = let e : rest w f ≡ 0 = omega arith in rw e

-- the walk from a node that was unseen begins
pub resume-enter : (d : ℕ) (w : Walk) (q : ℕ) (fs : List Frame) → resume (suc d) (explore_from (suc d) w q) fs ≡ resume d (seeing w q OnPath) (record { node = q; next = 0 } ∷ fs)
unfolding resume
resume-enter d w q fs =
    ap (λ (k : ℕ). resume (suc d) (seeing (explore_sinks (explore_from d) (seeing w q OnPath) q 0 k) q Explored) fs) (sym (sub-zero (degree w.graph q)))

-- the last frame looks at its next sink
module _ (d : ℕ) (w : Walk) (f : Frame) (fs : List Frame) (h : f.next < degree w.graph f.node) (l : f.node < length w.graph) where
  abbrev on : Frame
  on = record { node = f.node; next = suc f.next }

  abbrev e : Edge
  e = get_or (node_at w.graph f.node).sinks f.next no_edge

  abbrev seen : Seen
  seen = seen_at w.seen e.to

  resume-look : (u : Walk) → look (explore_from d) w f.node f.next ≡ u → Grown w.graph u.graph → resume d w (f ∷ fs) ≡ resume d u (on ∷ fs)
  unfolding resume
  resume-look u is g =
      let k : rest w f ≡ suc (rest u on) = omega (arith, g.same f.node l) in
      ap (λ (m : ℕ). resume (suc d) (seeing (explore_sinks (explore_from d) w f.node f.next m) f.node Explored) fs) k
      ∙ ap (λ (v : Walk). resume (suc d) (seeing (explore_sinks (explore_from d) v f.node (suc f.next) (rest u on)) f.node Explored) fs) is

  pub resume-pass : unseen? seen ≡ false → on_path? seen ≡ false → resume d w (f ∷ fs) ≡ resume d w (on ∷ fs)
  resume-pass a b = resume-look w (rw (a, b)) (grown_refl w.graph)

  pub resume-cut : on_path? seen ≡ true → resume d w (f ∷ fs) ≡ resume d (cut w f.node f.next e) (on ∷ fs)
  resume-cut b = resume-look (cut w f.node f.next e) (rw (seen-on_path seen b, b)) (cut-grown w f.node f.next e)

  pub resume-go : unseen? seen ≡ true → resume d w (f ∷ fs) ≡ resume d (explore_from d w e.to) (on ∷ fs)
  resume-go a = resume-look (explore_from d w e.to) (rw a) (from-grown d w e.to)
