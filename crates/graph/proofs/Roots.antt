-- The loops over the nodes, against the walks over all roots and all starts.
-- Assumes nothing.
use Prim.Native.Nat.{ℕ, zero, suc, ◌+◌, ◌-◌, ◌≤◌, ◌<◌}
use native.Mathlib.Omega.{arith}
use native.Mathlib.Nat.{zero-add}
use mathlib.Core.Path.{◌≡◌, refl, ap, sym, ◌∙◌}
use mathlib.Core.Bool.{Bool, true, false, cond}
use mathlib.Core.List.{List}
use lib.ListN.{length, get_or, take, replicate}
use lib.Seq.{get_or-take, length-take-le}
use Rattle.laws.proofs.Lists.{get_d_any}
use Rattle.laws.specs.Each.{each}
use Rattle.laws.proofs.Each.{next}
use Rattle.laws.proofs.Lists.{take-replicate}
use Rattle.graph.specs.declared.Tables.{Tables}
use Rattle.graph.specs.declared.reach.Seen.{Seen}
use Rattle.graph.specs.declared.reach.Seen.TheVariants.{Unseen, Explored}
use Rattle.graph.specs.Graph.{Node, Graph, none?}
use Rattle.graph.specs.Cutting.{Walk, mark_from, mark_root, reached, seen_at, explore_from, start, beginning, cutting, unseen?}
use Rattle.graph.specs.code.Tables.{owned, items_of, lines_of, graph_of, Roomy}
use Rattle.graph.specs.code.Explore.{Explore, between, walk_of, Ready, Walked}
use Rattle.graph.proofs.Lists.{node-graph, unseens_le}
use Rattle.graph.proofs.Cuts.{length-graph}
use Rattle.graph.proofs.Resumes.{Grown, grown_refl, grown_trans, from-grown}

module _ (t : Tables) where
  abbrev g : Graph
  g = graph_of t

  size : length g ≡ t.n
  size = length-graph t.n (lines_of t) (items_of t.sources) (items_of t.sinks)

  -- the marks once the nodes before p are looked at
  abbrev pub rooted : ℕ → List Seen
  rooted p = each (replicate t.n Unseen) (mark_root t.n g) p

  -- one more node is looked at
  pub roots-look : (p : ℕ) → p < t.n → rooted (p + 1) ≡ cond (none? (owned p (items_of t.sources))) (mark_from t.n g (rooted p) p) (rooted p)
  roots-look p h =
      next (replicate t.n Unseen) (mark_root t.n g) p
      ∙ ap (λ (n : Node). cond (none? n.sources) (mark_from t.n g (rooted p) p) (rooted p)) (node-graph t.n (lines_of t) (items_of t.sources) (items_of t.sinks) p h)

  pub roots-first : t.n ≤ 48 → take t.n (replicate 48 Unseen) ≡ rooted 0
  unfolding each
  roots-first h = take-replicate t.n 48 Unseen h

  pub roots-last : rooted t.n ≡ reached g
  unfolding reached
  roots-last = ap (λ (n : ℕ). each (replicate n Unseen) (mark_root n g) n) (sym size)

pick-grown : (h : Graph) (b : Bool) (u w : Walk) → Grown h u.graph → Grown h w.graph → Grown h (cond b u w).graph
pick-grown h true u w a b = a
pick-grown h false u w a b = b

-- the walk after the starts before p
abbrev pub before : ℕ → Walk → ℕ → Walk
before d w p = each w (start d) p

start-grown : (d : ℕ) (w : Walk) (p : ℕ) → Grown w.graph (start d p w).graph
start-grown d w p = pick-grown w.graph (unseen? (seen_at w.seen p)) (explore_from d w p) w (from-grown d w p) (grown_refl w.graph)

pub starts-grown : (d : ℕ) (w : Walk) (p k : ℕ) → Grown (before d w p).graph (before d w (k + p)).graph
unfolding each
starts-grown d w p zero = rw (zero-add p) (grown_refl (before d w p).graph)
starts-grown d w p (suc k) = let e : suc k + p ≡ suc (k + p) = omega arith in rw e (grown_trans (starts-grown d w p k) (start-grown d (before d w (k + p)) (k + p)))

-- Before start p, with n nodes given: the walk is that after the starts before p.
pub record Started (t : Tables) (s : Explore) (p : ℕ) : Type 0 where
  pub ready : Ready s
  pub given : s.given ≡ t.n
  pub lines : s.tables.lines ≡ t.lines
  pub within : p ≤ t.n
  pub rest : walk_of s ≡ before t.n (beginning (graph_of t)) p

pub starts-last : (t : Tables) → before t.n (beginning (graph_of t)) t.n ≡ cutting (graph_of t)
unfolding cutting
starts-last t = ap (λ (n : ℕ). before n (beginning (graph_of t)) n) (sym (size t))

module _ (t : Tables) (s : Explore) (p : ℕ) (l : Started t s p) (h : p < t.n) where
  seen_same : unseen? (seen_at (walk_of s).seen p) ≡ unseen? (get_or s.seen p Unseen)
  seen_same =
      ap unseen?
      (get_or-take s.tables.n s.seen p Explored (omega (arith, l.given, l.ready.count))
      ∙ get_d_any s.seen p Explored Unseen (omega (arith, l.given, l.ready.all, l.ready.count, l.ready.sound.linked.nodes)))

  one_more : before t.n (beginning (graph_of t)) (p + 1) ≡ start t.n p (walk_of s)
  one_more = next (beginning (graph_of t)) (start t.n) p ∙ ap (start t.n p) (sym l.rest)

  pub start-pass : unseen? (get_or s.seen p Unseen) ≡ false → Started t s (p + 1)
  start-pass e =
      record {
        ready = l.ready;
        given = l.given;
        lines = l.lines;
        within = omega arith;
        rest = sym (rw (seen_same ∙ e) at one_more);
      }

  walked : unseen? (get_or s.seen p Unseen) ≡ true → before t.n (beginning (graph_of t)) (p + 1) ≡ explore_from t.n (walk_of s) p
  walked e = rw (seen_same ∙ e) at one_more

  pub start-walk : unseen? (get_or s.seen p Unseen) ≡ true → (y : Explore) → Walked s p y → Started t y (p + 1)
  start-walk e y k =
      record {
        ready = k.ready;
        given = k.given ∙ l.given;
        lines = k.lines ∙ l.lines;
        within = omega arith;
        rest = k.walk ∙ ap (λ (m : ℕ). explore_from m (walk_of s) p) l.given ∙ sym (walked e);
      }

  pub start-over : unseen? (get_or s.seen p Unseen) ≡ true → 48 < length (explore_from s.given (walk_of s) p).graph → 48 < length (cutting (graph_of t)).graph
  start-over e o =
      let z : t.n - (p + 1) + (p + 1) ≡ t.n = omega arith in
      let far : before t.n (beginning (graph_of t)) (t.n - (p + 1) + (p + 1)) ≡ cutting (graph_of t) = ap (before t.n (beginning (graph_of t))) z ∙ starts-last t in
      let at : 48 < length (before t.n (beginning (graph_of t)) (p + 1)).graph = rw (walked e) (rw l.given at o) in
      rw (← far) (omega (arith, at, (starts-grown t.n (beginning (graph_of t)) (p + 1) (t.n - (p + 1))).longer))

pub start_first : (t : Tables) → Roomy t → length t.names ≡ 48 → t.cuts ≡ 0 → (sn : List Seen) → length sn ≡ 48 → take t.n sn ≡ reached (graph_of t) →
    Started t (between t.n t sn) 0
unfolding each
start_first t b named cu sn all e =
    let k : length (take t.n sn) ≡ t.n = length-take-le t.n sn (omega (arith, b.linked.nodes)) in
    record {
      ready = record { all = all; named = named; sound = b; count = omega arith; room = omega (arith, unseens_le (take t.n sn)); within = tt };
      given = refl;
      lines = refl;
      within = omega arith;
      rest = rw (e, cu);
    }

pub start-last : (t : Tables) (s : Explore) (p : ℕ) → Started t s p → t.n ≤ p → walk_of s ≡ cutting (graph_of t)
start-last t s p l h =
    let z : p ≡ t.n = omega (arith, l.within) in
    l.rest ∙ ap (before t.n (beginning (graph_of t))) z ∙ starts-last t
