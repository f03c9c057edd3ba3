-- Each way through a step of the walk with an explicit path: what is left of the walk stays, and the bound falls.
-- Assumes nothing.
use Prim.Native.Nat.{ℕ, zero, suc, ◌+◌, ◌-◌, ◌≤◌, ◌<◌}
use native.Mathlib.Omega.{arith}
use native.Mathlib.Numerals.{add-one}
use mathlib.Core.Path.{◌≡◌, refl, ap, sym, subst, ◌∙◌}
use mathlib.Core.Bool.{Bool, true, false}
use mathlib.Core.List.{List, [], ◌∷◌}
use lib.Dec.{ltb}
use lib.ListN.{length, get_or, set, take, drop, length-set}
use lib.Seq.{get_or-take, take-set-lt, length-take-le}
use Rattle.std.proofs.lemmas.List.{length-take}
use Rattle.laws.proofs.Lists.{get_d_any}
use Rattle.std.specs.Prelude.{Some, None}
use Rattle.tables.specs.declared.Table.{Table}
use Rattle.tables.specs.Tables.{pushed_if, last_of, popped}
use Rattle.graph.specs.declared.Item.{Item}
use Rattle.graph.specs.declared.Tables.{Tables}
use Rattle.graph.specs.declared.reach.Frame.{Frame}
use Rattle.graph.specs.declared.reach.Seen.{Seen}
use Rattle.graph.specs.declared.reach.Seen.TheVariants.{Unseen, Marked, Explored}
use Rattle.graph.specs.Graph.{Edge, Graph}
use Rattle.graph.specs.Cutting.{mark_from, mark_sinks, seen_at, unseen?}
use Rattle.graph.specs.code.Tables.{Linked, Aimed, owned, edge_of, items_of, lines_of, graph_of}
use Rattle.graph.specs.Outcome.{no_item}
use Rattle.graph.specs.code.Path.{Path, path_of, state, unseens, looks, resume, answer, seen_of, Good, Stepped}
use Rattle.graph.proofs.Paths.{path-push, path-pop, path-none}
use Rattle.graph.proofs.AimLaws.{all_in}
use Rattle.graph.proofs.Lists.{unseens-set, unseens_le, owned-other, owned-own, owned-end, node-graph}

-- the walk from a node that is not unseen changes nothing
pub mark-seen : (d : ℕ) (g : Graph) (v : List Seen) (q : ℕ) → unseen? (seen_at v q) ≡ false → mark_from d g v q ≡ v
mark-seen zero g v q e = refl
mark-seen (suc d) g v q e = rw e

module _ (t : Tables) (b : Linked t) (xs : List Item) (is : xs ≡ items_of t.sinks) where
  few : length xs ≤ 88
  few = omega (arith, ap length is, length-take t.sinks.count t.sinks.items, b.sink_room)

  mark-unseen : (v : List Seen) (d q : ℕ) → q < t.n → unseen? (seen_at v q) ≡ true → mark_from (suc d) (graph_of t) v q ≡ mark_sinks (mark_from d (graph_of t)) (set v q Marked) (owned q xs)
  mark-unseen v d q l s = rw (s, node-graph t.n (lines_of t) (items_of t.sources) (items_of t.sinks) q l, is)

  -- the frame's records are gone through
  resume-end : (d : ℕ) (v : List Seen) (f : Frame) (fs : List Frame) → length xs ≤ f.next → resume d (graph_of t) xs v (f ∷ fs) ≡ resume (suc d) (graph_of t) xs v fs
  unfolding resume
  resume-end d v f fs h = rw (owned-end f.node f.next xs h)

  -- the frame looks at the record e: the three ways on, of what is left of the walk
  module _ (v : List Seen) (f : Frame) (fs : List Frame) (h : f.next < length xs) (e : Item) (here : get_or xs f.next no_item ≡ e) where
    to_in : e.to < t.n
    to_in = rw here at (all_in (λ (x : Item). x.to < t.n) xs f.next no_item h (subst (Aimed t.n) (sym is) b.sink_aims))

    on : Frame
    on = record { node = f.node; next = suc f.next }

    resume-other : (d : ℕ) → (e.owner ≡ f.node → ⊥) → resume d (graph_of t) xs v (f ∷ fs) ≡ resume d (graph_of t) xs v (on ∷ fs)
    unfolding resume on
    resume-other d o = rw (owned-other f.node f.next xs h (λ q. o (rw here at q)))

    rest : ℕ → List Edge
    rest k = owned f.node (drop k xs)

    next-own : e.owner ≡ f.node → rest f.next ≡ edge_of e ∷ rest (suc f.next)
    unfolding rest
    next-own o = rw (owned-own f.node f.next xs h (rw here o), here)

    resume-seen : (d : ℕ) → e.owner ≡ f.node → unseen? (seen_at v e.to) ≡ false → resume d (graph_of t) xs v (f ∷ fs) ≡ resume d (graph_of t) xs v (on ∷ fs)
    unfolding resume on rest
    resume-seen d o s =
        let go = mark_from d (graph_of t) in
        ap (λ (w : List Seen). resume (suc d) (graph_of t) xs w fs)
        (ap (mark_sinks go v) (next-own o) ∙ ap (λ (w : List Seen). mark_sinks go w (rest (suc f.next))) (mark-seen d (graph_of t) v e.to s))

    resume-push : (d : ℕ) → e.owner ≡ f.node → unseen? (seen_at v e.to) ≡ true →
        resume (suc d) (graph_of t) xs v (f ∷ fs) ≡ resume d (graph_of t) xs (set v e.to Marked) (record { node = e.to; next = 0 } ∷ on ∷ fs)
    unfolding resume on rest
    resume-push d o s =
        let go = mark_from (suc d) (graph_of t) in
        ap (λ (w : List Seen). resume (suc (suc d)) (graph_of t) xs w fs)
        (ap (mark_sinks go v) (next-own o) ∙ ap (λ (w : List Seen). mark_sinks go w (rest (suc f.next))) (mark-unseen v d e.to to_in s))

  -- a step of the code: the path lacks its last frame, f, and is u
  module _ (sn : List Seen) (path : Table Frame 48) (g : Good t (state sn path)) (long : length path.items ≡ 48) (f : Frame) (last : Some f ≡ last_of path) (u : Table Frame 48) (out : u ≡ popped path) where
    abbrev s : Path
    s = state sn path

    abbrev fs : List Frame
    fs = path_of u

    abbrev v : List Seen
    v = seen_of t s

    path-is : s.frames ≡ f ∷ fs
    path-is = path-pop path long (omega (arith, g.room, b.nodes)) f (sym last) u out

    room : suc (length fs) + unseens v ≤ t.n
    room = rw path-is at g.room

    from : answer t xs s ≡ resume (t.n - suc (length fs)) (graph_of t) xs v (f ∷ fs)
    from = ap (λ (l : List Frame). resume (t.n - length l) (graph_of t) xs v l) path-is

    pub step-pop : length xs ≤ f.next → Stepped t xs s (state sn u)
    unfolding looks
    step-pop h =
        record {
          good = record { all = g.all; room = omega (arith, room) };
          same = ap (λ (k : ℕ). resume k (graph_of t) xs v fs) (omega (arith, room)) ∙ sym (from ∙ resume-end (t.n - suc (length fs)) v f fs h);
          less = omega (arith, ap looks path-is);
        }

    -- f looks at the record e, and is back on the path, w, with the next number
    module _ (h : f.next < length xs) (e : Item) (here : get_or xs f.next no_item ≡ e) (long_u : length u.items ≡ 48) (r : Bool) (fits : r ≡ ltb u.count 48) (w : Table Frame 48) (back : w ≡ pushed_if r u (record { node = f.node; next = f.next + 1 })) where
      abbrev moved : Frame
      moved = record { node = f.node; next = f.next + 1 }

      back-is : path_of w ≡ moved ∷ fs
      back-is = path-push u long_u moved (omega (arith, room, b.nodes)) r fits w back

      to_node : e.to < t.n
      to_node = to_in v f fs h e here

      same-seen : unseen? (seen_at v e.to) ≡ unseen? (get_or sn e.to Unseen)
      same-seen = ap unseen? (get_or-take t.n sn e.to Explored to_node ∙ get_d_any sn e.to Explored Unseen (omega (arith, to_node, b.nodes, g.all)))

      pass : ((k : ℕ) → resume k (graph_of t) xs v (f ∷ fs) ≡ resume k (graph_of t) xs v (on v f fs h e here ∷ fs)) → Stepped t xs s (state sn w)
      unfolding looks on
      pass same =
          rw (back-is, add-one f.next)
          (record { good = record { all = g.all; room = room }; same = sym (from ∙ same (t.n - suc (length fs))); less = omega (arith, ap looks path-is, few) })

      pub step-other : (e.owner ≡ f.node → ⊥) → Stepped t xs s (state sn w)
      step-other o = pass (λ k. resume-other v f fs h e here k o)

      pub step-seen : e.owner ≡ f.node → unseen? (get_or sn e.to Unseen) ≡ false → Stepped t xs s (state sn w)
      step-seen o n = pass (λ k. resume-seen v f fs h e here k o (same-seen ∙ n))

      pub step-push : e.owner ≡ f.node → unseen? (get_or sn e.to Unseen) ≡ true → length w.items ≡ 48 → (i : Bool) → i ≡ ltb w.count 48 → (z : Table Frame 48) → z ≡ pushed_if i w (record { node = e.to; next = 0 }) →
          Stepped t xs s (state (set sn e.to Marked) z)
      unfolding looks on
      step-push o n long_w i fit z more =
          let less : suc (unseens (set v e.to Marked)) ≡ unseens v = unseens-set v e.to Marked refl (rw (length-take-le t.n sn (omega (arith, b.nodes, g.all))) to_node) (same-seen ∙ n) in
          let set-is : take t.n (set sn e.to Marked) ≡ set v e.to Marked = take-set-lt t.n sn e.to Marked to_node in
          let more-is : path_of z ≡ record { node = e.to; next = 0 } ∷ moved ∷ fs =
          path-push w long_w (record { node = e.to; next = 0 }) (omega (arith, ap length back-is, room, less, b.nodes)) i fit z more ∙ ap (λ (l : List Frame). record { node = e.to; next = 0 } ∷ l) back-is in
          rw (more-is, add-one f.next)
          (record {
            good = record { all = simp length-set g.all; room = rw set-is (omega (arith, room)) };
            same =
                rw set-is
                (sym (from ∙ ap (λ (m : ℕ). resume m (graph_of t) xs v (f ∷ fs)) (omega (arith, room)) ∙ resume-push v f fs h e here (t.n - suc (suc (length fs))) o (same-seen ∙ n)));
            less = rw set-is (omega (arith, ap looks path-is, few));
          })

  -- where the walk begins, and where the path is empty
  module _ (sn : List Seen) (all : length sn ≡ 48) (p : ℕ) (l : p < t.n) where
    pub seen-first : unseen? (seen_at (take t.n sn) p) ≡ unseen? (get_or sn p Unseen)
    seen-first = ap unseen? (get_or-take t.n sn p Explored l ∙ get_d_any sn p Explored Unseen (omega (arith, b.nodes)))

    module _ (e : unseen? (get_or sn p Unseen) ≡ true) (path : Table Frame 48) (first : path_of path ≡ record { node = p; next = 0 } ∷ []) where
      pub starts-good : Good t (state (set sn p Marked) path)
      starts-good =
          let k : length (take t.n sn) ≡ t.n = length-take-le t.n sn (omega (arith, b.nodes)) in
          record {
            all = simp length-set all;
            room =
                rw (first, take-set-lt t.n sn p Marked l)
                (omega (arith, unseens-set (take t.n sn) p Marked refl (rw k l) (seen-first ∙ e), unseens_le (take t.n sn)));
          }

      pub starts : answer t xs (state (set sn p Marked) path) ≡ mark_from t.n (graph_of t) (take t.n sn) p
      unfolding resume
      starts =
          let i : t.n ≡ suc (t.n - 1) = omega arith in
          rw (first, take-set-lt t.n sn p Marked l)
          (sym (ap (λ (k : ℕ). mark_from k (graph_of t) (take t.n sn) p) i ∙ mark-unseen (take t.n sn) (t.n - 1) p l (seen-first ∙ e)))

  pub ends : (sn : List Seen) (path : Table Frame 48) → Good t (state sn path) → length path.items ≡ 48 → None ≡ last_of path → answer t xs (state sn path) ≡ take t.n sn
  unfolding resume
  ends sn path g long none = rw (path-none path long (omega (arith, g.room, b.nodes)) (sym none)) refl
