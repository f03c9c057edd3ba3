-- Each way through a step of the walk with an explicit path: what is left of the walk stays, and the bound falls.
-- Assumes nothing.
use Prim.Native.Nat.{ℕ, zero, suc, ◌+◌, ◌-◌, ◌≤◌, ◌<◌}
use native.Mathlib.Omega.{arith}
use native.Mathlib.Numerals.{add-one}
use mathlib.Core.Path.{◌≡◌, refl, ap, sym, ◌∙◌}
use mathlib.Core.Logic.{◌⊎◌, inl, inr}
use mathlib.Core.Bool.{Bool, true, false}
use borrow.Author.Tests.{lt-ltb, le-ltb}
use lib.IntN.{ℤ, pos, nat_abs}
use Rattle.std.proofs.lemmas.List.{map-set, length-take, get_or-take}
use Rattle.std.proofs.lemmas.Option.{none-some, slice_get-get_or, slice_get_within, get_or_from_slice_get}
use Rattle.std.specs.Prelude.{Some, None}
use Rattle.std.specs.Option.{is_none}
use mathlib.Core.Option.{none, some}
use mathlib.Core.List.{List, ◌∷◌}
use lib.Dec.{ltb}
use lib.ListN.{length, get_or, set, take, drop, drop_of_length-le, length-set, replicate, length-replicate, get_or-replicate}
use lib.Seq.{get_or-set_same, get_or-set_other, drop-cons}
use Rattle.laws.specs.Lists.{stack_of}
use Rattle.tables.specs.declared.Table.{Table}
use Rattle.tables.specs.Tables.{empty, pushed, size, last_of, popped}
use Rattle.laws.proofs.Lists.{stack_last}
use Rattle.laws.proofs.Tests.{same?, less?}
use Rattle.graph.specs.Shape.{Shape, incidents_at}
use Rattle.grid.specs.declared.heights.Frame.{Frame}
use Rattle.grid.specs.Lists.{nothing}
use Rattle.grid.specs.Columns.{at, incidents}
use Rattle.grid.specs.Heights.{Rows, fresh, enter, walk_from, reached_from}
use Rattle.grid.specs.code.Arrays.{Inside}
use Rattle.grid.specs.code.Walk.{raised, raised_row, reached_in, no_frame, row_by, signed_by, visits, onward, resume, unseen, looks, Path, on_path, reached, answer, Framed, Good, Stepped}
use Rattle.grid.proofs.HeightLaws.{unseen-set, unseen-replicate}
use Rattle.grid.proofs.SignedLaws.{raised_by, near_by}
use Rattle.grid.proofs.WalkLaws.{enter-visits, none-everywhere, reached-fresh}

-- a frame is stored
framed-set : (n : ℕ) (fs : List Frame) (d e i : ℕ) (x : Frame) → i < length fs → ((j : ℕ) → j < e → (j ≡ i → ⊥) → j < d) → Framed n fs d → x.node < n → nat_abs x.row ≤ i →
    Framed n (set fs i x) e
framed-set n fs d e i x l k h a b = record { node = λ j z. node j z (same? j i); near = λ j z. near j z (same? j i) }
  where
    node : (j : ℕ) → j < e → (j ≡ i) ⊎ (j ≡ i → ⊥) → (get_or (set fs i x) j no_frame).node < n
    node j z (inl q) = rw (q, get_or-set_same fs i x no_frame l) a
    node j z (inr o) = rw (get_or-set_other fs i j x no_frame o) (h.node j (k j z o))

    near : (j : ℕ) → j < e → (j ≡ i) ⊎ (j ≡ i → ⊥) → nat_abs (get_or (set fs i x) j no_frame).row ≤ j
    near j z (inl q) = rw (q, get_or-set_same fs i x no_frame l) b
    near j z (inr o) = rw (get_or-set_other fs i j x no_frame o) (h.near j (k j z o))

-- no last item, so none
no_last : (t : Table Frame 48) → last_of t ≡ None → size t ≤ 0
no_last t e = elim (less? 0 (size t)) [
  | inl h ↦ absurd (none-some _ (sym e ∙ slice_get-get_or (take t.count t.items) (size t - 1) no_frame (omega (arith, h))))
  | inr h ↦ h
]

-- a walk that comes to a node with a row changes nothing
walk-done : (d : ℕ) (g : Shape) (row : ℕ) (v : Rows) (q : ℕ) → fresh v q ≡ false → walk_from d g row v q ≡ v
walk-done zero g row v q e = refl
walk-done (suc d) g row v q e =
    ap (λ (t : Bool). enter t (λ u p. walk_from d g (row - 1) u p) (λ u p. walk_from d g (row + 1) u p) v (set v q (some row)) (incidents_at g q)) e

module _ (g : Shape) where
  abbrev n : ℕ
  n = length g

  -- a walk that comes to a node without one looks at all that it leads to
  walk-fresh : (d : ℕ) (z : ℤ) (v : Rows) (q : ℕ) → fresh v q ≡ true →
      walk_from (suc d) g (raised n z) v q ≡ onward g d (record { node = q; row = z; at = 0 }) (set v q (some (raised n z)))
  walk-fresh d z v q e =
      let row = raised n z in
      let e₀ : length (incidents_at g q).sources - 0 ≡ length (incidents_at g q).sources = omega arith in
      ap (λ (t : Bool). enter t (λ u p. walk_from d g (row - 1) u p) (λ u p. walk_from d g (row + 1) u p) v (set v q (some row)) (incidents_at g q)) e
      ∙ enter-visits g d row q v (set v q (some row)) ∙ ap (λ (k : ℕ). visits g d row k (incidents g q) (set v q (some row))) (sym e₀)

  -- the places from `at` on
  gone : (sources : ℕ) (i : ℕ) → ltb 0 (sources - i) ≡ ltb i sources
  gone sources i = go (less? i sources)
    where
      go : (i < sources) ⊎ (sources ≤ i) → ltb 0 (sources - i) ≡ ltb i sources
      go (inl h) = rw (lt-ltb i sources h) (lt-ltb 0 (sources - i) (omega arith))
      go (inr h) = rw (le-ltb i sources h) (le-ltb 0 (sources - i) (omega arith))

  -- what is left where the node of a frame has looked at those before place i
  module _ (f : Frame) (below : List Frame) (v : Rows) where
    abbrev to : List ℕ
    to = incidents g f.node

    abbrev ups : ℕ
    ups = length (incidents_at g f.node).sources

    abbrev past : ℕ → Frame
    past i = record { node = f.node; row = f.row; at = i }

    resume-look : (d i : ℕ) (u : Rows) → i < length to → walk_from d g (row_by (ltb i ups) (raised n f.row)) v (at to i) ≡ u → resume g d v (past i ∷ below) ≡ resume g d u (past (i + 1) ∷ below)
    unfolding resume
    resume-look d i u h e =
        let j : suc i ≡ i + 1 = omega arith in
        let k : ups - i - 1 ≡ ups - (i + 1) = omega arith in
        ap (λ (l : List ℕ). resume g (suc d) (visits g d (raised n f.row) (ups - i) l v) below) (drop-cons to i 0 h)
        ∙ ap (λ (b : Bool). resume g (suc d) (visits g d (raised n f.row) (ups - i - 1) (drop (suc i) to) (walk_from d g (row_by b (raised n f.row)) v (at to i))) below) (gone ups i)
        ∙ ap (λ (w : Rows). resume g (suc d) (visits g d (raised n f.row) (ups - i - 1) (drop (suc i) to) w) below) e
        ∙ ap (λ (m : ℕ). resume g (suc d) (visits g d (raised n f.row) (ups - i - 1) (drop m to) u) below) j
        ∙ ap (λ (m : ℕ). resume g (suc d) (visits g d (raised n f.row) m (drop (i + 1) to) u) below) k

    -- the next k have rows
    resume-seen : (d k i : ℕ) → i + k ≤ length to → ((j : ℕ) → i ≤ j → j < i + k → fresh v (at to j) ≡ false) → resume g d v (past i ∷ below) ≡ resume g d v (past (i + k) ∷ below)
    resume-seen d zero i l h = let e : i ≡ i + 0 = omega arith in ap (λ (m : ℕ). resume g d v (past m ∷ below)) e
    resume-seen d (suc k) i l h =
        let e : i + 1 + k ≡ i + suc k = omega arith in
        resume-look d i v (omega arith) (walk-done d g (row_by (ltb i ups) (raised n f.row)) v (at to i) (h i (omega arith) (omega arith)))
        ∙ resume-seen d k (i + 1) (omega arith) (λ j a b. h j (omega arith) (omega arith))
        ∙ ap (λ (m : ℕ). resume g d v (past m ∷ below)) e

    resume-end : (d i : ℕ) → length to ≤ i → resume g d v (past i ∷ below) ≡ resume g (suc d) v below
    unfolding resume
    resume-end d i h = ap (λ (l : List ℕ). resume g (suc d) (visits g d (raised n f.row) (ups - i) l v) below) (drop_of_length-le to h)

    -- all that are left have rows
    resume-pop : (d : ℕ) → ((j : ℕ) → f.at ≤ j → j < length to → fresh v (at to j) ≡ false) → resume g d v (f ∷ below) ≡ resume g (suc d) v below
    resume-pop d h = elim (less? f.at (length to)) [
      | inl l ↦
          let k = length to - f.at in
          resume-seen d k f.at (omega arith) (λ j a b. h j a (omega arith)) ∙ resume-end d (f.at + k) (omega arith)
      | inr l ↦ resume-end d f.at l
    ]

  -- the path has as many items as it counts
  size-is : (s : Path) → n ≤ 48 → Good n s → size s.frames ≡ s.frames.count
  size-is s few good = length-take s.frames.count s.frames.items ∙ omega (arith, few, good.most, good.room)

  -- the state of the code: what the node of its last frame leads to has a row, or not
  module _ (nodes : n ≤ 48) (s : Path) (good : Good n s) (f : Frame) (last : last_of s.frames ≡ Some f) where
    abbrev top : ℕ
    top = size s.frames - 1

    top_less : top < size s.frames
    top_less = slice_get_within (take s.frames.count s.frames.items) top f last

    frame-is : get_or s.frames.items top no_frame ≡ f
    frame-is =
        sym (get_or-take s.frames.count s.frames.items top no_frame (omega (arith, top_less, size-is s nodes good)))
        ∙ get_or_from_slice_get (take s.frames.count s.frames.items) top f no_frame last

    -- where it leads
    abbrev led : List ℕ
    led = incidents g f.node

    abbrev below : List Frame
    below = on_path (popped s.frames)

    abbrev v : Rows
    v = reached n s

    depth_is : s.frames.count ≡ suc top
    depth_is = omega (arith, top_less, size-is s nodes good)

    stack_is : on_path s.frames ≡ f ∷ below
    stack_is = ap (stack_of no_frame s.frames.items) depth_is ∙ ap (λ (x : Frame). x ∷ below) frame-is

    -- the path without it has room for one
    pub step-less : top < 48
    step-less = omega (arith, depth_is, good.room, nodes)

    pub step-node : f.node < n
    step-node = rw frame-is at (good.framed.node top (omega (arith, depth_is)))

    close : nat_abs f.row ≤ top
    close = rw frame-is at (good.framed.near top (omega (arith, depth_is)))

    -- rows stay near
    pub step-near : nat_abs f.row < 48
    step-near = omega (arith, close, depth_is, good.room, nodes)

    module _ (inside : Inside n led) where
      -- whether the node at place j has a row
      abbrev Is : Bool → ℕ → Type 0
      Is b j = is_none (get_or s.rows (at led j) None) ≡ b

      fresh-is : (b : Bool) (j : ℕ) → j < length led → Is b j → fresh v (at led j) ≡ b
      fresh-is b j h e = reached-fresh n s.rows (at led j) (omega (arith, good.each, inside.below j h)) ∙ e

      pub step-pop : ((j : ℕ) → f.at ≤ j → j < length led → Is false j) → Stepped g s (record { rows = s.rows; frames = popped s.frames })
      unfolding looks
      step-pop h =
          let e : n - top ≡ suc (n - s.frames.count) = omega (arith, depth_is, good.room) in
          record {
            good = record {
              each = good.each;
              most = good.most;
              room = omega (arith, depth_is, good.room);
              framed = record { node = λ j z. good.framed.node j (omega (arith, depth_is)); near = λ j z. good.framed.near j (omega (arith, depth_is)) };
            };
            same = rw (stack_is, e) (sym (resume-pop f below v (n - s.frames.count) (λ j a b. fresh-is false j b (h j a b))));
            less = omega (arith, ap looks stack_is);
          }

      -- the first without one is at place i
      module _ (few : length led ≤ 176) (i : ℕ) (from : f.at ≤ i) (h : i < length led) (seen : (j : ℕ) → f.at ≤ j → j < i → Is false j) (new : Is true i) where
        abbrev q : ℕ
        q = at led i

        abbrev row : ℤ
        row = signed_by (ltb i (ups f below v)) f.row

        abbrev moved : Frame
        moved = past f below v (i + 1)

        abbrev frames : Table Frame 48
        frames = pushed (popped s.frames) moved

        top_in : top < length s.frames.items
        top_in = omega (arith, depth_is, good.most, good.room, nodes)

        count-is : frames.count ≡ s.frames.count
        count-is = omega (arith, depth_is)

        stack_moved : on_path frames ≡ moved ∷ below
        stack_moved = ap (stack_of no_frame frames.items) (add-one top) ∙ stack_last no_frame s.frames.items top moved top_in

        framed-moved : Framed n frames.items frames.count
        framed-moved = framed-set n s.frames.items s.frames.count frames.count top moved top_in (λ j z o. omega (arith, count-is)) good.framed step-node close

        frames-long : length frames.items ≡ 48
        frames-long = length-set s.frames.items top moved ∙ good.most

        abbrev w : Rows
        w = set v q (some (raised n row))

        falls : suc (unseen w) ≡ unseen v
        falls = unseen-set (raised n row) v q (fresh-is true i h new)

        -- some node has no row, so the path has room
        pub step_room : frames.count < n
        step_room = omega (arith, count-is, falls, good.room)

        abbrev entered : Frame
        entered = record { node = q; row = row; at = 0 }

        depth_in : frames.count < length frames.items
        depth_in = omega (arith, frames-long, step_room, nodes)

        stack_entered : on_path (pushed frames entered) ≡ entered ∷ moved ∷ below
        stack_entered =
            ap (stack_of no_frame (set frames.items frames.count entered)) (add-one frames.count)
            ∙ stack_last no_frame frames.items frames.count entered depth_in ∙ ap (λ (l : List Frame). entered ∷ l) stack_moved

        reached-is : reached_in n (set s.rows q (Some row)) ≡ w
        reached-is = map-set (raised_row n) s.rows q (Some row)

        resume-push : (d : ℕ) → resume g (suc d) v (f ∷ below) ≡ resume g d w (entered ∷ moved ∷ below)
        unfolding resume
        resume-push d =
            let k = i - f.at in
            let e : f.at + k ≡ i = omega arith in
            resume-seen f below v (suc d) k f.at (omega arith) (λ j a b. fresh-is false j (omega arith) (seen j a (omega arith)))
            ∙ ap (λ (m : ℕ). resume g (suc d) v (past f below v m ∷ below)) e
            ∙ resume-look f below v (suc d) i (onward g d entered w) h
            (ap (λ (r : ℕ). walk_from (suc d) g r v q) (sym (raised_by (ltb i (ups f below v)) n f.row (omega (arith, close, depth_is, good.room))))
            ∙ walk-fresh d row v q (fresh-is true i h new))

        pub step_push : Stepped g s (record { rows = set s.rows q (Some row); frames = pushed frames entered })
        unfolding looks
        step_push =
            let d : n - s.frames.count ≡ suc (n - (frames.count + 1)) = omega (arith, count-is, step_room) in
            record {
              good = record {
                each = length-set s.rows q (Some row) ∙ good.each;
                most = length-set frames.items frames.count entered ∙ frames-long;
                room = rw reached-is (omega (arith, count-is, falls, good.room));
                framed =
                    framed-set n frames.items frames.count (frames.count + 1) frames.count entered depth_in (λ j z o. omega arith) framed-moved (inside.below i h)
                    (omega (arith, near_by (ltb i (ups f below v)) f.row top close));
              };
              same = rw (reached-is, stack_entered, stack_is, d) (sym (resume-push (n - (frames.count + 1))));
              less = rw (reached-is, stack_entered, stack_is) (omega (arith, falls));
            }

  -- where the path is empty
  pub ends : (s : Path) → n ≤ 48 → Good n s → last_of s.frames ≡ None → answer g s ≡ reached n s
  unfolding resume
  ends s few good last = let e : s.frames.count ≡ 0 = omega (arith, no_last s.frames last, size-is s few good) in rw e

  -- where the walk begins: nothing has a row but p, whose row is 0
  module _ (p : ℕ) (l : p < n) where
    abbrev first : Path
    first = record { rows = set (replicate n None) p (Some (pos 0)); frames = pushed (empty 48 no_frame) (record { node = p; row = pos 0; at = 0 }) }

    first_rows : reached n first ≡ set (replicate n none) p (some (raised n (pos 0)))
    first_rows =
        map-set (raised_row n) (replicate n None) p (Some (pos 0)) ∙ ap (λ (u : Rows). set u p (some (raised n (pos 0)))) (none-everywhere (raised_row n) None refl n)

    is-fresh : fresh (replicate n none) p ≡ true
    is-fresh = ap nothing (get_or-replicate n p none (some 0) l)

    pub starts-good : Good n first
    starts-good =
        record {
          each = length-set (replicate n None) p (Some (pos 0)) ∙ length-replicate n None;
          most = refl;
          room = rw first_rows (omega (arith, unseen-set (raised n (pos 0)) (replicate n none) p is-fresh, unseen-replicate n));
          framed = record { node = λ j z. let i : j ≡ 0 = omega arith in rw i l; near = λ j z. let i : j ≡ 0 = omega arith in rw i (omega arith) };
        }

    pub starts : answer g first ≡ reached_from g p
    unfolding resume
    starts =
        let i : suc (n - 1) ≡ n = omega arith in
        let z : n + 0 ≡ n = omega arith in
        rw first_rows
        (sym (walk-fresh (n - 1) (pos 0) (replicate n none) p is-fresh)
        ∙ ap (λ (k : ℕ). walk_from k g (n + 0) (replicate n none) p) i ∙ ap (λ (r : ℕ). walk_from n g r (replicate n none) p) z)
