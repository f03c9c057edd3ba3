-- Each way through a step of the cutting walk with an explicit path, as the code has the state: what is left of the walk stays, and the bound falls.
-- Assumes nothing.
use Prim.Native.Nat.{ℕ, suc, ◌+◌, ◌-◌, ◌≤◌, ◌<◌}
use native.Mathlib.Omega.{arith}
use native.Mathlib.Numerals.{add-one, add-two}
use mathlib.Core.Path.{◌≡◌, refl, ap, sym, ◌∙◌}
use mathlib.Core.Bool.{Bool, true, false}
use mathlib.Core.List.{List, [], ◌∷◌, ◌++◌}
use lib.Dec.{ltb}
use lib.ListN.{length, get_or, set, take, length-set}
use lib.Seq.{get_or-take, take-set-lt, length-take-le}
use Rattle.std.proofs.lemmas.List.{length-take}
use Rattle.laws.proofs.Lists.{get_d_any}
use Rattle.std.specs.Prelude.{Some, None}
use Rattle.tables.specs.declared.Table.{Table}
use Rattle.tables.specs.Tables.{pushed_if, last_of, popped}
use Rattle.graph.specs.declared.Item.{Item}
use Rattle.graph.specs.declared.Tables.{Tables}
use Rattle.graph.specs.declared.reach.Frame.{Frame}
use Rattle.graph.specs.declared.reach.Seen.{Seen}
use Rattle.graph.specs.declared.reach.Seen.TheVariants.{Unseen, OnPath, Explored}
use Rattle.graph.specs.Graph.{Edge, no_edge, node_at, degree}
use Rattle.graph.specs.Cutting.{Walk, cut, cut_graph, explore_from, seen_at, unseen?, on_path?}
use Rattle.graph.specs.code.Path.{path_of, unseens, looks}
use Rattle.graph.specs.code.Tables.{owned, edge_of, items_of, lines_of, graph_of, Sunk, CutTo}
use Rattle.graph.specs.Outcome.{no_item}
use Rattle.graph.specs.code.Explore.{Explore, state, resume, Within, walk_of, answer, Ready, Since, Kept}
use Rattle.graph.proofs.Lists.{unseens-set, unseens_fall, unseens-append, node-graph}
use Rattle.graph.proofs.AimLaws.{all_in}
use Rattle.graph.proofs.Cuts.{sunk-is, sunk-less, owned_le, take-two, length-graph}
use Rattle.graph.proofs.Paths.{path-push, path-pop, path-none}
use Rattle.graph.proofs.Resumes.{length_cut, resume-leave, resume-pass, resume-cut, resume-go, resume-enter, resume-grown}

within_more : (n m : ℕ) → n ≤ m → (fs : List Frame) → Within n fs → Within m fs
within_more n m l [] w = tt
within_more n m l (f ∷ fs) w = (omega (arith, w.0), within_more n m l fs w.1)

-- a step of the code: the path lacks its last frame, f, and is u
module _
    (g : ℕ) (t : Tables) (sn : List Seen) (path : Table Frame 48) (rd : Ready (state g t sn path)) (long : length path.items ≡ 48) (f : Frame) (last : Some f ≡ last_of path) (u : Table Frame 48) (out : u ≡ popped path)
  where
    abbrev before : Explore
    before = state g t sn path

    abbrev below : List Frame
    below = path_of u

    abbrev v : List Seen
    v = take t.n sn

    abbrev w : Walk
    w = walk_of before

    path-is : path_of path ≡ f ∷ below
    path-is = path-pop path long (omega (arith, rd.room, rd.count, rd.sound.linked.nodes)) f (sym last) u out

    room : suc (length below) + unseens v ≤ g
    room = rw path-is at rd.room

    within : (f.node < t.n) × Within t.n below
    within = rw path-is at rd.within

    from : answer before ≡ resume (g - suc (length below)) w (f ∷ below)
    from = ap (λ (l : List Frame). resume (g - length l) w l) path-is

    abbrev c : ℕ
    c = f.node

    node_in : c < t.n
    node_in = within.0

    small : t.n ≤ 48
    small = rd.sound.linked.nodes

    sinks-are : (node_at (graph_of t) c).sinks ≡ owned c (items_of t.sinks)
    sinks-are = rw (node-graph t.n (lines_of t) (items_of t.sources) (items_of t.sinks) c node_in)

    pub x-node_in : c < 48
    x-node_in = omega (arith, node_in, small)

    pub x-leave : length (owned c (items_of t.sinks)) ≤ f.next → Kept before (state g t (set sn c Explored) u)
    unfolding looks
    x-leave h =
        let i : take t.n (set sn c Explored) ≡ set v c Explored = take-set-lt t.n sn c Explored node_in in
        let deg : degree (graph_of t) c ≤ f.next = rw sinks-are h in
        let fall = unseens_fall v c Explored refl in
        let fuel : g - length below ≡ suc (g - suc (length below)) = omega (arith, room) in
        record {
          ready = record { all = simp length-set rd.all; named = rd.named; sound = rd.sound; count = rd.count; room = rw i (omega (arith, room)); within = within.1 };
          given = refl;
          lines = refl;
          same = rw (i, fuel) (sym (from ∙ resume-leave (g - suc (length below)) w f below deg));
          less = rw i (omega (arith, ap looks path-is));
        }

    -- the frame's next sink is record k
    module _ (k : ℕ) (k-is : Sunk (items_of t.sinks) c f.next k) where
      abbrev y : Item
      y = get_or t.sinks.items k no_item

      few : length (items_of t.sinks) ≤ 88
      few = omega (arith, rd.sound.sink_room, small)

      k_in : k < t.sinks.count
      k_in = omega (arith, length-take t.sinks.count t.sinks.items, k-is.inside)

      here : get_or (items_of t.sinks) k no_item ≡ y
      here = get_or-take t.sinks.count t.sinks.items k no_item k_in

      pub x-sink_in : f.next < 88
      x-sink_in = omega (arith, few, owned_le c (items_of t.sinks), sunk-less (items_of t.sinks) c f.next k k-is)

      to_in : y.to < t.n
      to_in = rw here at (all_in (λ (x : Item). x.to < t.n) (items_of t.sinks) k no_item k-is.inside rd.sound.linked.sink_aims)

      more : f.next < degree (graph_of t) c
      more = rw sinks-are (sunk-less (items_of t.sinks) c f.next k k-is)

      edge-is : get_or (node_at (graph_of t) c).sinks f.next no_edge ≡ edge_of y
      edge-is = ap (λ (l : List Edge). get_or l f.next no_edge) sinks-are ∙ sunk-is (items_of t.sinks) c f.next k k-is ∙ ap edge_of here

      in_graph : c < length (graph_of t)
      in_graph = rw (length-graph t.n (lines_of t) (items_of t.sources) (items_of t.sinks)) node_in

      v-long : length v ≡ t.n
      v-long = length-take-le t.n sn (omega (arith, rd.all, small))

      seen-is : seen_at v (get_or (node_at (graph_of t) c).sinks f.next no_edge).to ≡ get_or sn y.to Unseen
      seen-is =
          ap (λ (e : Edge). seen_at v e.to) edge-is
          ∙ get_or-take t.n sn y.to Explored to_in
          ∙ get_d_any sn y.to Explored Unseen (omega (arith, rd.all, to_in, small))

      -- f is back on the path, z, with the next number
      module _ (long_u : length u.items ≡ 48) (r : Bool) (fits : r ≡ ltb u.count 48) (z : Table Frame 48) (back : z ≡ pushed_if r u (record { node = c; next = f.next + 1 })) where
        abbrev on : Frame
        on = record { node = c; next = suc f.next }

        back-is : path_of z ≡ on ∷ below
        back-is =
            path-push u long_u (record { node = c; next = f.next + 1 }) (omega (arith, room, rd.count, small)) r fits z back ∙ rw (add-one f.next) refl

        pub x-pass : unseen? (get_or sn y.to Unseen) ≡ false → on_path? (get_or sn y.to Unseen) ≡ false → Kept before (state g t sn z)
        unfolding looks
        x-pass a b =
            rw back-is
            (record {
              ready = record { all = rd.all; named = rd.named; sound = rd.sound; count = rd.count; room = room; within = within };
              given = refl;
              lines = refl;
              same = sym (from ∙ resume-pass (g - suc (length below)) w f below more in_graph (ap unseen? seen-is ∙ a) (ap on_path? seen-is ∙ b));
              less = omega (arith, ap looks path-is, x-sink_in);
            })

        module _ (a : unseen? (get_or sn y.to Unseen) ≡ true) (long_z : length z.items ≡ 48) (i : Bool) (free : i ≡ ltb z.count 48) (q : Table Frame 48) (one : q ≡ pushed_if i z (record { node = y.to; next = 0 })) where
          abbrev entered : Frame
          entered = record { node = y.to; next = 0 }

          one_less : suc (unseens (set v y.to OnPath)) ≡ unseens v
          one_less =
              unseens-set v y.to OnPath refl (rw v-long to_in)
              (ap unseen? (get_or-take t.n sn y.to Explored to_in ∙ get_d_any sn y.to Explored Unseen (omega (arith, rd.all, to_in, small))) ∙ a)

          one-is : path_of q ≡ entered ∷ on ∷ below
          one-is =
              path-push z long_z entered (omega (arith, ap length back-is, one_less, room, rd.count, small)) i free q one
              ∙ ap (λ (l : List Frame). entered ∷ l) back-is

          pub x-enter : Kept before (state g t (set sn y.to OnPath) q)
          unfolding looks
          x-enter =
              let set-is : take t.n (set sn y.to OnPath) ≡ set v y.to OnPath = take-set-lt t.n sn y.to OnPath to_in in
              let m : g - suc (length below) ≡ suc (g - suc (suc (length below))) = omega (arith, room, one_less) in
              rw one-is
              (record {
                ready =
                    record {
                      all = simp length-set rd.all;
                      named = rd.named;
                      sound = rd.sound;
                      count = rd.count;
                      room = rw set-is (omega (arith, room, one_less));
                      within = (to_in, within);
                    };
                given = refl;
                lines = refl;
                same =
                    rw set-is
                    (sym (from
                    ∙ ap (λ (j : ℕ). resume j w (f ∷ below)) m
                    ∙ resume-go (suc (g - suc (suc (length below)))) w f below more in_graph (ap unseen? seen-is ∙ a)
                    ∙ ap (λ (e : Edge). resume (suc (g - suc (suc (length below)))) (explore_from (suc (g - suc (suc (length below)))) w e.to) (on ∷ below)) edge-is
                    ∙ resume-enter (g - suc (suc (length below))) w y.to (on ∷ below)));
                less = rw set-is (omega (arith, ap looks path-is, one_less, x-sink_in));
              })

        -- the sink leads to a node on the path
        module _ (b : on_path? (get_or sn y.to Unseen) ≡ true) where
          cut-is : answer before ≡ resume (g - suc (length below)) (cut w c f.next (edge_of y)) (on ∷ below)
          cut-is =
              from
              ∙ resume-cut (g - suc (length below)) w f below more in_graph (ap on_path? seen-is ∙ b)
              ∙ ap (λ (e : Edge). resume (g - suc (length below)) (cut w c f.next e) (on ∷ below)) edge-is

          pub x-refuse : 48 < t.n + 2 → 48 < length (answer before).graph
          x-refuse h =
              rw cut-is
              (omega (
                arith,
                (resume-grown (g - suc (length below)) (cut w c f.next (edge_of y)) (on ∷ below)).longer,
                length_cut (graph_of t) c f.next (edge_of y),
                length-graph t.n (lines_of t) (items_of t.sources) (items_of t.sinks),
              ))

          pub x-cut : t.n + 2 ≤ 48 → (m : Tables) → CutTo t c f.next k m → Kept before (state g m (set (set sn t.n Explored) (t.n + 1) Explored) z)
          unfolding looks
          x-cut h m made =
              let i : take m.n (set (set sn t.n Explored) (t.n + 1) Explored) ≡ v ++ (Explored ∷ Explored ∷ []) =
              rw (made.more, add-two t.n, add-one t.n) (take-two sn t.n Explored Explored (omega (arith, rd.all))) in
              let same : unseens (take m.n (set (set sn t.n Explored) (t.n + 1) Explored)) ≡ unseens v = ap unseens i ∙ unseens-append v in
              let made-graph : graph_of m ≡ cut_graph (graph_of t) c f.next (edge_of y) = rw here at made.graph in
              rw back-is
              (record {
                ready =
                    record {
                      all = simp length-set rd.all;
                      named = made.named;
                      sound = made.sound;
                      count = omega (arith, made.more, made.cuts, rd.count);
                      room = omega (arith, room, same);
                      within = (omega (arith, made.more, node_in), within_more t.n m.n (omega (arith, made.more)) below within.1);
                    };
                given = refl;
                lines = made.lines;
                same = rw (i, made-graph, made.cuts, add-one t.cuts) (sym cut-is);
                less = omega (arith, ap looks path-is, same, x-sink_in);
              })

resume-none : (d : ℕ) (u : Walk) → resume d u [] ≡ u
unfolding resume
resume-none d u = refl

-- where the walk from p begins, and where the path is empty
module _ (x : Explore) (rx : Ready x) (p : ℕ) (l : p < x.given) (a : unseen? (get_or x.seen p Unseen) ≡ true) (path : Table Frame 48) (first : path_of path ≡ record { node = p; next = 0 } ∷ []) where
  p_in : p < x.tables.n
  p_in = omega (arith, rx.count)

  abbrev begun : Explore
  begun = state x.given x.tables (set x.seen p OnPath) path

  seen-set : take x.tables.n (set x.seen p OnPath) ≡ set (take x.tables.n x.seen) p OnPath
  seen-set = take-set-lt x.tables.n x.seen p OnPath p_in

  pub begins : Ready begun
  begins =
      let v : List Seen = take x.tables.n x.seen in
      let less : suc (unseens (set v p OnPath)) ≡ unseens v =
      unseens-set v p OnPath refl (rw (length-take-le x.tables.n x.seen (omega (arith, rx.all, rx.sound.linked.nodes))) p_in)
      (ap unseen? (get_or-take x.tables.n x.seen p Explored p_in ∙ get_d_any x.seen p Explored Unseen (omega (arith, rx.all, rx.sound.linked.nodes, p_in))) ∙ a) in
      rw first
      (record { all = simp length-set rx.all; named = rx.named; sound = rx.sound; count = rx.count; room = rw seen-set (omega (arith, less, rx.room)); within = (p_in, tt) })

  pub begun-is : answer begun ≡ explore_from x.given (walk_of x) p
  begun-is =
      let m : suc (x.given - 1) ≡ x.given = omega arith in
      rw (first, seen-set)
      (sym (resume-enter (x.given - 1) (walk_of x) p []) ∙ resume-none (suc (x.given - 1)) (explore_from (suc (x.given - 1)) (walk_of x) p)
      ∙ ap (λ (k : ℕ). explore_from k (walk_of x) p) m)

module _ (g : ℕ) (t : Tables) (sn : List Seen) (path : Table Frame 48) (rd : Ready (state g t sn path)) (long : length path.items ≡ 48) (none : None ≡ last_of path) where
  pub emptied : path_of path ≡ []
  emptied = path-none path long (omega (arith, rd.room, rd.count, rd.sound.linked.nodes)) (sym none)

  pub ends : answer (state g t sn path) ≡ walk_of (state g t sn path)
  unfolding resume
  ends = rw emptied refl

-- one step more
pub since : (x y z : Explore) → Since x y → Kept y z → Since x z
since x y z a k = record { ready = k.ready; lines = k.lines ∙ a.lines; same = k.same ∙ a.same }
