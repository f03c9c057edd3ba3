-- `heights::walk_from` is the walk of `Heights`: each step keeps what is left of the walk, and nothing is left of it where the path is empty.
-- Assumes nothing.
use Rattle.std.proofs.Common.{ℕ, ◌≡◌, ◌+◌, ◌≤◌, ◌<◌, Bool, true, false, ℤ, nat_abs, List, length, get_or, set, Option, Some, None, ltb, ap, sym, ◌∙◌, arith, rules, tests, MatchOption}
use mir.Syntax.{w8}
use mir.Val.{to_z, of_z}
use Rattle.std.specs.Option.{is_none}
use Rattle.std.proofs.lemmas.Iterator.{first_from_Range}
use Rattle.tables.specs.declared.Table.{Table}
use Rattle.tables.specs.Tables.{empty, pushed, pushed_if, last_of, popped}
use Rattle.graph.specs.Shape.{Shape, incidents_at}
use Rattle.grid.specs.declared.heights.Frame.{Frame}
use Rattle.grid.specs.Columns.{at, incidents}
use Rattle.grid.specs.code.Arrays.{Inside}
use Rattle.grid.specs.code.Walk.{no_frame, signed_by, Path, Good, Stepped}
use Rattle.grid.proofs.Arrays.{put}
use Rattle.grid.proofs.SignedLaws.{back, near_by}
use Rattle.grid.proofs.WalkSteps.{step-node, step-near, step-less, step-pop, step_room, step_push, ends, starts-good, starts}
use Rattle.grid.proofs.heights.walk_from.Goals as goal
use Rattle.grid.proofs.heights.walk_from.Goals.{In-Some, After-find}

-- what a turn of the loop begins with: the walk's state, the last frame of the path, and the path without it
record Turn : Type 0 where
  g : Shape
  few : length g ≤ 48
  s : Path
  good : Good (length g) s
  f : Frame
  last : last_of s.frames ≡ Some f
  rest : Table Frame 48
  rest_is : rest ≡ popped s.frames

-- whether the node at place j has a row, and the first place from one on of a node that has none
abbrev Is : List (Option ℤ) → List ℕ → Bool → ℕ → Type 0
Is rows to b j = is_none (get_or rows (at to j) None) ≡ b

record First (rows : List (Option ℤ)) (to : List ℕ) (from i : ℕ) : Type 0 where
  after : from ≤ i
  within : i < length to
  new : Is rows to true i
  seen : (j : ℕ) → from ≤ j → j < i → Is rows to false j

module _ (t : Turn) where
  near : nat_abs t.f.row < 48
  near = step-near t.g t.few t.s t.good t.f t.last

  row_is : to_z w8 (of_z w8 t.f.row) ≡ t.f.row
  row_is = back t.f.row (omega (arith, near))

  -- where its node leads
  module _ (to : List ℕ) (e : to ≡ incidents t.g t.f.node) (inside : Inside (length t.g) to) where
    left : ((j : ℕ) → t.f.at ≤ j → j < length to → Is t.s.rows to false j) → Stepped t.g t.s (record { rows = t.s.rows; frames = t.rest })
    left h = rw t.rest_is (step-pop t.g t.few t.s t.good t.f t.last (rw e at inside) (rw e at h))

    -- to one that has no row
    module _ (short : length to ≤ 176) (i : ℕ) (o : First t.s.rows to t.f.at i) (u : Table Frame 48) (b : Bool) (room : b ≡ ltb t.rest.count 48)
        (is : u ≡ pushed_if b t.rest (record { node = t.f.node; row = to_z w8 (of_z w8 t.f.row); at = i + 1 })) where
      stands : u ≡ pushed (popped t.s.frames) (record { node = t.f.node; row = t.f.row; at = i + 1 })
      stands =
          put t.rest u b _ (rw t.rest_is (step-less t.g t.few t.s t.good t.f t.last)) room is
          ∙ ap (λ (x : Table Frame 48). pushed x (record { node = t.f.node; row = to_z w8 (of_z w8 t.f.row); at = i + 1 })) t.rest_is
          ∙ ap (λ (z : ℤ). pushed (popped t.s.frames) (record { node = t.f.node; row = z; at = i + 1 })) row_is

      entered : (r : ℤ) → r ≡ signed_by (ltb i (length (incidents_at t.g t.f.node).sources)) (to_z w8 (of_z w8 t.f.row)) →
          (v : Table Frame 48) (d : Bool) → d ≡ ltb u.count 48 → v ≡ pushed_if d u (record { node = at to i; row = to_z w8 (of_z w8 r); at = 0 }) →
          Stepped t.g t.s (record { rows = set t.s.rows (at to i) (Some (to_z w8 (of_z w8 r))); frames = v })
      entered r j v d free then =
          let k = ltb i (length (incidents_at t.g t.f.node).sources) in
          let z : r ≡ signed_by k t.f.row = j ∙ ap (signed_by k) row_is in
          let m : nat_abs r < 128 = rw z (omega (arith, near_by k t.f.row 48 (omega (arith, near)))) in
          let p = rw e at o in
          let a = step_room t.g t.few t.s t.good t.f t.last (rw e at inside) (rw e at short) i p.after p.within p.seen p.new in
          let x = put u v d _ (rw stands (omega (arith, a, t.few))) free then in
          rw (x, stands, back r m, z, e) (step_push t.g t.few t.s t.good t.f t.last (rw e at inside) (rw e at short) i p.after p.within p.seen p.new)

-- the turn at a place
abbrev turn : In-Some → Turn
turn c = record {
  g = c.args.leads.now;
  few = c.requires.few;
  s = record { rows = c.loop-f.rows; frames = c.loop-f.path };
  good = c.loop-f.invariant.0;
  f = c.in-Some.f;
  last = sym c.pop.ensures.item ∙ c.in-Some.is;
  rest = c.pop.new.self;
  rest_is = c.pop.ensures.table;
}

pub loop-f-init : goal.loop-f-init
loop-f-init c =
    let n : c.default.result ≡ no_frame = search rules in
    let e = c.empty-path.ensures ∙ ap (empty 48) n in
    let p = rw e at (put c.empty-path.result c.push.new.self c.push.result _ (rw e (omega arith)) c.push.ensures.room c.push.ensures.table) in
    rw (c.requires.none, p) (starts-good c.args.leads.now c.args.p c.requires.p_lt_n, starts c.args.leads.now c.args.p c.requires.p_lt_n)

-- what the search finds
found : (c : After-find) → MatchOption c.find.result ((j : ℕ) → c.in-Some.f.at ≤ j → j < length c.incidents-nodes.result.now → Is c.loop-f.rows c.incidents-nodes.result.now false j)
    (λ i. (c.in-Some.f.at ≤ i) × (i < length c.incidents-nodes.result.now) × Is c.loop-f.rows c.incidents-nodes.result.now true i
    × ((j : ℕ) → c.in-Some.f.at ≤ j → j < i → Is c.loop-f.rows c.incidents-nodes.result.now false j))
found c = first_from_Range _ _ _ c.find.result (Is c.loop-f.rows c.incidents-nodes.result.now true) (Is c.loop-f.rows c.incidents-nodes.result.now false) c.find.ensures.ran
    (λ x q k. search (rules, tests)) (λ x q k. search (rules, tests))

none : (c : After-find) → c.find.result ≡ None → (j : ℕ) → c.in-Some.f.at ≤ j → j < length c.incidents-nodes.result.now → Is c.loop-f.rows c.incidents-nodes.result.now false j
none c e = rw e at (found c)

first : (c : After-find) (i : ℕ) → c.find.result ≡ Some i → First c.loop-f.rows c.incidents-nodes.result.now c.in-Some.f.at i
first c i e = let h = rw e at (found c) in record { after = h.0; within = h.1; new = h.2; seen = h.3 }

pub incidents-nodes-requires : goal.incidents-nodes-requires
incidents-nodes-requires c = let t = turn (goal.at.incidents-nodes-requires c).In-Some in step-node t.g t.few t.s t.good t.f t.last

pub loop-f-smaller-in_default-find : goal.loop-f-smaller-in_default-find
loop-f-smaller-in_default-find c =
    let h = goal.at.loop-f-smaller-in_default-find c in
    (left (turn h.In-Some) _ c.incidents-nodes.ensures.are c.incidents-nodes.ensures.nodes (none h.After-find c.in_default-find.is)).less

pub loop-f-preserved-in_default-find : goal.loop-f-preserved-in_default-find
loop-f-preserved-in_default-find c =
    let h = goal.at.loop-f-preserved-in_default-find c in
    let r = left (turn h.In-Some) _ c.incidents-nodes.ensures.are c.incidents-nodes.ensures.nodes (none h.After-find c.in_default-find.is) in
    (r.good, r.same ∙ c.loop-f.invariant.1)

pub overflow_cast-at : goal.overflow_cast-at
overflow_cast-at c = omega (arith, c.incidents-nodes.ensures.few, (first (goal.at.overflow_cast-at c).After-find c.in-Some-find.at c.in-Some-find.is).within)

pub overflow_add-at : goal.overflow_add-at
overflow_add-at c = omega (arith, c.incidents-nodes.ensures.few, (first (goal.at.overflow_add-at c).After-find c.in-Some-find.at c.in-Some-find.is).within)

pub bounds-nodes-at : goal.bounds-nodes-at
bounds-nodes-at c = (first (goal.at.bounds-nodes-at c).After-find c.in-Some-find.at c.in-Some-find.is).within

pub row_by-row-requires : goal.row_by-row-requires
row_by-row-requires c = let t = turn (goal.at.row_by-row-requires c).In-Some in rw (row_is t) (omega (arith, near t))

pub bounds-rows-next : goal.bounds-rows-next
bounds-rows-next c =
    omega (arith, c.loop-f.invariant.0.each, c.incidents-nodes.ensures.nodes.below c.in-Some-find.at (first (goal.at.bounds-rows-next c).After-find c.in-Some-find.at c.in-Some-find.is).within)

pub loop-f-smaller : goal.loop-f-smaller
loop-f-smaller c =
    let h = goal.at.loop-f-smaller c in
    let e = c.incidents-nodes.ensures in
    let p = c.push-in-Some in
    let q = c.push-in-Some-2 in
    (entered (turn h.In-Some) _ e.are e.nodes e.few _ (first h.After-find c.in-Some-find.at c.in-Some-find.is) p.new.self p.result p.ensures.room p.ensures.table
    c.row_by-row.result (rw c.sources.ensures at c.row_by-row.ensures) q.new.self q.result q.ensures.room q.ensures.table).less

pub loop-f-preserved : goal.loop-f-preserved
loop-f-preserved c =
    let h = goal.at.loop-f-preserved c in
    let e = c.incidents-nodes.ensures in
    let p = c.push-in-Some in
    let q = c.push-in-Some-2 in
    let r =
    entered (turn h.In-Some) _ e.are e.nodes e.few _ (first h.After-find c.in-Some-find.at c.in-Some-find.is) p.new.self p.result p.ensures.room p.ensures.table
    c.row_by-row.result (rw c.sources.ensures at c.row_by-row.ensures) q.new.self q.result q.ensures.room q.ensures.table in
    (r.good, r.same ∙ c.loop-f.invariant.1)

pub returns : goal.returns
returns c = sym (ends c.args.leads.now _ c.requires.few c.loop-f.invariant.0 (sym c.pop.ensures.item ∙ c.in_default.is)) ∙ c.loop-f.invariant.1
