-- `cutting::cut_cycles` is `cutting`: each step keeps what is left of the walk from a start, and each start what is left of the walks.
-- Assumes nothing.
use Prim.Native.Nat.{ℕ, ◌+◌, ◌≤◌, ◌<◌}
use mathlib.Core.Path.{◌≡◌, refl, ap, sym, ◌∙◌, subst}
use mathlib.Core.Bool.{true, false}
use mathlib.Core.List.{List, [], ◌∷◌}
use native.Mathlib.Omega.{arith}
use lib.ListN.{length, get_or, set}
use Rattle.graph.specs.declared.Tables.{Tables}
use Rattle.graph.specs.declared.reach.Frame.{Frame}
use Rattle.graph.specs.declared.reach.Seen.TheVariants.{Unseen, OnPath, Explored}
use Rattle.graph.specs.Cutting.{unseen?, on_path?, Walk, explore_from, cutting}
use Rattle.graph.specs.code.Tables.{items_of, graph_of, CutTo, Sunk}
use Rattle.graph.specs.code.Path.{path_of}
use Rattle.graph.specs.code.Explore.{Explore, state, between, Ready, Kept, answer, walk_of}
use Rattle.graph.specs.Outcome.{no_item}
use Rattle.graph.proofs.Stands.{unseen-ne, passed-over}
use Rattle.graph.proofs.Paths.{path-first}
use Rattle.graph.proofs.Advances.{begins, begun-is, emptied, ends, since, x-node_in, x-leave, x-sink_in, x-pass, x-enter, x-refuse, x-cut}
use Rattle.graph.proofs.Roots.{start-pass, start-walk, start-over, start_first, start-last}
use borrow.Author.Rules.{rules}
use Rattle.graph.proofs.cutting.cut_cycles.Goals as goal
use Rattle.graph.proofs.cutting.cut_cycles.Goals.{After-push, At-loop-f, In_default-find_sink, After-push-in-Some, After-push-in-Unseen}

-- the path with its first frame
begun : (c : After-push) → path_of c.push.new.self ≡ record { node = c.loop-p.p; next = 0 } ∷ []
begun c = path-first _ _ c.empty-path.result c.empty-path.ensures c.push.ensures.long _ c.push.ensures.room _ c.push.ensures.table

-- in the walk from p
module _ (c : At-loop-f) where
  abbrev now : Explore
  now = state c.args.t.now.n c.loop-f.t c.loop-f.seen c.loop-f.path

  walk_is : answer now ≡ explore_from c.args.t.now.n (walk_of (between c.args.t.now.n c.loop-p.t c.loop-p.seen)) c.loop-p.p
  walk_is =
      c.loop-f.invariant.same
      ∙ begun-is (between c.args.t.now.n c.loop-p.t c.loop-p.seen) c.loop-p.invariant.ready c.loop-p.p c.loop-p-test.true (unseen-ne _ _ _ c.ne.ensures c.if-ne.false) _ (begun c.before)

pub loop-p-init : goal.loop-p-init
loop-p-init c = start_first c.args.t.now c.requires.roomy (search rules) c.requires.cuts_value c.mark_roots-seen.result (search rules) c.mark_roots-seen.ensures

pub loop-p-preserved-then-ne : goal.loop-p-preserved-then-ne
loop-p-preserved-then-ne c = start-pass c.args.t.now _ c.loop-p.p c.loop-p.invariant c.loop-p-test.true (unseen-ne _ _ _ c.ne.ensures c.if-ne.true)

pub loop-f-init : goal.loop-f-init
loop-f-init c =
    record {
      ready = begins _ c.loop-p.invariant.ready c.loop-p.p c.loop-p-test.true (unseen-ne _ _ _ c.ne.ensures c.if-ne.false) _ (begun (goal.at.loop-f-init c).After-push);
      lines = refl;
      same = refl;
    }

pub bounds-seen-f : goal.bounds-seen-f
bounds-seen-f c = x-node_in c.args.t.now.n c.loop-f.t _ c.loop-f.path c.loop-f.invariant.ready c.pop.ensures.long c.in-Some.f c.in-Some.ensures.item _ c.pop.ensures.table

pub overflow_add-f : goal.overflow_add-f
overflow_add-f c =
    omega (
      arith,
      x-sink_in c.args.t.now.n c.loop-f.t _ c.loop-f.path c.loop-f.invariant.ready c.pop.ensures.long c.in-Some.f c.in-Some.ensures.item _ c.pop.ensures.table
          c.in-Some-find_sink.k (rw c.as_slice.ensures.items at c.in-Some-find_sink.ensures),
    )

-- the steps
leave : (c : In_default-find_sink) → Kept (state c.args.t.now.n c.loop-f.t c.loop-f.seen c.loop-f.path) (state c.args.t.now.n c.loop-f.t (set c.loop-f.seen c.in-Some.f.node Explored) c.pop.new.self)
leave c =
    x-leave c.args.t.now.n c.loop-f.t _ c.loop-f.path c.loop-f.invariant.ready c.pop.ensures.long c.in-Some.f c.in-Some.ensures.item _ c.pop.ensures.table
    (rw c.as_slice.ensures.items at c.in_default-find_sink.ensures)

-- a step that looks at sink k
module _ (c : After-push-in-Some) where
  abbrev k-is : Sunk (items_of c.loop-f.t.sinks) c.in-Some.f.node c.in-Some.f.next c.in-Some-find_sink.k
  k-is = rw c.as_slice.ensures.items at c.in-Some-find_sink.ensures

  abbrev was : Explore
  was = state c.args.t.now.n c.loop-f.t c.loop-f.seen c.loop-f.path

  abbrev to : ℕ
  to = (get_or c.loop-f.t.sinks.items c.in-Some-find_sink.k no_item).to

  pass : unseen? (get_or c.loop-f.seen to Unseen) ≡ false → on_path? (get_or c.loop-f.seen to Unseen) ≡ false → Kept was (state c.args.t.now.n c.loop-f.t c.loop-f.seen c.push-in-Some.new.self)
  pass =
      x-pass c.args.t.now.n c.loop-f.t _ c.loop-f.path c.loop-f.invariant.ready c.pop.ensures.long c.in-Some.f c.in-Some.ensures.item _ c.pop.ensures.table
      c.in-Some-find_sink.k k-is c.push-in-Some.ensures.long _ c.push-in-Some.ensures.room _ c.push-in-Some.ensures.table

  over : on_path? (get_or c.loop-f.seen to Unseen) ≡ true → 48 < c.loop-f.t.n + 2 → 48 < length (answer was).graph
  over =
      x-refuse c.args.t.now.n c.loop-f.t _ c.loop-f.path c.loop-f.invariant.ready c.pop.ensures.long c.in-Some.f c.in-Some.ensures.item _ c.pop.ensures.table
      c.in-Some-find_sink.k k-is c.push-in-Some.ensures.long _ c.push-in-Some.ensures.room _ c.push-in-Some.ensures.table

  cut : on_path? (get_or c.loop-f.seen to Unseen) ≡ true → c.loop-f.t.n + 2 ≤ 48 → (r : Tables) → CutTo c.loop-f.t c.in-Some.f.node c.in-Some.f.next c.in-Some-find_sink.k r →
      Kept was (state c.args.t.now.n r (set (set c.loop-f.seen c.loop-f.t.n Explored) (c.loop-f.t.n + 1) Explored) c.push-in-Some.new.self)
  cut =
      x-cut c.args.t.now.n c.loop-f.t _ c.loop-f.path c.loop-f.invariant.ready c.pop.ensures.long c.in-Some.f c.in-Some.ensures.item _ c.pop.ensures.table
      c.in-Some-find_sink.k k-is c.push-in-Some.ensures.long _ c.push-in-Some.ensures.room _ c.push-in-Some.ensures.table

enter : (c : After-push-in-Unseen) →
    Kept (state c.args.t.now.n c.loop-f.t c.loop-f.seen c.loop-f.path)
    (state c.args.t.now.n c.loop-f.t (set c.loop-f.seen (get_or c.loop-f.t.sinks.items c.in-Some-find_sink.k no_item).to OnPath) c.push-in-Unseen.new.self)
enter c =
    x-enter c.args.t.now.n c.loop-f.t _ c.loop-f.path c.loop-f.invariant.ready c.pop.ensures.long c.in-Some.f c.in-Some.ensures.item _ c.pop.ensures.table
    c.in-Some-find_sink.k (rw c.as_slice.ensures.items at c.in-Some-find_sink.ensures) c.push-in-Some.ensures.long _ c.push-in-Some.ensures.room _ c.push-in-Some.ensures.table
    (ap unseen? c.in-Unseen.is) c.push-in-Unseen.ensures.long _ c.push-in-Unseen.ensures.room _ c.push-in-Unseen.ensures.table

pub loop-f-smaller-in_default-find_sink : goal.loop-f-smaller-in_default-find_sink
loop-f-smaller-in_default-find_sink c = (leave (goal.at.loop-f-smaller-in_default-find_sink c).In_default-find_sink).less

pub loop-f-preserved-in_default-find_sink : goal.loop-f-preserved-in_default-find_sink
loop-f-preserved-in_default-find_sink c = since _ _ _ c.loop-f.invariant (leave (goal.at.loop-f-preserved-in_default-find_sink c).In_default-find_sink)

pub loop-f-smaller-in-Unseen : goal.loop-f-smaller-in-Unseen
loop-f-smaller-in-Unseen c = (enter (goal.at.loop-f-smaller-in-Unseen c).After-push-in-Unseen).less

pub loop-f-preserved-in-Unseen : goal.loop-f-preserved-in-Unseen
loop-f-preserved-in-Unseen c = since _ _ _ c.loop-f.invariant (enter (goal.at.loop-f-preserved-in-Unseen c).After-push-in-Unseen)

pub loop-f-smaller : goal.loop-f-smaller
loop-f-smaller c = (pass (goal.at.loop-f-smaller c).After-push-in-Some (passed-over _ c.in-Marked.is).0 (passed-over _ c.in-Marked.is).1).less

pub loop-f-preserved : goal.loop-f-preserved
loop-f-preserved c = since _ _ _ c.loop-f.invariant (pass (goal.at.loop-f-preserved c).After-push-in-Some (passed-over _ c.in-Marked.is).0 (passed-over _ c.in-Marked.is).1)

pub returns-then-n-gt-NODES : goal.returns-then-n-gt-NODES
returns-then-n-gt-NODES c =
    let more : 48 < length (answer (state c.args.t.now.n c.loop-f.t c.loop-f.seen c.loop-f.path)).graph = over (goal.at.returns-then-n-gt-NODES c).After-push-in-Some (ap on_path? c.in-OnPath.is) c.if-n-gt-NODES.true in (
      refl,
      start-over c.args.t.now (between c.args.t.now.n c.loop-p.t c.loop-p.seen) c.loop-p.p c.loop-p.invariant c.loop-p-test.true (unseen-ne _ _ _ c.ne.ensures c.if-ne.false)
          (subst (λ (u : Walk). 48 < length u.graph) (walk_is (goal.at.returns-then-n-gt-NODES c).At-loop-f) more),
    )

pub loop-f-smaller-in-OnPath : goal.loop-f-smaller-in-OnPath
loop-f-smaller-in-OnPath c = (cut (goal.at.loop-f-smaller-in-OnPath c).After-push-in-Some (ap on_path? c.in-OnPath.is) (omega (arith, c.if-n-gt-NODES.false)) _ c.cut_sink.ensures).less

pub loop-f-preserved-in-OnPath : goal.loop-f-preserved-in-OnPath
loop-f-preserved-in-OnPath c =
    since _ _ _ c.loop-f.invariant (cut (goal.at.loop-f-preserved-in-OnPath c).After-push-in-Some (ap on_path? c.in-OnPath.is) (omega (arith, c.if-n-gt-NODES.false)) _ c.cut_sink.ensures)

pub loop-p-preserved : goal.loop-p-preserved
loop-p-preserved c =
    start-walk c.args.t.now (between c.args.t.now.n c.loop-p.t c.loop-p.seen) c.loop-p.p c.loop-p.invariant c.loop-p-test.true (unseen-ne _ _ _ c.ne.ensures c.if-ne.false) _
    (record {
      ready =
          subst (λ (fs : List Frame). Ready (record { given = c.args.t.now.n; tables = c.loop-f.t; seen = c.loop-f.seen; frames = fs }))
          (emptied c.args.t.now.n c.loop-f.t _ c.loop-f.path c.loop-f.invariant.ready c.pop.ensures.long c.in_default.ensures.item) c.loop-f.invariant.ready;
      given = refl;
      lines = c.loop-f.invariant.lines;
      walk =
          sym (ends c.args.t.now.n c.loop-f.t _ c.loop-f.path c.loop-f.invariant.ready c.pop.ensures.long c.in_default.ensures.item)
          ∙ walk_is (goal.at.loop-p-preserved c).At-loop-f;
    })

pub returns : goal.returns
returns c =
    let e : walk_of (between c.args.t.now.n c.loop-p.t c.loop-p.seen) ≡ cutting (graph_of c.args.t.now) = start-last c.args.t.now _ c.loop-p.p c.loop-p.invariant c.loop-p-test.false in (
      record { sound = c.loop-p.invariant.ready.sound; graph = ap (λ (u : Walk). u.graph) e; cuts = ap (λ (u : Walk). u.cuts) e; lines = c.loop-p.invariant.lines },
      c.loop-p.invariant.ready.named,
    )
