-- `reach::mark_from` is the walk of `Cutting`: each step keeps what is left of the walk, and nothing is left of it where the path is empty.
-- Assumes nothing.
use mathlib.Core.Path.{◌≡◌, refl, sym, ◌∙◌}
use mathlib.Core.Bool.{false}
use mathlib.Core.List.{[], ◌∷◌}
use lib.ListN.{get_or, set}
use Rattle.graph.specs.declared.reach.Seen.TheVariants.{Unseen, Marked}
use Rattle.graph.specs.Cutting.{unseen?}
use Rattle.graph.specs.Outcome.{no_item}
use Rattle.graph.specs.code.Path.{path_of, state, Stepped}
use Rattle.graph.proofs.Stands.{unseen-eq, unseen-ne}
use Rattle.graph.proofs.Paths.{path-first}
use Rattle.graph.proofs.Steps.{starts, starts-good, ends, step-pop, step-other, step-seen, step-push}
use Rattle.graph.proofs.reach.mark_from.Goals as goal
use Rattle.graph.proofs.reach.mark_from.Goals.{In_default-get, After-push, After-push-in-Some, After-push-then-eq, else-e-f-via-then-e-f+else-eq, else-e-f-via-else-e-f}

-- the path with its first frame
begun : (c : After-push) → path_of c.push.new.self ≡ record { node = c.args.p; next = 0 } ∷ []
begun c = path-first _ _ c.empty-path.result c.empty-path.ensures c.push.ensures.long _ c.push.ensures.room _ c.push.ensures.table

-- the steps
left : (c : In_default-get) → Stepped c.args.t.now c.as_slice-sinks.result.now (state c.loop-f.seen c.loop-f.path) (state c.loop-f.seen c.pop.new.self)
left c =
    step-pop c.args.t.now c.requires.linked _ c.as_slice-sinks.ensures.items _ c.loop-f.path c.loop-f.invariant.0 c.pop.ensures.long c.in-Some.f c.in-Some.ensures.item _ c.pop.ensures.table
    c.in_default-get.ensures.lookup.3

other : (c : After-push-in-Some) → (c.in-Some-get.e.now.owner ≡ c.in-Some.f.node → ⊥) → Stepped c.args.t.now c.as_slice-sinks.result.now (state c.loop-f.seen c.loop-f.path) (state c.loop-f.seen c.push-in-Some.new.self)
other c =
    step-other c.args.t.now c.requires.linked _ c.as_slice-sinks.ensures.items _ c.loop-f.path c.loop-f.invariant.0 c.pop.ensures.long c.in-Some.f c.in-Some.ensures.item _ c.pop.ensures.table
    c.in-Some-get.ensures.lookup.3.0 c.in-Some-get.e.now (sym (c.in-Some-get.ensures.lookup.3.1 no_item)) c.push-in-Some.ensures.long _ c.push-in-Some.ensures.room _ c.push-in-Some.ensures.table

seen : (c : After-push-in-Some) → c.in-Some-get.e.now.owner ≡ c.in-Some.f.node → unseen? (get_or c.loop-f.seen c.in-Some-get.e.now.to Unseen) ≡ false →
    Stepped c.args.t.now c.as_slice-sinks.result.now (state c.loop-f.seen c.loop-f.path) (state c.loop-f.seen c.push-in-Some.new.self)
seen c =
    step-seen c.args.t.now c.requires.linked _ c.as_slice-sinks.ensures.items _ c.loop-f.path c.loop-f.invariant.0 c.pop.ensures.long c.in-Some.f c.in-Some.ensures.item _ c.pop.ensures.table
    c.in-Some-get.ensures.lookup.3.0 c.in-Some-get.e.now (sym (c.in-Some-get.ensures.lookup.3.1 no_item)) c.push-in-Some.ensures.long _ c.push-in-Some.ensures.room _ c.push-in-Some.ensures.table

entered : (c : After-push-then-eq) → Stepped c.args.t.now c.as_slice-sinks.result.now (state c.loop-f.seen c.loop-f.path) (state (set c.loop-f.seen c.in-Some-get.e.now.to Marked) c.push-then-eq.new.self)
entered c =
    step-push c.args.t.now c.requires.linked _ c.as_slice-sinks.ensures.items _ c.loop-f.path c.loop-f.invariant.0 c.pop.ensures.long c.in-Some.f c.in-Some.ensures.item _ c.pop.ensures.table
    c.in-Some-get.ensures.lookup.3.0 c.in-Some-get.e.now (sym (c.in-Some-get.ensures.lookup.3.1 no_item)) c.push-in-Some.ensures.long _ c.push-in-Some.ensures.room _ c.push-in-Some.ensures.table
    c.if-e-f.true (unseen-eq _ _ _ c.eq.ensures c.if-eq.true) c.push-then-eq.ensures.long _ c.push-then-eq.ensures.room _ c.push-then-eq.ensures.table

pub loop-f-init : goal.loop-f-init
loop-f-init c = (
  starts-good c.args.t.now c.requires.linked _ c.as_slice-sinks.ensures.items _ c.told-seen _ c.requires.p_lt_n (unseen-ne _ _ _ c.ne.ensures c.if-ne.false) _ (begun (goal.at.loop-f-init c).After-push),
  refl,
)

pub loop-f-smaller-in_default-get : goal.loop-f-smaller-in_default-get
loop-f-smaller-in_default-get c = (left (goal.at.loop-f-smaller-in_default-get c).In_default-get).less

pub loop-f-preserved-in_default-get : goal.loop-f-preserved-in_default-get
loop-f-preserved-in_default-get c = let k = left (goal.at.loop-f-preserved-in_default-get c).In_default-get in (k.good, k.same ∙ c.loop-f.invariant.1)

pub loop-f-smaller-then-eq : goal.loop-f-smaller-then-eq
loop-f-smaller-then-eq c = (entered (goal.at.loop-f-smaller-then-eq c).After-push-then-eq).less

pub loop-f-preserved-then-eq : goal.loop-f-preserved-then-eq
loop-f-preserved-then-eq c = let k = entered (goal.at.loop-f-preserved-then-eq c).After-push-then-eq in (k.good, k.same ∙ c.loop-f.invariant.1)

pub loop-f-smaller : goal.loop-f-smaller
loop-f-smaller c =
    let q = (goal.at.loop-f-smaller c).After-push-in-Some in
    elim c.else-e-f.branch [ else-e-f-via-then-e-f+else-eq v ↦ (seen q v.if-e-f.true (unseen-eq _ _ _ v.eq.ensures v.if-eq.false)).less | else-e-f-via-else-e-f v ↦ (other q v.if-e-f.false).less ]

pub loop-f-preserved : goal.loop-f-preserved
loop-f-preserved c =
    let q = (goal.at.loop-f-preserved c).After-push-in-Some in
    elim c.else-e-f.branch [
      | else-e-f-via-then-e-f+else-eq v ↦ let k = seen q v.if-e-f.true (unseen-eq _ _ _ v.eq.ensures v.if-eq.false) in (k.good, k.same ∙ c.loop-f.invariant.1)
      | else-e-f-via-else-e-f v ↦ let k = other q v.if-e-f.false in (k.good, k.same ∙ c.loop-f.invariant.1)
    ]

pub returns : goal.returns
returns c =
    sym (ends c.args.t.now c.requires.linked _ c.as_slice-sinks.ensures.items _ c.loop-f.path c.loop-f.invariant.0 c.pop.ensures.long c.in_default.ensures.item)
    ∙ c.loop-f.invariant.1
    ∙ starts c.args.t.now c.requires.linked _ c.as_slice-sinks.ensures.items _ c.told-seen _ c.requires.p_lt_n (unseen-ne _ _ _ c.ne.ensures c.if-ne.false) _ (begun (goal.at.returns c).After-push)
