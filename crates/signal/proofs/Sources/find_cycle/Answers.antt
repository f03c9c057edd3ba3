-- `find_cycle`: what is left of the walk at the path so far is the whole walk.
-- Assumes nothing.
use Rattle.std.proofs.Common.{◌≡◌, List, ℕ, [], sym, ap, ◌∙◌, arith, reverse}
use Rattle.laws.specs.Lists.{has}
use Rattle.walks.specs.Walks.{up_to}
use Rattle.signal.specs.Signal.{back_from}
use Rattle.signal.specs.code.Nodes.{sources_of}
use Rattle.signal.specs.Outcome.{nodes_held}
use Rattle.signal.proofs.Codes.{has-any, put_list, back-first, back-path, back_on, back_met, back_end}
use Rattle.signal.proofs.Sources.find_cycle.Goals as goal
use Rattle.signal.proofs.Sources.find_cycle.Goals.{else-loop-test, then-loop-test+then-contains}

pub loop-init : goal.loop-init
loop-init c =
    let t = c.empty-path.result in
    let one = put_list [] c.first_left-first.result t c.push.new.self c.push.result c.empty-path.ensures (omega arith) c.push.ensures.room c.push.ensures.table in
    back-first (sources_of c.args.self.now.leads.now) c.args.done.now c.args.self.now.n c.push.new.self c.first_left-first.result c.source_left-q.result one c.first_left-first.ensures c.source_left-q.ensures

pub loop-preserved : goal.loop-preserved
loop-preserved c =
    let l = c.loop in
    let s = sources_of c.args.self.now.leads.now in
    let d = c.args.done.now in
    let p = back-path s d c.args.self.now.n l.path l.counter l.q l.invariant in
    let e = ap (has l.q) (sym p) ∙ ap (has l.q) (sym c.as_slice.ensures.items) ∙ sym (has-any l.q c.as_slice.result.now) ∙ sym c.contains.ensures.value ∙ c.if-contains.false in
    back_on s d c.args.self.now.n l.path l.counter l.q l.invariant c.loop-test.true c.args.self.now.few e c.push-in-loop.new.self c.push-in-loop.result c.push-in-loop.ensures.room c.push-in-loop.ensures.table
    c.source_left-q-in-loop.result c.source_left-q-in-loop.ensures

pub returns : goal.returns
returns c =
    let l = c.loop in
    let s = sources_of c.args.self.now.leads.now in
    let d = c.args.done.now in
    let p = back-path s d c.args.self.now.n l.path l.counter l.q l.invariant in
    let e : up_to l.q (reverse l.invariant.path) ≡ back_from c.args.self.now.n s d = elim c.loop-test.branch [
      | else-loop-test w ↦ back_end s d c.args.self.now.n l.path l.counter l.q l.invariant (omega arith)
      | then-loop-test+then-contains w ↦
          let e = ap (has l.q) (sym p) ∙ ap (has l.q) (sym w.as_slice.ensures.items) ∙ sym (has-any l.q w.as_slice.result.now) ∙ sym w.contains.ensures.value ∙ w.if-contains.true in
          back_met s d c.args.self.now.n l.path l.counter l.q l.invariant w.loop-test.true e
    ] in
    c.cut_at.ensures ∙ ap (λ (x : List ℕ). nodes_held (up_to l.q (reverse x))) (c.as_slice-2.ensures.items ∙ p) ∙ ap nodes_held e
