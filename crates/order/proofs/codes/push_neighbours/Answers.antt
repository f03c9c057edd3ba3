-- `codes::push_neighbours` meets its contract: the codes of the neighbours that are left are still to be pushed.
-- Assumes nothing.
use Rattle.std.proofs.Common.{◌+◌, ◌≤◌, ◌∙◌, arith, length, map}
use lib.ListN.{length-map}
use Rattle.order.specs.Against.{neighbours}
use Rattle.order.specs.code.Sums.{code_of}
use Rattle.order.proofs.Pushed.{length-neighbours, neighbours-next, left-next}
use Rattle.order.proofs.codes.push_neighbours.Goals as goal

pub loop-pair-preserved : goal.loop-pair-preserved
loop-pair-preserved c =
    let l = c.loop-pair in
    let s = c.in-Some.ensures.steps in
    let rest = l.pair-iterator.rest.now in
    let to = c.args.to.now in
    let e = neighbours-next l.pair-iterator.size rest c.in-Some.pair.now _ l.invariant.0 s.1.0 s.1.1 s.1.2 in
    let room : c.args.codes.now.count + length (map code_of (neighbours to)) ≤ 352 = omega (arith, length-map (neighbours to) code_of, length-neighbours to, c.requires) in
    (s.0 ∙ l.invariant.0, left-next c.args.codes.now l.codes c.push.new.self _ _ c.code.result _ c.push.result room (rw (e) at l.invariant.1) c.code.ensures c.push.ensures.long c.push.ensures.room c.push.ensures.table)
