-- `codes::push_pairs` meets its contract: the codes from number k on are still to be pushed.
-- Assumes nothing.
use Rattle.std.proofs.Common.{◌+◌, ◌≤◌, arith, length, map}
use lib.ListN.{length-map}
use Rattle.order.specs.code.Sums.{code_of}
use Rattle.order.specs.code.Codes.{with_from}
use Rattle.order.proofs.Pushed.{length-with, pairs-next, left-next}
use Rattle.order.proofs.codes.push_pairs.Goals as goal

pub loop-k-preserved : goal.loop-k-preserved
loop-k-preserved c =
    let l = c.loop-k in
    let a = c.args in
    let to = a.to.now in
    let all = with_from a.p a.turn 0 to in
    let room : a.codes.now.count + length (map code_of all) ≤ 352 = omega (arith, length-map all code_of, length-with a.p a.turn 0 to, c.requires) in
    left-next a.codes.now l.codes c.push.new.self _ _ c.pair_code.result _ c.push.result room (rw (pairs-next a.p a.turn l.k to c.loop-k-test.true) at l.invariant) c.pair_code.ensures c.push.ensures.long c.push.ensures.room c.push.ensures.table
