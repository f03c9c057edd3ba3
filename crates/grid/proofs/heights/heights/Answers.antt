-- `heights::heights`: one node more at each turn; then each row is a number.
-- Assumes nothing.
use Rattle.std.proofs.Common.{◌≡◌, length, None, replicate, refl, ap, ◌∙◌, rules, arith}
use Rattle.std.proofs.lemmas.List.{length-take-le}
use Rattle.laws.proofs.Lists.{take-replicate}
use Rattle.grid.specs.code.Walk.{rows_of}
use Rattle.grid.specs.Heights.{heights}
use Rattle.grid.proofs.LowerLaws.{done, done_first, done_more, done_all, numbers_of, numbers-are, numbers-made}
use Rattle.grid.proofs.heights.heights.Goals as goal
use Rattle.grid.proofs.heights.heights.Goals.{After-loop-p}

rows_long : (c : After-loop-p) → length c.loop-p.rows ≡ c.nodes-n.result
rows_long c = c.loop-p.auto.rows ∙ length-take-le c.nodes-n.result (replicate 48 None) c.nodes-n.ensures.1

pub loop-p-init : goal.loop-p-init
loop-p-init c =
    let e = c.nodes-n.ensures in
    ap rows_of (take-replicate c.nodes-n.result 48 None e.1) ∙ rw e.0 (done_first c.args.leads.now)

pub loop-p-preserved : goal.loop-p-preserved
loop-p-preserved c = done_more c.args.leads.now c.loop-p.p _ _ c.loop-p.invariant c.turn.ensures

pub returns : goal.returns
returns c =
    let g = c.args.leads.now in
    let rows = c.loop-p.rows in
    let h = rows_long (goal.at.returns c).After-loop-p in
    let end : c.loop-p.p ≡ length g = omega (arith, c.nodes-n.ensures.0, c.loop-p-test.false, c.loop-p.auto.p-end) in
    let e : numbers_of rows ≡ heights g = numbers-are rows ∙ done_all g (rows_of rows) (c.loop-p.invariant ∙ ap (done g) end) in
    numbers-made _ _ rows c.nodes-n.result 48 c.map.result h c.nodes-n.ensures.1 c.map.ensures.items (λ p q o y k. search rules) ∙ rw (c.nodes-n.ensures.0, e) refl
