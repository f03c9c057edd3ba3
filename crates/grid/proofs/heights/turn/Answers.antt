-- `heights::turn`: one node.
-- Assumes nothing.
use Rattle.std.proofs.Common.{◌≡◌, length, replicate, None, sym, ◌∙◌, arith}
use Rattle.std.proofs.lemmas.List.{length-take-le}
use Rattle.laws.proofs.Lists.{take-replicate}
use Rattle.grid.specs.code.Walk.{raised, AllNear, reached_in}
use Rattle.grid.proofs.SignedLaws.{back}
use Rattle.grid.proofs.LowerLaws.{turn_walk, walk-near}
use Rattle.grid.proofs.heights.turn.Goals as goal
use Rattle.grid.proofs.heights.turn.Goals.{After-walk_from}

walked_long : (c : After-walk_from) → length c.walk_from.new.rows ≡ length c.args.leads.now
walked_long c = c.walk_from.auto.rows ∙ length-take-le (length c.args.rows.now) (replicate 48 None) (omega (arith, c.requires.few, c.requires.long)) ∙ c.requires.long

near : (c : After-walk_from) → AllNear (length c.walk_from.new.rows) c.walk_from.new.rows
near c = rw (walked_long c) (walk-near c.args.leads.now c.args.rows.now c.requires.long c.args.p c.requires.p_lt_n c.walk_from.new.rows c.walk_from.ensures)

pub walk_from-requires-clause-none : goal.walk_from-requires-clause-none
walk_from-requires-clause-none c = rw c.requires.long (take-replicate (length c.args.leads.now) 48 None c.requires.few)

pub least_row-m-requires : goal.least_row-m-requires
least_row-m-requires c = (omega (arith, walked_long (goal.at.least_row-m-requires c).After-walk_from, c.requires.few), near (goal.at.least_row-m-requires c).After-walk_from)

pub lower_all-requires-clause-walk : goal.lower_all-requires-clause-walk
lower_all-requires-clause-walk c =
    let m = c.least_row-m in
    let e = walked_long (goal.at.lower_all-requires-clause-walk c).After-walk_from in
    (near (goal.at.lower_all-requires-clause-walk c).After-walk_from, rw (back m.result (omega (arith, m.ensures.near, e, c.requires.few))) m.ensures)

pub returns : goal.returns
returns c =
    let g = c.args.leads.now in
    let m = c.least_row-m in
    let e = walked_long (goal.at.returns c).After-walk_from in
    let em = back m.result (omega (arith, m.ensures.near, e, c.requires.few)) in
    turn_walk g c.args.rows.now c.requires.long c.args.p c.requires.p_lt_n (reached_in (length g) c.walk_from.new.rows) (raised (length g) m.result) _ (sym c.is_some.ensures ∙ c.if-is_some.false)
    c.walk_from.ensures (rw e at m.ensures.least) (rw (em, e) at c.lower_all.ensures)
