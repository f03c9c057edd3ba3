-- `RunEnds::next`: the first record that the node owns, and those after it.
-- Assumes nothing.
use Rattle.std.proofs.Common.{rules, tests, arith, add-one, ◌≡◌, ap, ◌∙◌, refl, ◌+◌, ◌-◌, suc, eqb, ◌∷◌, [], length, get_or, take, drop}
use lib.ListN.{length-drop}
use lib.Seq.{take_all}
use Rattle.std.specs.Option.{MatchOption}
use Rattle.std.proofs.lemmas.Iterator.{YieldsList-from_slice}
use Rattle.std.proofs.lemmas.Iterator.Search.{position_from_yields_List}
use Rattle.graph.specs.declared.Item.{Item}
use Rattle.graph.specs.Outcome.{no_item}
use Rattle.grid.specs.code.Row.{ends_at, own, ends_left}
use Rattle.grid.proofs.RowLaws.{first_passing}
use Rattle.grid.proofs.render_node.row.RunEndsIterator.next.Goals as goal
use Rattle.grid.proofs.render_node.row.RunEndsIterator.next.Goals.{After-position}

searched : (c : After-position) →
    let s = c.args.self.now in
    MatchOption c.position.result (own s.owner s.rest.now ≡ []) (λ k. own s.owner s.rest.now ≡ get_or s.rest.now k no_item ∷ own s.owner (drop (suc k) s.rest.now))
searched c =
    let s = c.args.self.now in
    first_passing (λ (e : Item). eqb e.owner s.owner) no_item s.rest.now _
    (position_from_yields_List (λ (e : Item). eqb e.owner s.owner) _ _ c.position.result c.position.ensures.ran (YieldsList-from_slice s.rest.now cc) (λ x b q k. search (rules, tests)))

pub returns-in_err-at-clause-steps : goal.returns-in_err-at-clause-steps
returns-in_err-at-clause-steps c =
    let s = c.args.self.now in
    let none : ends_left s ≡ [] = ap (ends_at s.gap s.x) (rw c.in_err-at.was at (searched (goal.at.returns-in_err-at-clause-steps c).After-position)) in
    search (rules, none)

pub returns : goal.returns
returns c =
    let s = c.args.self.now in
    let xs = s.rest.now in
    let k = c.in_ok-at.at in
    let all : take (length xs - (k + 1)) (drop (k + 1) xs) ≡ drop (suc k) xs = take_all _ _ (omega (arith, length-drop (k + 1) xs)) ∙ rw (add-one k) refl in
    let given = ap (ends_at s.gap s.x) (rw c.in_ok-at.was at (searched (goal.at.returns c).After-position)) in
    let g = ap length given in
    search (rules, all, given, g)
