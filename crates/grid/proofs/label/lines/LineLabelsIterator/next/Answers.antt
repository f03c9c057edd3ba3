-- `LineLabels::next`: the first record that the node owns, and those after it; where it owns none, its name.
-- Assumes nothing.
use Rattle.std.proofs.Common.{rules, tests, arith, add-one, ◌≡◌, ap, ◌∙◌, refl, sym, ℕ, ◌+◌, ◌*◌, ◌-◌, max, suc, eqb, List, ◌∷◌, [], ◌++◌, map, length, get_or, take, drop}
use lib.ListN.{length-drop}
use lib.Seq.{take_all}
use Rattle.std.specs.List.{filter}
use Rattle.std.specs.Option.{MatchOption}
use Rattle.std.proofs.lemmas.Iterator.{YieldsList-from_slice}
use Rattle.std.proofs.lemmas.Iterator.Search.{position_from_yields_List}
use Rattle.chart.specs.declared.Line.{Line as LineItem}
use Rattle.chart.specs.Chart.{Part}
use Rattle.chart.specs.code.Filled.{part_of, owned_lines}
use Rattle.graph.specs.Graph.{given as as_given}
use Rattle.graph.specs.code.Tables.{name_line}
use Rattle.grid.specs.declared.LabelPlace.{LabelPlace}
use Rattle.grid.specs.declared.TextPlace.TheVariants.{InTable}
use Rattle.grid.specs.RenderNode.{line_texts}
use Rattle.grid.specs.Labels.{place_of}
use Rattle.grid.specs.code.LineLabels.{labels_left}
use Rattle.grid.proofs.RowLaws.{first_passing, owned-are}
use Rattle.grid.proofs.label.lines.LineLabelsIterator.next.Goals as goal
use Rattle.grid.proofs.label.lines.LineLabelsIterator.next.Goals.{After-position, in-Number, in-Invalid}

no_line : LineItem
no_line = record { at = 0; owner = 0; len = 0 }

abbrev own : ℕ → List LineItem → List LineItem
own p = filter (λ e. eqb e.owner p)

searched : (c : After-position) →
    let s = c.args.self.now in
    MatchOption c.position.result (own s.owner s.rest.now ≡ []) (λ k. own s.owner s.rest.now ≡ get_or s.rest.now k no_line ∷ own s.owner (drop (suc k) s.rest.now))
searched c =
    let s = c.args.self.now in
    first_passing (λ (e : LineItem). eqb e.owner s.owner) no_line s.rest.now _
    (position_from_yields_List (λ (e : LineItem). eqb e.owner s.owner) _ _ c.position.result c.position.ensures.ran (YieldsList-from_slice s.rest.now cc) (λ x b q k. search (rules, tests)))

owned_is : (p : ℕ) (xs : List LineItem) → owned_lines p xs ≡ map part_of (own p xs)
owned_is = owned-are (λ e. e.owner) part_of

pub returns-in-Some : goal.returns-in-Some
unfolding no_line
returns-in-Some c =
    let s = c.args.self.now in
    let xs = s.rest.now in
    let k = c.in-Some.at in
    let all : take (length xs - (k + 1)) (drop (k + 1) xs) ≡ drop (suc k) xs = take_all _ _ (omega (arith, length-drop (k + 1) xs)) ∙ rw (add-one k) refl in
    let below : s.y + 512 + 128 ≡ s.y + 640 = omega arith in
    let first = rw c.in-Some.is at (searched (goal.at.returns-in-Some c).After-position) in
    let owned = owned_is s.owner xs ∙ ap (map part_of) first ∙ ap (λ ls. part_of (get_or xs k no_line) ∷ ls) (sym (owned_is s.owner (drop (suc k) xs))) in
    let given = ap (λ (ls : List Part). map place_of (line_texts s.x s.y (map as_given ls ++ name_line s.name))) owned in
    let g = ap length given in
    search (rules, all, below, given, g)

pub returns-in-Nothing-clause-steps : goal.returns-in-Nothing-clause-steps
returns-in-Nothing-clause-steps c =
    let s = c.args.self.now in
    let none = owned_is s.owner s.rest.now ∙ ap (map part_of) (rw c.in_default.is at (searched (goal.at.returns-in-Nothing-clause-steps c).After-position)) in
    rw (none, c.in-Nothing.is) (refl, refl)

alone : (k : ℕ) → max k 0 ≡ k
alone k = omega arith

pub returns : goal.returns
returns c =
    let s = c.args.self.now in
    let none = owned_is s.owner s.rest.now ∙ ap (map part_of) (rw c.in_default.is at (searched (goal.at.returns c).After-position)) in
    let label : LabelPlace = record { x = s.x; y = s.y + 512 - 192; size = 464; width = 256 * c.name_line.result.longest; text = InTable c.match-name.number } in
    let named : map place_of (line_texts s.x s.y (name_line s.name)) ≡ label ∷ [] =
    elim c.match-name.branch [
      | in-Number w ↦ rw (c.name_line.ensures, w.name-is, w.number-is, w.in-Number.is, alone, w.from-number.ensures) refl
      | in-Invalid w ↦ rw (c.name_line.ensures, w.name-is, w.number-is, w.in-Invalid.is, alone, w.from.ensures) refl
    ]
    in
    let given : labels_left s ≡ label ∷ [] = rw none named in
    let past : map place_of (line_texts s.x s.y (map as_given (owned_lines s.owner s.rest.now) ++ [])) ≡ [] = rw none refl in
    let g = ap length given in
    search (rules, given, past, g)
