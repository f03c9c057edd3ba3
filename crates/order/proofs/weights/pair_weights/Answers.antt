-- `weights::pair_weights` meets its contract: the laws of proofs/Weighs.antt, of any graph whose codes these are.
-- Assumes nothing.
use Prim.Native.Nat.{ℕ}
use mathlib.Core.Path.{◌≡◌, subst, ◌∙◌}
use mathlib.Core.Bool.{Bool}
use mathlib.Core.List.{List}
use lib.ListN.{length, replicate}
use Rattle.order.specs.declared.weights.Round.TheVariants.{First, Second}
use Rattle.order.specs.code.Sums.{tallied, makes, Rows, RoundFits}
use Rattle.order.proofs.Start.{coded}
use Rattle.order.proofs.Weighs.{zeros-at, fits-first, fits-second, weighed}
use Rattle.order.proofs.weights.pair_weights.Goals as goal
use Rattle.order.proofs.weights.pair_weights.Goals.{After-tally}

-- the table before the rounds
counted : (c : After-tally) → c.tally.new.sums ≡ tallied c.args.codes.now (replicate 1128 0) (length c.args.codes.now)
counted c = c.tally.ensures ∙ rw c.requires.sums_value

rows : (make : Bool) (n m : ℕ) (s r : List ℕ) → m ≡ n → Rows make n n s r → Rows make m m s r
rows make n m s r e w = rw e w

pub tally-requires : goal.tally-requires
tally-requires c =
    let w = c.requires.charted in
    record { room = w.codes.room; coded = coded w.graph c.args.codes.now w.codes; by_index = λ i. rw c.requires.sums_value (zeros-at 1128 i) }

pub run-requires : goal.run-requires
run-requires c =
    let w = c.requires.charted in
    subst (λ (k : ℕ). RoundFits (makes First) k c.tally.new.sums) w.size (fits-first w.graph c.args.codes.now w.codes c.tally.new.sums (counted (goal.at.run-requires c).After-tally))

pub run-requires-2 : goal.run-requires-2
run-requires-2 c =
    let w = c.requires.charted in
    subst (λ (k : ℕ). RoundFits (makes Second) k c.run.new.sums) w.size
    (fits-second w.graph c.args.codes.now w.codes c.tally.new.sums (counted (goal.at.run-requires-2 c).After-tally) c.run.new.sums
    (rows (makes First) c.args.n (length w.graph) c.tally.new.sums c.run.new.sums w.size c.run.ensures))

pub returns : goal.returns
returns c =
    λ g d e.
    weighed g c.args.codes.now d c.tally.new.sums (counted (goal.at.returns c).After-tally) c.run.new.sums
    (rows (makes First) c.args.n (length g) c.tally.new.sums c.run.new.sums e c.run.ensures) c.run-2.new.sums
    (rows (makes Second) c.args.n (length g) c.run.new.sums c.run-2.new.sums e c.run-2.ensures)
