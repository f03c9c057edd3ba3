-- `codes::push_list` meets its contract: the neighbours, and then the pairs.
-- Assumes nothing.
use Rattle.std.proofs.Common.{◌≡◌, List, ℕ, ◌+◌, ◌/◌, ◌++◌, ap, ◌∙◌, arith, map, length}
use lib.ListN.{length-map}
use mathlib.Core.Path.{subst}
use Rattle.graph.specs.Ends.{targets_of}
use Rattle.order.specs.Against.{neighbours}
use Rattle.order.specs.code.Sums.{code_of}
use Rattle.order.specs.code.Codes.{Pushed, with_from}
use Rattle.order.proofs.Pushed.{targets-few, held_list, length-neighbours, pushed-then}
use Rattle.order.proofs.codes.push_list.Goals as goal
use Rattle.order.proofs.codes.push_list.Goals.{After-as_slice-to}

-- the slice is the targets
to-is : (z : After-as_slice-to) → z.as_slice-to.result.now ≡ targets_of z.args.p z.args.leads.now
to-is z = z.as_slice-to.ensures.items ∙ held_list z.targets_of-t.result (targets_of z.args.p z.args.leads.now) z.targets_of-t.ensures (omega (arith, targets-few z.args.p z.args.leads.now, z.requires.few.0))

pub push_pairs-requires : goal.push_pairs-requires
push_pairs-requires c =
    let to = c.as_slice-to.result.now in
    omega (arith, c.push_neighbours.ensures.count, length-map (neighbours to) code_of, length-neighbours to, c.requires.room, ap (λ (v : List ℕ). length v) (to-is (goal.at.push_pairs-requires c).After-as_slice-to))

pub returns : goal.returns
returns c =
    let a = c.args in
    subst (λ (v : List ℕ). Pushed a.codes.now c.push_pairs.new.codes (map code_of (neighbours v) ++ map code_of (with_from a.p (length v / 2 + a.later) 0 v))) (to-is (goal.at.returns c).After-as_slice-to)
    (pushed-then a.codes.now c.push_neighbours.new.codes c.push_pairs.new.codes _ _ c.push_neighbours.ensures c.push_pairs.ensures)
