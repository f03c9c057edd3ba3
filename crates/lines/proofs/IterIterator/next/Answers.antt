-- `Iter::next`: the first line and those after it.
-- Assumes nothing.
use Rattle.std.proofs.Common.{rules, tests, ◌≡◌, ap, length, take, drop, ◌-◌, ◌∷◌, []}
use native.Mathlib.Omega.{arith}
use lib.ListN.{length-drop}
use lib.Seq.{take_all}
use Rattle.std.proofs.lemmas.List.{nil_from_length}
use Rattle.lines.specs.Lines.{lines_of, lines_left}
use Rattle.lines.proofs.Laws.{no-line, first-line}
use Rattle.lines.proofs.IterIterator.next.Goals as goal
use Rattle.lines.proofs.IterIterator.next.Goals.{After-min}

pub returns-then-is_empty-clause-steps : goal.returns-then-is_empty-clause-steps
returns-then-is_empty-clause-steps c =
    let none : lines_left c.args.self.now ≡ [] = rw (nil_from_length c.args.self.now.rest.now (search (rules, tests))) (no-line 0) in
    (none, none)

given : (c : After-min) → let s = c.args.self.now.rest.now in lines_of s ≡ c.line-line.result.now ∷ lines_of (take (length s - c.min.result) (drop c.min.result s))
given c =
    let s = c.args.self.now.rest.now in
    let all : take (length s - c.min.result) (drop c.min.result s) ≡ drop c.min.result s = take_all _ _ (omega (arith, length-drop c.min.result s)) in
    rw (all, c.min.ensures, c.line-line.ensures) (first-line s (search (rules, tests)))

pub returns-clause-steps : goal.returns-clause-steps
returns-clause-steps c = given (goal.at.returns-clause-steps c).After-min

pub returns-clause-goes : goal.returns-clause-goes
returns-clause-goes c = let g = ap length (given (goal.at.returns-clause-goes c).After-min) in search (rules, g)
