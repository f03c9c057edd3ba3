-- `number::put_digits` meets its contract: the digits are written from the last to the first (`Tails`). Assumes nothing.
use Rattle.path.proofs.Tails.{Tail}
use Rattle.path.proofs.number.put_digits.Given as goal

abbrev pub invariant-loop-i : goal.invariant-loop-i
invariant-loop-i l = Tail l.initial.buf l.at l.n l.buf l.m l.i
