-- `number::put_digits` meets its contract: the digits are written from the last to the first (`Tails`). Assumes nothing.
use mathlib.Core.Path.{◌≡◌, ap}
use Prim.Native.Nat.{ℕ, ◌+◌, ◌-◌, ◌*◌, ◌/◌, ◌%◌}
use native.Mathlib.Omega.{arith}
use Rattle.path.proofs.Tails.{tail-room, tail-last, tail-fits, tail_more, tail-ends}
use Rattle.path.proofs.number.put_digits.Goals as goal

pub bounds-buf-i : goal.bounds-buf-i
bounds-buf-i c = omega (arith, tail-fits c.loop-i.invariant (omega arith))

pub loop-i-preserved : goal.loop-i-preserved
loop-i-preserved c =
    let d : c.loop-i.m - 10 * (c.loop-i.m / 10) ≡ c.loop-i.m % 10 = omega arith in
    rw d (tail_more c.loop-i.invariant c.loop-i-test.true)

pub overflow_cast-buf-2 : goal.overflow_cast-buf-2
overflow_cast-buf-2 c = omega (arith, tail-last c.loop-i.invariant c.loop-i-test.false)

pub overflow_add-buf-2 : goal.overflow_add-buf-2
overflow_add-buf-2 c = omega (arith, tail-last c.loop-i.invariant c.loop-i-test.false)

pub bounds-buf-at : goal.bounds-buf-at
bounds-buf-at c = omega (arith, tail-room c.loop-i.invariant, tail-fits c.loop-i.invariant (omega arith))

pub returns : goal.returns
returns c = record { bytes = tail-ends c.loop-i.invariant c.loop-i-test.false; after = ap (λ (k : ℕ). c.args.at + k) c.digits_len.ensures }
