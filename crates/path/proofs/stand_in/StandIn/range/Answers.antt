-- `StandIn::range` meets its contract: as many bytes for each text of its range. Assumes nothing.
use Prim.Native.Nat.{◌+◌, ◌-◌, ◌*◌}
use native.Mathlib.Omega.{arith}
use Rattle.std.proofs.lemmas.Bool.Decides.{nat_tests}
use Rattle.path.proofs.Labels.{span-is}
use Rattle.path.proofs.stand_in.StandIn.range.Goals as goal

pub returns-in-0-to-9 : goal.returns-in-0-to-9
returns-in-0-to-9 c = let j = c.args.self.number in span-is j (2 * j) 2 (2 * j + 2) c.args.self.there (grind (arith, nat_tests)) (grind (arith, nat_tests)) (omega arith)

pub returns-in-10-to-31 : goal.returns-in-10-to-31
returns-in-10-to-31 c = let j = c.args.self.number in span-is j (3 * j - 10) 3 (3 * j - 7) c.args.self.there (grind (arith, nat_tests)) (grind (arith, nat_tests)) (omega arith)

pub returns-in-32-to-40 : goal.returns-in-32-to-40
returns-in-32-to-40 c = let j = c.args.self.number in span-is j (11 * j - 266) 11 (11 * j - 255) c.args.self.there (grind (arith, nat_tests)) (grind (arith, nat_tests)) (omega arith)

pub returns-in-41-to-130 : goal.returns-in-41-to-130
returns-in-41-to-130 c = let j = c.args.self.number in span-is j (12 * j - 307) 12 (12 * j - 295) c.args.self.there (grind (arith, nat_tests)) (grind (arith, nat_tests)) (omega arith)

pub returns-in_default : goal.returns-in_default
returns-in_default c = let j = c.args.self.number in span-is j (13 * j - 438) 13 (13 * j - 425) c.args.self.there (grind (arith, nat_tests)) (grind (arith, nat_tests)) (omega arith)
