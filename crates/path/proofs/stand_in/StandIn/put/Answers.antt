-- `StandIn::put` meets its contract: after i turns the first i bytes of the text are put. Assumes nothing.
use Prim.Native.Nat.{ℕ, ◌+◌, ◌-◌, ◌≤◌, ◌<◌}
use native.Mathlib.Omega.{arith}
use mathlib.Core.Path.{◌≡◌, ◌∙◌}
use lib.ListN.{length, get_or, take, set}
use Rattle.path.specs.Writer.{put}
use Rattle.path.specs.Label.{stand_in}
use Rattle.path.proofs.Puts.{put_next}
use Rattle.path.proofs.Labels.{span-rises, span-long, span-within}
use Rattle.path.proofs.stand_in.StandIn.put.Goals as goal
use Rattle.path.proofs.stand_in.StandIn.put.Goals.{After-range-s}

-- where the text stands
module _ (f : After-range-s) where
  abbrev number : ℕ
  number = f.args.self.number

  few : number < 287
  few = f.args.self.there

  rises : f.range-s.result.start ≤ f.range-s.result.end
  rises = span-rises number f.range-s.result f.range-s.ensures

  long : f.range-s.result.end - f.range-s.result.start ≡ length (stand_in number)
  long = span-long number f.range-s.result f.range-s.ensures

  inside : f.range-s.result.end ≤ 3293
  inside = span-within number f.range-s.result f.range-s.ensures few

pub bounds-table-s : goal.bounds-table-s
bounds-table-s c = omega (arith, inside (goal.at.bounds-table-s c).After-range-s)

pub loop-i-preserved : goal.loop-i-preserved
loop-i-preserved c =
    let at = c.range-s.result.start in
    let i = c.loop-i.i in
    let t = stand_in (number (goal.at.loop-i-preserved c).After-range-s) in
    let table₀ = c.args.table.now in
    let stored : set c.loop-i.table (at + i) c.byte.result ≡ set (put table₀ at (take i t)) (at + i) (get_or t i 0) = cc (c.loop-i.invariant, c.byte.ensures) in
    stored ∙ put_next t table₀ at i (omega (arith, long (goal.at.loop-i-preserved c).After-range-s))
