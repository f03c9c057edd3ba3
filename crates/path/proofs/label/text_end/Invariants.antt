-- `label::text_end`: what is left ends where the whole does.
-- Assumes nothing.
use Prim.Native.Nat.{◌+◌, ◌-◌, ◌*◌, ◌≤◌}
use mathlib.Core.Path.{◌≡◌}
use Rattle.chart.specs.Text.{ending}
use Rattle.path.proofs.label.text_end.Given as goal

abbrev pub invariant-loop-k : goal.invariant-loop-k
invariant-loop-k l = (ending (l.len - l._k) l.chart l.end ≡ ending l.len l.chart l.at) × (l.end ≤ l.at + 2 * l._k)
