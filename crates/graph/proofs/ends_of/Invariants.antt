-- `ends_of`: the first k leads are those of the first k records.
-- Assumes nothing.
use Rattle.std.proofs.Common.{◌≡◌, length, take, map}
use Rattle.graph.specs.Ends.{lead_of}
use Rattle.graph.proofs.ends_of.Given as goal

abbrev pub invariant-loop-k : goal.invariant-loop-k
invariant-loop-k l = (length l.items ≡ 88) × (take l.k l.items ≡ map lead_of (take l.k l.fn.t.items))
