-- What the code's tables hold, and what its searches find.
-- Assumes nothing.
use Rattle.std.specs.Prelude.{ℕ, Bool, cond, Option, Some, None, List, [], ◌∷◌, ltb}
use Rattle.laws.specs.Lists.{has}
use Rattle.graph.specs.declared.Lead.{Lead}
use Rattle.graph.specs.Ends.{targets_of}
use Rattle.signal.specs.Signal.{Sources, lowest}

-- the sources of each node
abbrev pub sources_of : List Lead → Sources
sources_of es p = targets_of p es

-- the first of them that is not listed, if there is one
abbrev pub out_of : List ℕ → List ℕ → Option ℕ
out_of done [] = None
out_of done (q ∷ qs) = cond (has q done) (out_of done qs) (Some q)

-- the lowest of n numbers that passes the test, if one does
abbrev pub lowest_of : ℕ → (ℕ → Bool) → Option ℕ
lowest_of n test = let p = lowest n test 0 in cond (ltb p n) (Some p) None
