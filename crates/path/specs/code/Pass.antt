-- What one pass over a text keeps, in the code's records: how the reader stands, how many segments have begun, and segment k as far as it is read.
-- (`Reader` is the meaning; `proofs/Passes.antt` shows that this is a part of it.)
use Rattle.std.specs.Prelude.{Option, Some, None, cond, List, [], ◌∷◌, ℕ, zero, suc, ◌+◌, ◌*◌, eqb, get_or, take, set}
use Rattle.path.specs.declared.reader.Command.{Command}
use Rattle.path.specs.declared.reader.Act.{Act}
use Rattle.path.specs.declared.reader.Act.TheVariants.{Letter as letter, Space as space, First as first, More as more, Point as point, Half as half, Stop as stop, Stay as stay}
use Rattle.path.specs.declared.pass.Kept.{Kept}
use Rattle.path.specs.declared.pass.Pass.{Pass}
use Rattle.path.specs.declared.drawn.Drawn.{Drawn}
use Rattle.path.specs.declared.drawn.Drawn.TheVariants.{Close}
use Rattle.path.specs.Reader.{stood, act, moved, drawn_from}

-- six numbers of a list
abbrev pub six_of : List ℕ → List ℕ
six_of hs = get_or hs 0 0 ∷ get_or hs 1 0 ∷ get_or hs 2 0 ∷ get_or hs 3 0 ∷ get_or hs 4 0 ∷ get_or hs 5 0 ∷ []

abbrev pub pushed : List ℕ → ℕ → List ℕ
pushed s h = h ∷ take 5 s

abbrev pub renewed : List ℕ → ℕ → List ℕ
renewed s h = set s 0 h

abbrev pub kept_of : Act → ℕ → Kept → Kept
kept_of (letter c) v k = record { command = Some c; numbers = k.numbers }
kept_of space v k = k
kept_of (first d) v k = record { command = k.command; numbers = pushed k.numbers (2 * v) }
kept_of (more d) v k = record { command = k.command; numbers = renewed k.numbers (2 * v) }
kept_of point v k = k
kept_of half v k = record { command = k.command; numbers = renewed k.numbers (2 * v + 1) }
kept_of stop v k = k
kept_of stay v k = k

abbrev pub begins : Act → ℕ
begins (letter c) = 1
begins space = 0
begins (first d) = 0
begins (more d) = 0
begins point = 0
begins half = 0
begins stop = 0
begins stay = 0

abbrev pub empty : Pass
empty = record { stand = stood; count = 0; kept = record { command = None; numbers = six_of [] } }

-- segment k is the one with k begun before it
abbrev pub passed : ℕ → Act → ℕ → Pass → Pass
passed k a at m =
    record {
      stand = moved a at m.stand;
      count = m.count + begins a;
      kept = cond (eqb (m.count + begins a) (k + 1)) (kept_of a (moved a at m.stand).value m.kept) m.kept;
    }

-- after i bytes
unfoldable pub pass_to : ℕ → List ℕ → ℕ → Pass
pass_to k s zero = empty
pass_to k s (suc i) = passed k (act (pass_to k s i).stand (get_or s i 0)) i (pass_to k s i)

-- the segment of a command and its numbers; of none, a close
abbrev pub drawn_if : Option Command → List ℕ → Drawn
drawn_if (Some c) hs = drawn_from c hs
drawn_if None hs = Close

abbrev pub drawn_kept : Kept → Drawn
drawn_kept k = drawn_if k.command k.numbers
