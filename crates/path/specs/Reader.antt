-- The reader: 'A reader of this profile goes left to right'.
use Rattle.std.specs.Prelude.{Bool, true, false, cond, not, ◌&&◌, List, [], ◌∷◌, ◌++◌, ℕ, suc, ◌+◌, ◌-◌, ◌*◌, eqb, leb, ltb, length, get_or, Option, Some, None, Result, Ok, Err}
use Rattle.refusals.specs.declared.TextRefusal.{TextRefusal}
use Rattle.refusals.specs.declared.TextRefusal.TheVariants.{NotProfile, LargeNumber, NoMove}
use Rattle.path.specs.declared.reader.Phase.{Phase}
use Rattle.path.specs.declared.reader.Phase.TheVariants.{Begin, Letter, Lettered, Digit, Number, Point, Halved, Stopped}
use Rattle.path.specs.declared.reader.Command.{Command}
use Rattle.path.specs.declared.reader.Act.{Act}
use Rattle.path.specs.declared.reader.Act.TheVariants.{Letter as letter, Space as space, First as first, More as more, Point as point, Half as half, Stop as stop, Stay as stay}
use Rattle.path.specs.declared.reader.Stand.{Stand}
use Rattle.path.specs.declared.drawn.Drawn.{Drawn}
use Rattle.path.specs.declared.drawn.Drawn.TheVariants.{Move, Line, Cubic, Close}
use Rattle.path.specs.Number.{limit}

-- ---- bytes
abbrev pub is_digit : ℕ → Bool
is_digit b = leb 48 b && leb b 57

-- ---- commands
-- 'M or L and two numbers, C and six, Z and none'
abbrev pub arity : Command → ℕ
arity Command.Move = 2
arity Command.Line = 2
arity Command.Cubic = 6
arity Command.Close = 0

abbrev pub is_move : Command → Bool
is_move Command.Move = true
is_move Command.Line = false
is_move Command.Cubic = false
is_move Command.Close = false

-- ---- what a byte is to the reader, by where it stands
-- M, L, C or Z
abbrev pub on_letter : ℕ → Act
on_letter b =
    cond (eqb b 77) (letter Command.Move)
    (cond (eqb b 76) (letter Command.Line)
    (cond (eqb b 67) (letter Command.Cubic)
    (cond (eqb b 90) (letter Command.Close) stop)))

abbrev pub on_space : ℕ → Act
on_space b = cond (eqb b 32) space stop

abbrev pub on_first : ℕ → Act
on_first b = cond (is_digit b) (first (b - 48)) stop

-- after a digit: a further one unless the number is `0`, the point, or the space
abbrev pub after_digit : ℕ → Act
after_digit b = cond (eqb b 46) point (on_space b)

abbrev pub on_number : ℕ → ℕ → Act
on_number v b = cond (not (eqb v 0) && is_digit b) (more (b - 48)) (after_digit b)

abbrev pub act_of : Phase → ℕ → ℕ → Act
act_of Begin v b = on_letter b
act_of Letter v b = on_letter b
act_of Lettered v b = on_space b
act_of Digit v b = on_first b
act_of Number v b = on_number v b
act_of Point v b = cond (eqb b 53) half stop
act_of Halved v b = on_space b
act_of (Stopped p) v b = stay

-- ---- how the reader stands after it
abbrev pub stood : Stand
stood = record { phase = Begin; left = 0; value = 0; begun = 0; large = None; other = false }

abbrev pub is_begin : Phase → Bool
is_begin Begin = true
is_begin Letter = false
is_begin Lettered = false
is_begin Digit = false
is_begin Number = false
is_begin Point = false
is_begin Halved = false
is_begin (Stopped p) = false

-- a whole part with one more digit; past the limit it stays
abbrev pub grown : ℕ → ℕ → ℕ
grown v d = cond (leb v limit) (10 * v + d) v

-- 'A number is too large: the place of the first digit of the first such': the number that began at `at` is noted, if it is too large and none was noted before
abbrev pub first_large : Bool → ℕ → Option ℕ → Option ℕ
first_large too at (Some p) = Some p
first_large too at None = cond too (Some at) None

abbrev pub marked : Bool → Stand → Stand
marked too s = record { phase = s.phase; left = s.left; value = s.value; begun = s.begun; large = first_large too s.begun s.large; other = s.other }

abbrev pub standing : Stand → Phase → Stand
standing s p = record { phase = p; left = s.left; value = s.value; begun = s.begun; large = s.large; other = s.other }

abbrev pub moved : Act → ℕ → Stand → Stand
moved (letter c) at s = record { phase = Lettered; left = arity c; value = s.value; begun = s.begun; large = s.large; other = cond (is_begin s.phase) (not (is_move c)) s.other }
moved space at s = standing s (cond (eqb s.left 0) Letter Digit)
moved (first d) at s = record { phase = Number; left = s.left - 1; value = d; begun = at; large = s.large; other = s.other }
moved (more d) at s = marked (ltb limit (grown s.value d)) (record { phase = Number; left = s.left; value = grown s.value d; begun = s.begun; large = s.large; other = s.other })
moved point at s = standing s Point
moved half at s = marked (leb limit s.value) (standing s Halved)
moved stop at s = standing s (Stopped at)
moved stay at s = s

-- ---- what is read: the segments so far, the latest first; of each its command and its numbers in halves, the latest first
pub record Part : Type 0 where
  pub command : Command
  pub numbers : List ℕ

abbrev pub on_last : (ℕ → ℕ) → List ℕ → List ℕ
on_last f [] = []
on_last f (h ∷ hs) = f h ∷ hs

abbrev pub on_part : (List ℕ → List ℕ) → List Part → List Part
on_part f [] = []
on_part f (p ∷ ps) = record { command = p.command; numbers = f p.numbers } ∷ ps

abbrev pub gained : Act → List Part → List Part
gained (letter c) ps = record { command = c; numbers = [] } ∷ ps
gained space ps = ps
gained (first d) ps = on_part (λ hs. 2 * d ∷ hs) ps
gained (more d) ps = on_part (on_last (λ h. 10 * h + 2 * d)) ps
gained point ps = ps
gained half ps = on_part (on_last (λ h. h + 1)) ps
gained stop ps = ps
gained stay ps = ps

-- ---- the reader and what it has read
pub record Reading : Type 0 where
  pub stand : Stand
  pub parts : List Part

abbrev pub act : Stand → ℕ → Act
act s b = act_of s.phase s.value b

abbrev pub next : Act → ℕ → Reading → Reading
next a at r = record { stand = moved a at r.stand; parts = gained a r.parts }

abbrev pub step : ℕ → Reading → ℕ → Reading
step at r b = next (act r.stand b) at r

-- the bytes from place `at` on
abbrev pub run_from : List ℕ → ℕ → Reading → Reading
run_from [] at r = r
run_from (b ∷ bs) at r = run_from bs (suc at) (step at r b)

abbrev pub unread : Reading
unread = record { stand = stood; parts = [] }

unfoldable pub run : List ℕ → Reading
run s = run_from s 0 unread

-- ---- the segments of the parts
abbrev pub drawn_from : Command → List ℕ → Drawn
drawn_from Command.Move hs = Move (get_or hs 1 0) (get_or hs 0 0)
drawn_from Command.Line hs = Line (get_or hs 1 0) (get_or hs 0 0)
drawn_from Command.Cubic hs = Cubic (get_or hs 5 0) (get_or hs 4 0) (get_or hs 3 0) (get_or hs 2 0) (get_or hs 1 0) (get_or hs 0 0)
drawn_from Command.Close hs = Close

abbrev pub part_of : Part → Drawn
part_of p = drawn_from p.command p.numbers

abbrev pub drawn_all : List Part → List Drawn
drawn_all [] = []
drawn_all (p ∷ ps) = drawn_all ps ++ (part_of p ∷ [])

-- ---- the answer
pub data Answer : Type 0 where
  segments : List Drawn → Answer
  refused : TextRefusal → Answer

-- the text may end here
abbrev pub ended : Phase → ℕ → Bool
ended Begin l = true
ended Letter l = false
ended Lettered l = eqb l 0
ended Digit l = false
ended Number l = eqb l 0
ended Point l = false
ended Halved l = eqb l 0
ended (Stopped p) l = false

-- 17: 'that byte's place, or the length if it breaks off'
abbrev pub broken_at : ℕ → Phase → ℕ
broken_at n Begin = n
broken_at n Letter = n
broken_at n Lettered = n
broken_at n Digit = n
broken_at n Number = n
broken_at n Point = n
broken_at n Halved = n
broken_at n (Stopped p) = p

-- 18; then 19
abbrev pub whole_verdict : Option ℕ → Bool → Result (Unit {0}) TextRefusal
whole_verdict (Some p) other = Err (LargeNumber p)
whole_verdict None other = cond other (Err NoMove) (Ok tt)

-- 17 before them
abbrev pub verdict_of : ℕ → Stand → Result (Unit {0}) TextRefusal
verdict_of n s = cond (ended s.phase s.left) (whole_verdict s.large s.other) (Err (NotProfile (broken_at n s.phase)))

abbrev pub given : Result (Unit {0}) TextRefusal → List Drawn → Answer
given (Ok u) ds = segments ds
given (Err r) ds = refused r

abbrev pub answer_of : ℕ → Stand → List Drawn → Answer
answer_of n s ds = given (verdict_of n s) ds

unfoldable pub read : List ℕ → Answer
unfolding run
read s = answer_of (length s) (run s).stand (drawn_all (run s).parts)
