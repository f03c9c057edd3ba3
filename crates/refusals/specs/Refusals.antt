-- The documents' number of each refusal, and its second number: '0 unless said'.
-- Assumes nothing.
use Rattle.std.specs.Prelude.{ℕ, Result, Ok, Err, List, ◌∷◌, ◌++◌}
use Rattle.std.specs.Fmt.{decimal}
use lib.Chars.{codes}
use Rattle.refusals.specs.declared.Numbers.{Numbers}
use Rattle.refusals.specs.declared.Refusal.{Refusal}
use Rattle.refusals.specs.declared.Refusal.TheVariants.{OneByte, OtherFormat, ManyNodes, CutContents, Misplaced, CutBody, ManyLines, LongText, NotText, BytesAfter, ManyEnds, Outside, ManyBoxes, TooFar, NotThere}
use Rattle.refusals.specs.declared.TextRefusal.{TextRefusal}

abbrev pub numbers : ℕ → ℕ → Numbers
numbers a b = record { first = a; second = b }

abbrev pub numbers_of : Refusal → Numbers
numbers_of OneByte = numbers 1 0
numbers_of OtherFormat = numbers 2 0
numbers_of ManyNodes = numbers 3 0
numbers_of CutContents = numbers 4 0
numbers_of Misplaced = numbers 5 0
numbers_of CutBody = numbers 6 0
numbers_of ManyLines = numbers 7 0
numbers_of LongText = numbers 8 0
numbers_of NotText = numbers 9 0
numbers_of BytesAfter = numbers 10 0
numbers_of ManyEnds = numbers 11 0
numbers_of (Outside target) = numbers 12 target
numbers_of ManyBoxes = numbers 13 0
numbers_of TooFar = numbers 14 0
numbers_of NotThere = numbers 15 0

abbrev pub text_numbers_of : TextRefusal → Numbers
text_numbers_of TextRefusal.TooFar = numbers 14 0
text_numbers_of TextRefusal.NotThere = numbers 15 0
text_numbers_of (TextRefusal.ShortBuffer needed) = numbers 16 needed
text_numbers_of (TextRefusal.NotProfile at) = numbers 17 at
text_numbers_of (TextRefusal.LargeNumber at) = numbers 18 at
text_numbers_of TextRefusal.NoMove = numbers 19 0

-- the two numbers that an answer states: 0 0 where nothing is refused
abbrev pub numbers_in : {A : Type 0} → Result A Refusal → Numbers
numbers_in (Ok x) = numbers 0 0
numbers_in (Err why) = numbers_of why

abbrev pub text_numbers_in : {A : Type 0} → Result A TextRefusal → Numbers
text_numbers_in (Ok x) = numbers 0 0
text_numbers_in (Err why) = text_numbers_of why

-- a refusal in print: '`refused` and both numbers'
abbrev pub refused_text : Numbers → List ℕ
refused_text n = codes "refused " ++ decimal n.first ++ (32 ∷ decimal n.second)
