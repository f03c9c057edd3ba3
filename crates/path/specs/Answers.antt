-- What the operations answer, by the segments that a sheet or a path text has, or by its refusal.
-- Assumes nothing.
use Rattle.std.specs.Prelude.{cond, List, ℕ, leb, ltb, length, get_or, Result, Ok, Err}
use Rattle.refusals.specs.declared.Numbers.{Numbers}
use Rattle.refusals.specs.declared.TextRefusal.{TextRefusal}
use Rattle.refusals.specs.declared.TextRefusal.TheVariants.{TooFar, NotThere}
use Rattle.refusals.specs.Refusals.{numbers, text_numbers_of}
use Rattle.path.specs.declared.drawn.Drawn.TheVariants.{Move}
use Rattle.path.specs.declared.Segment.{Segment}
use Rattle.path.specs.Drawn.{segment_of}
use Rattle.path.specs.Text.{text_of}
use Rattle.grid.specs.declared.SheetRecord.{SheetRecord}
use Rattle.grid.specs.Record.{sound_of}
use Rattle.path.specs.Segments.{drawn_of}
use Rattle.path.specs.Reader.{Answer, segments, refused}
use Rattle.path.specs.Writer.{placed, answered}

-- 14: 'A sheet built by a caller with a count past its arrays or a position past 8388608'
abbrev pub sheet_answer : SheetRecord → Answer
sheet_answer s = cond (sound_of s) (segments (drawn_of s)) (refused TooFar)

abbrev pub count_of : Answer → Result ℕ TextRefusal
count_of (segments ds) = Ok (length ds)
count_of (refused r) = Err r

-- 15: 'A .. segment number that isn't there'
abbrev pub given_of : ℕ → Answer → Result Segment TextRefusal
given_of k (segments ds) = cond (ltb k (length ds)) (Ok (segment_of (get_or ds k (Move 0 0)))) (Err NotThere)
given_of k (refused r) = Err r

-- 16 (`answered`), or the text of the segments, written at the buffer's start
abbrev pub written_of : List ℕ → Answer → Result ℕ TextRefusal
written_of buf (segments ds) = answered buf 0 (text_of ds)
written_of buf (refused r) = Err r

abbrev pub left_of : List ℕ → Answer → List ℕ
left_of buf (segments ds) = placed buf 0 (text_of ds)
left_of buf (refused r) = buf

-- the same by what a sheet or a path text gives: its refusal first; then 15 of a segment number, 16 of a buffer with the length needed
abbrev pub refusal_of : Answer → Numbers
refusal_of (segments ds) = numbers 0 0
refusal_of (refused r) = text_numbers_of r

abbrev pub segment_refusal : ℕ → Answer → Numbers
segment_refusal k (segments ds) = cond (ltb k (length ds)) (numbers 0 0) (numbers 15 0)
segment_refusal k (refused r) = text_numbers_of r

abbrev pub text_refusal : List ℕ → Answer → Numbers
text_refusal buf (segments ds) = cond (leb (length (text_of ds)) (length buf)) (numbers 0 0) (numbers 16 (length (text_of ds)))
text_refusal buf (refused r) = text_numbers_of r
