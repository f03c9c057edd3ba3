-- What the operations on sheets and path texts promise beside their equations: what is written is SVG path data and has one reading; what is read is judged in
-- document 01's words; no position is rounded.
-- Assumes nothing.
use Rattle.std.specs.Prelude.{◌≡◌, List, ◌++◌, ℕ, length, get_or, take, drop, Result, Ok}
use Rattle.refusals.specs.declared.TextRefusal.{TextRefusal}
use Rattle.refusals.specs.declared.TextRefusal.TheVariants.{NotProfile, LargeNumber, NoMove}
use Rattle.laws.specs.Lists.{All}
use Rattle.grid.specs.declared.SheetRecord.{SheetRecord}
use Rattle.path.specs.declared.drawn.Drawn.{Drawn}
use Rattle.path.specs.declared.drawn.Drawn.TheVariants.{Move}
use Rattle.path.specs.declared.Segment.{Segment}
use Rattle.path.specs.Text.{numbers_of, text_of, Smalls, Led}
use Rattle.path.specs.Drawn.{segment_of, Exactly}
use Rattle.path.specs.Segments.{drawn_of}
use Rattle.path.specs.Profile.{Refusal, Large, place_of}
use Rattle.path.specs.Reader.{Answer, segments, refused, read}
use Rattle.refusals.specs.Refusals.{text_numbers_in}
use Rattle.path.specs.Answers.{sheet_answer, count_of, given_of, written_of, left_of, refusal_of, segment_refusal, text_refusal}
use Rattle.path.specs.Svg.{Command, SvgPath}
use Rattle.path.specs.Meaning.{MeanAll}

-- ---- SVG
-- the bytes t are SVG 1.1 path data, and draw the segments ds
pub record Draws (t : List ℕ) (ds : List Drawn) : Type 0 where
  pub commands : List Command
  pub derives : SvgPath t commands
  pub means : MeanAll commands ds
  -- that grammar gives the bytes no other commands, and the commands are no other segments
  pub only : (cs : List Command) → SvgPath t cs → cs ≡ commands
  pub alone : (es : List Drawn) → MeanAll commands es → es ≡ ds

-- ---- a path text
-- s is the profile's text of the segments ds: they begin with a move, if there are any, and no number is above the limit
pub record InProfile (s : List ℕ) (ds : List Drawn) : Type 0 where
  pub text : text_of ds ≡ s
  pub led : Led ds
  pub small : Smalls ds

-- document 01's judgement of a path text: accepted, or 17, 18 or 19 with the place
pub data Judged (s : List ℕ) : Answer → Type 0 where
  accepted : {ds : List Drawn} → InProfile s ds → Judged s (segments ds)
  stops : {p : ℕ} → Refusal s p → Judged s (refused (NotProfile p))
  large : {ds : List Drawn} → text_of ds ≡ s → (l : Large ds) → Judged s (refused (LargeNumber (place_of l)))
  unled : {ds : List Drawn} → text_of ds ≡ s → Smalls ds → (Led ds → ⊥) → Judged s (refused NoMove)

-- `read` is that judgement of s, and there is no other; accepted, s is SVG path data that draws the same segments
pub record IsReading (s : List ℕ) : Type 0 where
  pub judged : Judged s (read s)
  pub only : (a : Answer) → Judged s a → a ≡ read s
  pub draws : (ds : List Drawn) → read s ≡ segments ds → Draws s ds

-- `text_count`
pub record IsCount (s : List ℕ) (r : Result ℕ TextRefusal) : Type 0 where
  pub whole : r ≡ count_of (read s)
  pub refused : text_numbers_in r ≡ refusal_of (read s)

-- `rewrite`: the answer r, and the buffer, `buf` before and `out` after; what is written is the text, byte for byte
pub record IsRewritten (s buf : List ℕ) (r : Result ℕ TextRefusal) (out : List ℕ) : Type 0 where
  pub whole : r ≡ written_of buf (read s)
  pub bytes : out ≡ left_of buf (read s)
  pub refused : text_numbers_in r ≡ text_refusal buf (read s)
  pub same : (n : ℕ) → r ≡ Ok n → (n ≡ length s) × (out ≡ s ++ drop n buf)

-- ---- segment k of what a sheet or a path text gives: `sheet_segment`, `text_segment`
pub record IsSegment (k : ℕ) (a : Answer) (r : Result Segment TextRefusal) : Type 0 where
  pub whole : r ≡ given_of k a
  pub refused : text_numbers_in r ≡ segment_refusal k a
  -- each pen position is exactly the whole or half number of the definition, none rounded
  pub exact : (ds : List Drawn) (g : Segment) → a ≡ segments ds → r ≡ Ok g → (g ≡ segment_of (get_or ds k (Move 0 0))) × All Exactly (numbers_of (get_or ds k (Move 0 0)))

-- ---- the text of a sheet
-- t is the text of the sheet s: it draws the sheet's segments, those that `sheet_segment` hands out, and our reader reads the same
pub record SheetText (s : SheetRecord) (t : List ℕ) : Type 0 where
  pub draws : Draws t (drawn_of s)
  pub reads : read t ≡ sheet_answer s

-- `write_sheet`: the answer r, and the buffer, `buf` before and `out` after
pub record IsWritten (s : SheetRecord) (buf : List ℕ) (r : Result ℕ TextRefusal) (out : List ℕ) : Type 0 where
  pub whole : r ≡ written_of buf (sheet_answer s)
  pub bytes : out ≡ left_of buf (sheet_answer s)
  pub refused : text_numbers_in r ≡ text_refusal buf (sheet_answer s)
  pub text : (n : ℕ) → r ≡ Ok n → SheetText s (take n out)
