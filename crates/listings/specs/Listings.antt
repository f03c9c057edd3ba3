-- The listing of document 01: 'The listing program reads a chart .., origin 0 0'.
-- Assumes nothing.
use Rattle.std.specs.Prelude.{ℕ, ◌+◌, List, [], ◌∷◌, ◌++◌}
use Rattle.std.specs.Fmt.{decimal}
use lib.Chars.{codes}
use Rattle.refusals.specs.declared.Numbers.{Numbers}
use Rattle.refusals.specs.Refusals.{numbers_of, text_numbers_of, refused_text}
use Rattle.chart.specs.declared.Setting.{Setting}
use Rattle.grid.specs.declared.BoxRecord.{BoxRecord}
use Rattle.grid.specs.declared.SheetRecord.{SheetRecord}
use Rattle.grid.specs.Record.{boxes_of}
use Rattle.grid.specs.Curves.{record_of}
use Rattle.grid.specs.Sheeted.{Sheeted, ready, refusal, sheeted}
use Rattle.path.specs.Text.{text_of}
use Rattle.path.specs.Reader.{Answer, segments, refused}
use Rattle.path.specs.Answers.{sheet_answer}

-- the numbers, a space before each
abbrev pub spaced : List ℕ → List ℕ
spaced [] = []
spaced (n ∷ ns) = 32 ∷ decimal n ++ spaced ns

-- a word and numbers, and a line feed
abbrev pub line : List ℕ → List ℕ → List ℕ
line word ns = word ++ spaced ns ++ (10 ∷ [])

-- '`sheet` columns rows width height boxes cuts'
abbrev pub size_line : SheetRecord → List ℕ
size_line s = line (codes "sheet") (s.columns ∷ s.rows ∷ s.width ∷ s.height ∷ s.count ∷ s.cuts ∷ [])

-- 'per box `box` number column row x y width height'
abbrev pub box_line : ℕ → BoxRecord → List ℕ
box_line k b = line (codes "box") (k ∷ b.column ∷ b.row ∷ b.x ∷ b.y ∷ b.width ∷ b.height ∷ [])

-- the boxes from number k on
abbrev pub box_lines : ℕ → List BoxRecord → List ℕ
box_lines k [] = []
box_lines k (b ∷ bs) = box_line k b ++ box_lines (k + 1) bs

-- '`path`, a space and the text, or `path` alone if that is empty'
abbrev pub text_line : List ℕ → List ℕ
text_line [] = codes "path" ++ (10 ∷ [])
text_line (b ∷ t) = codes "path" ++ (32 ∷ b ∷ t) ++ (10 ∷ [])

-- 'Refused: `refused` and both numbers'
abbrev pub refused_line : Numbers → List ℕ
refused_line n = refused_text n ++ (10 ∷ [])

-- the path of a sheet; no chart's sheet is refused here (`LaidOut.sound`), but one that a caller built may be
abbrev pub answer_line : Answer → List ℕ
answer_line (segments ds) = text_line (text_of ds)
answer_line (refused why) = refused_line (text_numbers_of why)

abbrev pub path_line : SheetRecord → List ℕ
path_line s = answer_line (sheet_answer s)

-- what is listed of a sheet
unfoldable pub sheet_lines : SheetRecord → List ℕ
sheet_lines s = size_line s ++ box_lines 0 (boxes_of s) ++ path_line s

abbrev pub lines_of : Sheeted → List ℕ
lines_of (ready sh) = sheet_lines (record_of sh 0 0)
lines_of (refusal why) = refused_line (numbers_of why)

-- the listing of a chart's bytes, in the setting w
unfoldable pub listing_of : Setting → List ℕ → List ℕ
listing_of w s = lines_of (sheeted w s 0 0)
