-- Worked examples. Path texts: every row of the table in the decided points, the starred texts `M 1.5 08` and `Z`, the order of 17, 18 and 19, the limits;
-- sheets: document 01's example, and the limits of 14. One table, one computed test.
-- Assumes nothing.
use Rattle.std.specs.Prelude.{ℕ, ◌≡◌, refl, Bool, true, false, ◌&&◌, List, [], ◌∷◌, ◌++◌, eqb, length, replicate}
use Prim.Native.String.{String}
use Rattle.laws.specs.Bytes.{ascii, all_of, same}
use Rattle.refusals.specs.declared.Numbers.{Numbers}
use Rattle.refusals.specs.Refusals.{text_numbers_of, text_numbers_in}
use Rattle.grid.specs.declared.BoxRecord.{BoxRecord}
use Rattle.grid.specs.declared.Curve.{Curve}
use Rattle.grid.specs.declared.SheetRecord.{SheetRecord}
use Rattle.grid.specs.Record.{no_box, no_curve, sound_of}
use Rattle.path.specs.declared.drawn.Drawn.{Drawn}
use Rattle.path.specs.declared.drawn.Drawn.TheVariants.{Move, Line, Cubic, Close}
use Rattle.path.specs.Number.{digits, number_text}
use Rattle.path.specs.Text.{letter_of, numbers_of, text_of}
use Rattle.path.specs.Segments.{drawn_of}
use Rattle.path.specs.Reader.{Answer, segments, refused, read}
use Rattle.path.specs.Answers.{sheet_answer, given_of, written_of}

-- ---- tests
-- letters and numbers, one after the other: for each letter how many numbers follow is known
abbrev words : List Drawn → List ℕ
words [] = []
words (d ∷ ds) = letter_of d ∷ numbers_of d ++ words ds

abbrev numbered : Numbers → ℕ → ℕ → Bool
numbered n a b = eqb n.first a && eqb n.second b

-- 0 and how many segments, or the refusal's two numbers
abbrev counted : Answer → ℕ → ℕ → Bool
counted (segments ds) a b = eqb a 0 && eqb (length ds) b
counted (refused r) a b = numbered (text_numbers_of r) a b

abbrev reading : Answer → List Drawn → Bool
reading (segments es) ds = same (words es) (words ds)
reading (refused r) ds = false

-- ---- sheets
abbrev box : ℕ → ℕ → ℕ → ℕ → BoxRecord
box x y w h = record { x = x; y = y; width = w; height = h; column = 0; row = 0; owner = 0 }

abbrev curve : ℕ → ℕ → ℕ → ℕ → Curve
curve x0 y0 x1 y1 = record { x0 = x0; y0 = y0; x1 = x1; y1 = y1 }

-- at origin x y, with these counts, two boxes and a curve
abbrev sheet : ℕ → ℕ → ℕ → ℕ → BoxRecord → BoxRecord → Curve → SheetRecord
sheet x y count drawn a b c =
    record {
      width = 640;
      height = 3072;
      x = x;
      y = y;
      columns = 1;
      rows = 2;
      cuts = 0;
      count = count;
      drawn = drawn;
      boxes = a ∷ b ∷ replicate 46 no_box;
      curves = c ∷ replicate 87 no_curve;
    }

-- document 01's example
abbrev two : SheetRecord
two = sheet 0 0 2 1 (box 128 128 384 384) (box 128 2560 384 384) (curve 320 384 320 2688)

-- ---- the table
data Case : Type 0 where
  -- a text: 0 and how many segments, or the refusal
  reads : String → ℕ → ℕ → Case
  -- a text's segment by number: 0 0, or the refusal
  gives : String → ℕ → ℕ → ℕ → Case
  -- a text written again into so many bytes: 0 0, or the refusal
  rewrites : String → ℕ → ℕ → ℕ → Case
  -- a text, both ways
  means : String → List Drawn → Case
  -- a sheet: 0 and how many segments, or the refusal; its text
  has : SheetRecord → ℕ → ℕ → Case
  draws : SheetRecord → String → Case

holds : Case → Bool
unfolding read text_of number_text digits sound_of drawn_of
holds (reads s a b) = counted (read (ascii s)) a b
holds (gives s k a b) = numbered (text_numbers_in (given_of k (read (ascii s)))) a b
holds (rewrites s n a b) = numbered (text_numbers_in (written_of (replicate n 0) (read (ascii s)))) a b
holds (means s ds) = same (text_of ds) (ascii s) && reading (read (ascii s)) ds
holds (has s a b) = counted (sheet_answer s) a b
holds (draws s t) = same (text_of (drawn_of s)) (ascii t)

cases : List Case
cases =
    -- the decided points' table
    reads "" 0 0
    ∷ reads " M 0 0" 17 0
    ∷ reads "M" 17 1
    ∷ reads "M0 0" 17 1
    ∷ reads "M .5 0" 17 2
    ∷ reads "M 08 0" 17 3
    ∷ reads "M 00 0" 17 3
    ∷ reads "M 1.50 0" 17 5
    ∷ reads "M -1 0" 17 2
    ∷ reads "M 0 0 0 0" 17 6
    ∷ reads "m 0 0" 17 0
    ∷ reads "M 0 0 Z L 1 1" 0 3
    ∷ reads "M 0 0 " 17 6
    ∷ reads "M 0  0" 17 4
    ∷ reads "M 0 0 M" 17 7
    ∷ reads "M 0 0Z" 17 5
    ∷ reads "M 0.5 0" 0 1
    ∷ reads "M 1.0 0" 17 4
    ∷ reads "M 1." 17 4
    ∷ reads "M 0,0" 17 3
    ∷ reads "M 1e3 0" 17 3
    ∷ reads "C 1 1" 17 5
    ∷ reads "Z x" 17 2
    ∷ reads "M 0 0 Z Z" 0 3
    -- document 01's starred texts
    ∷ reads "M 1.5 08" 17 7
    ∷ reads "Z" 19 0
    -- 17 before 18 before 19, by number and not by place
    ∷ reads "L 9999999 x" 17 10
    ∷ reads "L 9999999 0" 18 2
    ∷ reads "L 1 1" 19 0
    ∷ reads "M 9 9999999 L 9999999 0" 18 4
    -- the limit: 8388608 is taken, more is not
    ∷ reads "M 8388608 8388607.5" 0 1
    ∷ reads "M 0 8388608.5" 18 4
    ∷ reads "M 8388609 0" 18 2
    ∷ reads "M 99999999999999999999999999 0 C" 17 32
    -- 15 and 16 come after them
    ∷ gives "M 0 0 Z" 1 0 0
    ∷ gives "M 0 0 Z" 2 15 0
    ∷ gives "" 0 15 0
    ∷ gives "L 0 0" 9 19 0
    ∷ rewrites "M 0 0 Z" 7 0 0
    ∷ rewrites "M 0 0 Z" 6 16 7
    ∷ rewrites "Z" 0 19 0
    ∷ rewrites "" 0 0 0
    -- a text both ways
    ∷ means "M 0.5 12 L 8388608 0 C 1 2 3 4 5 6.5 Z" (Move 1 24 ∷ Line 16777216 0 ∷ Cubic 2 4 6 8 10 13 ∷ Close ∷ [])
    -- document 01's example, at two origins
    ∷ draws two "M 128 128 L 512 128 L 512 512 L 128 512 Z M 128 2560 L 512 2560 L 512 2944 L 128 2944 Z M 320 384 C 320 1536 320 1536 320 2688"
    ∷ draws (sheet 1000 1 2 1 (box 128 128 384 384) (box 128 2560 384 384) (curve 320 384 320 2688))
    "M 1128 129 L 1512 129 L 1512 513 L 1128 513 Z M 1128 2561 L 1512 2561 L 1512 2945 L 1128 2945 Z M 1320 385 C 1320 1537 1320 1537 1320 2689"
    -- a halfway height that is not whole
    ∷ draws (sheet 0 0 0 1 no_box no_box (curve 10 3 20 4)) "M 10 3 C 10 3.5 20 3.5 20 4"
    -- no box, no curve
    ∷ draws (sheet 0 0 0 0 no_box no_box no_curve) ""
    ∷ has two 0 12
    -- 14: a position, or a count
    ∷ has (sheet 8388096 0 2 1 (box 128 128 384 384) (box 128 2560 384 384) (curve 320 384 320 2688)) 0 12
    ∷ has (sheet 8388097 0 2 1 (box 128 128 384 384) (box 128 2560 384 384) (curve 320 384 320 2688)) 14 0
    ∷ has (sheet 0 8385665 2 1 (box 128 128 384 384) (box 128 2560 384 384) (curve 320 384 320 2688)) 14 0
    ∷ has (sheet 0 0 0 1 no_box no_box (curve 0 0 0 8388609)) 14 0
    ∷ has (sheet 4294967295 0 1 0 (box 1 1 1 1) no_box no_curve) 14 0
    ∷ has (sheet 0 0 49 0 no_box no_box no_curve) 14 0
    ∷ has (sheet 0 0 0 89 no_box no_box no_curve) 14 0
    -- what is not counted does not matter
    ∷ has (sheet 0 0 1 0 no_box (box 4294967295 0 0 0) no_curve) 0 5
    ∷ []

checked : all_of holds cases ≡ true
unfolding holds cases
checked = refl

-- document 01's example once more, as an equation
example : text_of (drawn_of two) ≡ ascii "M 128 128 L 512 128 L 512 512 L 128 512 Z M 128 2560 L 512 2560 L 512 2944 L 128 2944 Z M 320 384 C 320 1536 320 1536 320 2688"
unfolding text_of number_text digits drawn_of
example = refl
