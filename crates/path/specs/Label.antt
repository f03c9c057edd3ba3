-- A label's text: 'a part of the chart or of the stand-in table, not a copy; that table, lent beside the chart, is the fixed texts `#0` to `#31`, end to end';
-- 'the stand-in table gains `#1(invalid)` to `#255(invalid)` after `#31`' (document 02, L5).
-- A part is of bytes, both bytes of a degree sign among them.
-- Assumes nothing.
use Rattle.std.specs.Prelude.{ℕ, zero, suc, ◌+◌, ◌-◌, ◌*◌, ◌≤◌, ◌≡◌, cond, List, [], ◌∷◌, ◌++◌, leb, ltb, length, take, drop, Result, Ok, Err}
use Rattle.std.specs.Borrow.{Bor}
use Rattle.laws.specs.Bytes.{ascii, same}
use Rattle.refusals.specs.declared.Refusal.{Refusal}
use Rattle.refusals.specs.declared.Refusal.TheVariants.{NotThere}
use Rattle.chart.specs.Text.{Texted, characters_in, ending}
use Rattle.grid.specs.declared.TextPlace.{TextPlace}
use Rattle.grid.specs.declared.TextPlace.TheVariants.{InChart, InTable}
use Rattle.grid.specs.Labels.{character_width}
use Rattle.grid.specs.Labelled.{Labelled, ready, refusal, label_place_of}
use Rattle.std.specs.declared.ops.Range.{Range}
use Rattle.grid.specs.declared.LabelPlace.{LabelPlace}
use Rattle.path.specs.declared.LabelSpan.{LabelSpan}
use Rattle.path.specs.Number.{digits}

-- r is the part of s from a to e, and not a copy: it points into s, a elements from its start
abbrev pub IsPart : Bor (List ℕ) → ℕ → ℕ → Bor (List ℕ) → Type 0
IsPart s a e r = (r.ref_ptr ≡ (s.ref_ptr.0, a + s.ref_ptr.1)) × (r.now ≡ take (e - a) (drop a s.now))

-- from a to e, in the chart or in the table of fixed texts
pub data Place : Type 0 where
  chart table : ℕ → ℕ → Place

-- the place that is asked for where it lies within, and else 'the empty one at the chart's start'; m and n are the lengths of chart and table
abbrev pub part_at : LabelSpan → ℕ → ℕ → Place
part_at (LabelSpan.InChart at len) m n = cond (leb (at + len) m) (chart at (at + len)) (chart 0 0)
part_at (LabelSpan.InTable at len) m n = cond (leb (at + len) n) (table at (at + len)) (chart 0 0)

-- the place lies within a chart of m bytes, or a table of n
abbrev pub Within : ℕ → ℕ → Place → Type 0
Within m n (chart a e) = (a ≤ e) × (e ≤ m)
Within m n (table a e) = (a ≤ e) × (e ≤ n)

-- what stands at a place of the chart s or of the table t
abbrev pub text_at : List ℕ → List ℕ → Place → List ℕ
text_at s t (chart a e) = take (e - a) (drop a s)
text_at s t (table a e) = take (e - a) (drop a t)

-- r is the text at a place of the two slices
abbrev pub IsAt : Place → Bor (List ℕ) → Bor (List ℕ) → Bor (List ℕ) → Type 0
IsAt (chart a e) x y r = IsPart x a e r
IsAt (table a e) x y r = IsPart y a e r

-- ---- the stand-in table
-- 'A pointer's Debug text is `#` and the decimal number'
abbrev pub debug_text : ℕ → List ℕ
debug_text q = 35 ∷ digits q

-- text j: `#0` to `#31`, and after them `#1(invalid)` to `#255(invalid)`
unfoldable pub stand_in : ℕ → List ℕ
stand_in j = cond (ltb j 32) (debug_text j) (debug_text (j - 31) ++ ascii "(invalid)")

-- k texts from text j on, end to end
unfoldable pub stand_ins_from : ℕ → ℕ → List ℕ
stand_ins_from zero j = []
stand_ins_from (suc k) j = stand_in j ++ stand_ins_from k (suc j)

-- those before text j
abbrev pub stand_ins_to : ℕ → List ℕ
stand_ins_to j = stand_ins_from j 0

-- all 287
unfoldable pub stand_ins : List ℕ
stand_ins = stand_ins_to 287

-- where text j stands: after those before it
abbrev pub stand_in_span : ℕ → Range ℕ
stand_in_span j = record { start = length (stand_ins_to j); end = length (stand_ins_to j) + length (stand_in j) }

-- ---- what the two calls answer, by the label that the chart has or by its refusal
-- 15: 'or a lent table that isn't the fixed texts', even if the label's text is in the chart; 1 to 14 come first
abbrev pub tabled : List ℕ → Labelled → Labelled
tabled t (ready p) = cond (same t stand_ins) (ready p) (refusal NotThere)
tabled t (refusal why) = refusal why

-- where a label's text stands: in the chart s so many characters, in the table its fixed text
abbrev pub place_of : List ℕ → TextPlace → Place
place_of s (InChart at len) = chart at (ending len s at)
place_of s (InTable q) = table (stand_in_span q).start (stand_in_span q).end

-- 'the other the part, which if refused is the empty one at the chart's start'
abbrev pub place_in : List ℕ → Labelled → Place
place_in s (ready p) = place_of s p.text
place_in s (refusal why) = chart 0 0

abbrev pub label_part_of : List ℕ → List ℕ → Labelled → Place
label_part_of s t l = place_in s (tabled t l)

-- what is so of the part of every label v whose table was judged, of a refused one too
pub record LabelText (s t : List ℕ) (v : Labelled) : Type 0 where
  -- it lies within the chart or the table
  pub within : Within (length s) (length t) (place_in s v)
  -- it is text bytes and degree signs, both bytes of each
  pub texted : Texted (text_at s t (place_in s v))
  -- 'The rule for widths moves from bytes to characters': a label is as wide as the part's characters
  pub wide : (l : LabelPlace) → label_place_of v ≡ Ok l → l.width ≡ character_width l.size * characters_in (text_at s t (place_in s v))
  -- refused, the part has no character
  pub none : (why : Refusal) → label_place_of v ≡ Err why → characters_in (text_at s t (place_in s v)) ≡ 0

-- `label_part`, where the chart s and the table t are lent: the part itself
pub record IsLabelPart (s t : Bor (List ℕ)) (l : Labelled) (r : Bor (List ℕ)) : Type 0 where
  pub is : IsAt (label_part_of s.now t.now l) s t r
  pub text : LabelText s.now t.now (tabled t.now l)

-- the same part in numbers, for a caller that can't be handed a part: where it begins in the chart or in the table, and how many bytes it has
abbrev pub span_of : Place → LabelSpan
span_of (chart b e) = LabelSpan.InChart b (e - b)
span_of (table b e) = LabelSpan.InTable b (e - b)

abbrev pub span_in : List ℕ → Labelled → Result LabelSpan Refusal
span_in s (ready p) = Ok (span_of (place_in s (ready p)))
span_in s (refusal why) = Err why

-- the refusals of `label_place`, and the part of `label_part`
abbrev pub label_span_of : List ℕ → List ℕ → Labelled → Result LabelSpan Refusal
label_span_of s t l = span_in s (tabled t l)

-- `label_span`
pub record IsLabelSpan (s t : List ℕ) (l : Labelled) (r : Result LabelSpan Refusal) : Type 0 where
  pub whole : r ≡ label_span_of s t l
  pub text : LabelText s t (tabled t l)
