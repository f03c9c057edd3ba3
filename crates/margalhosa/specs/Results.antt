-- What the functions for C answer, by what the operations of documents 01 and 02 do: its two numbers of the refusal, 0 0 where nothing is refused, and the value.
-- Assumes nothing.
use Rattle.std.specs.Prelude.{ℕ, ◌+◌, ◌≤◌, ◌≡◌, cond, List, [], ◌++◌, eqb, length, take, drop, Result, Ok, Err}
use Rattle.std.specs.Float.{binary32}
use Rattle.std.specs.Float.Ieee.{of_bits}
use Rattle.chart.specs.declared.Setting.{Setting}
use Rattle.chart.specs.declared.Setting.TheVariants.{Default, Strict}
use Rattle.refusals.specs.declared.Numbers.{Numbers}
use Rattle.refusals.specs.declared.Refusal.{Refusal}
use Rattle.refusals.specs.declared.TextRefusal.{TextRefusal}
use Rattle.refusals.specs.Refusals.{numbers, numbers_of, text_numbers_of}
use Rattle.signal.specs.declared.NoOrder.{NoOrder}
use Rattle.signal.specs.declared.NoOrder.TheVariants.{Refused, Cycle}
use Rattle.signal.specs.Signal.{signal}
use Rattle.signal.specs.Outcome.{Nodes, nodes_held, answer_of as order_of}
use Rattle.signal.specs.Laws.{IsSignalOrder}
use Rattle.grid.specs.declared.BoxRecord.{BoxRecord}
use Rattle.grid.specs.declared.LabelPlace.{LabelPlace}
use Rattle.grid.specs.Record.{no_box, no_sheet}
use Rattle.grid.specs.Sheeted.{sheeted, answer_of}
use Rattle.grid.specs.LaidOut.{LaidOut, IsSheet}
use Rattle.grid.specs.Labelled.{Labelled}
use Rattle.grid.specs.declared.SheetRecord.{SheetRecord}
use Rattle.path.specs.declared.Pen.{Pen}
use Rattle.path.specs.declared.Segment.{Segment}
use Rattle.path.specs.declared.Segment.TheVariants.{Move, Line, Cubic, Close}
use Rattle.path.specs.declared.LabelSpan.{LabelSpan}
use Rattle.path.specs.Text.{text_of}
use Rattle.path.specs.Segments.{drawn_of}
use Rattle.path.specs.Answers.{sheet_answer, given_of, written_of, left_of}
use Rattle.path.specs.Reader.{Answer, read}
use Rattle.path.specs.Promises.{SheetText, IsSegment}
use Rattle.path.specs.Label.{tabled, LabelText, label_span_of}
use Rattle.margalhosa.specs.declared.OrderResult.{OrderResult}
use Rattle.margalhosa.specs.declared.SheetResult.{SheetResult}
use Rattle.margalhosa.specs.declared.BoxResult.{BoxResult}
use Rattle.margalhosa.specs.declared.SegmentResult.{SegmentResult}
use Rattle.margalhosa.specs.declared.CountResult.{CountResult}
use Rattle.margalhosa.specs.declared.LabelResult.{LabelResult}
use Rattle.margalhosa.specs.declared.PartResult.{PartResult}

-- the setting of a number: 0 is the default and 1 strict; a number that names no setting is strict too
abbrev pub setting_of : ℕ → Setting
setting_of n = cond (eqb n 0) Default Strict

-- ---- a sheet and its boxes
abbrev pub sheet_by : Numbers → SheetRecord → SheetResult
sheet_by n sheet = record { refused = n.first; second = n.second; sheet = sheet }

-- refused, every field of the sheet is 0
abbrev pub sheet_result : Result SheetRecord Refusal → SheetResult
sheet_result (Ok sheet) = sheet_by (numbers 0 0) sheet
sheet_result (Err why) = sheet_by (numbers_of why) no_sheet

-- what `margalhosa_sheet` promises, in each setting w, for every byte string s and every origin x y
pub record IsSheetResult (w : Setting) (s : List ℕ) (x y : ℕ) (r : SheetResult) : Type 0 where
  -- every field of the answer is the definition's, of which `grid` promises more: drawn at origin 0 0, the walks
  pub whole : r ≡ sheet_result (answer_of x y (sheeted w s x y))
  pub promised : IsSheet w s x y (answer_of x y (sheeted w s x y))
  -- 0 is no refusal's number: the sheet is drawn (of the other results: proofs/Zeros.antt)
  pub drawn : r.refused ≡ 0 → answer_of x y (sheeted w s x y) ≡ Ok r.sheet
  -- what is claimed of a sheet that is drawn; its text has at most 9,467 bytes
  pub laid : r.refused ≡ 0 → LaidOut w s x y r.sheet
  pub text_most : r.refused ≡ 0 → length (text_of (drawn_of r.sheet)) ≤ 9467

abbrev pub box_by : Numbers → BoxRecord → BoxResult
box_by n place = record { refused = n.first; second = n.second; place = place }

abbrev pub box_result : Result BoxRecord Refusal → BoxResult
box_result (Ok place) = box_by (numbers 0 0) place
box_result (Err why) = box_by (numbers_of why) no_box

-- ---- a segment
-- a position that a segment doesn't have: 0.0 0.0
abbrev pub no_pen : Pen
no_pen = record { x = of_bits binary32 0; y = of_bits binary32 0 }

abbrev pub segment_by : Numbers → ℕ → Pen → Pen → Pen → SegmentResult
segment_by n kind a b p = record { refused = n.first; kind = kind; second = n.second; control0 = a; control1 = b; to = p }

-- 'A segment is a move, a line, a cubic or a close': kinds 0 to 3
abbrev pub segment_in : Numbers → Segment → SegmentResult
segment_in n (Move p) = segment_by n 0 no_pen no_pen p
segment_in n (Line p) = segment_by n 1 no_pen no_pen p
segment_in n (Cubic a b p) = segment_by n 2 a b p
segment_in n Close = segment_by n 3 no_pen no_pen no_pen

abbrev pub segment_result : Result Segment TextRefusal → SegmentResult
segment_result (Ok g) = segment_in (numbers 0 0) g
segment_result (Err r) = segment_by (text_numbers_of r) 0 no_pen no_pen no_pen

-- what `margalhosa_segment` and `margalhosa_text_segment` promise of segment k of what a sheet or a path text gives: it is the one that `path` hands out
pub record IsSegmentResult (k : ℕ) (a : Answer) (r : SegmentResult) : Type 0 where
  pub whole : r ≡ segment_result (given_of k a)
  pub promised : IsSegment k a (given_of k a)

-- ---- counts: of the bytes written, of the segments of a text
abbrev pub count_by : Numbers → ℕ → CountResult
count_by n count = record { refused = n.first; second = n.second; count = count }

abbrev pub count_result : Result ℕ TextRefusal → CountResult
count_result (Ok n) = count_by (numbers 0 0) n
count_result (Err r) = count_by (text_numbers_of r) 0

-- what `margalhosa_text` promises: the buffer is `buf` before and `out` after
pub record IsTextResult (s : SheetRecord) (buf : List ℕ) (r : CountResult) (out : List ℕ) : Type 0 where
  pub whole : r ≡ count_result (written_of buf (sheet_answer s))
  pub bytes : out ≡ left_of buf (sheet_answer s)
  pub text : r.refused ≡ 0 → SheetText s (take r.count out)

-- `margalhosa_rewrite`: the text s, byte for byte
pub record IsRewriteResult (s buf : List ℕ) (r : CountResult) (out : List ℕ) : Type 0 where
  pub whole : r ≡ count_result (written_of buf (read s))
  pub bytes : out ≡ left_of buf (read s)
  pub same : r.refused ≡ 0 → (r.count ≡ length s) × (out ≡ s ++ drop r.count buf)

-- ---- labels
abbrev pub label_by : Numbers → ℕ → ℕ → ℕ → ℕ → LabelResult
label_by n x y size width = record { refused = n.first; second = n.second; x = x; y = y; size = size; width = width }

-- refused, 'all numbers are 0'
abbrev pub label_result : Result LabelPlace Refusal → LabelResult
label_result (Ok l) = label_by (numbers 0 0) l.x l.y l.size l.width
label_result (Err why) = label_by (numbers_of why) 0 0 0 0

abbrev pub part_by : Numbers → LabelSpan → PartResult
part_by n (LabelSpan.InChart at len) = record { refused = n.first; second = n.second; fixed = 0; at = at; len = len }
part_by n (LabelSpan.InTable at len) = record { refused = n.first; second = n.second; fixed = 1; at = at; len = len }

-- refused, the part is 'the empty one at the chart's start'
abbrev pub part_result : Result LabelSpan Refusal → PartResult
part_result (Ok l) = part_by (numbers 0 0) l
part_result (Err why) = part_by (numbers_of why) (LabelSpan.InChart 0 0)

-- what `margalhosa_label_part` promises: the part, and that it lies within the chart s or the table t
pub record IsPartResult (s t : List ℕ) (l : Labelled) (r : PartResult) : Type 0 where
  pub whole : r ≡ part_result (label_span_of s t l)
  pub in_chart : r.fixed ≡ 0 → r.at + r.len ≤ length s
  pub in_table : r.fixed ≡ 1 → r.at + r.len ≤ length t
  -- text bytes and whole degree signs, as many characters as the label is wide
  pub text : LabelText s t (tabled t l)

-- ---- the signal order
abbrev pub order_by : Numbers → Nodes → OrderResult
order_by n t = record { refused = n.first; second = n.second; count = t.count; nodes = t.items }

-- the nodes of an order; of a cycle (20); else none
abbrev pub order_result : Result Nodes NoOrder → OrderResult
order_result (Ok t) = order_by (numbers 0 0) t
order_result (Err (Cycle t)) = order_by (numbers 20 0) t
order_result (Err (Refused why)) = order_by (numbers_of why) (nodes_held [])

-- what `margalhosa_signal_order` promises, for every byte string s, read in the strict setting
pub record IsOrderResult (s : List ℕ) (r : OrderResult) : Type 0 where
  pub whole : r ≡ order_result (order_of (signal s))
  -- an order, or a cycle (20) exactly if there is one
  pub promised : IsSignalOrder s (order_of (signal s))
