-- The answers on a sheet, by the tests that led to them. Assumes nothing.
use mathlib.Core.Path.{◌≡◌, ap, ◌∙◌}
use mathlib.Core.Bool.{true}
use mathlib.Core.List.{List}
use Prim.Native.Nat.{ℕ, ◌≤◌, ◌<◌}
use native.Mathlib.Omega.{arith}
use borrow.Author.Tests.{lt-ltb}
use lib.ListN.{length, get_or}
use Rattle.grid.specs.declared.SheetRecord.{SheetRecord}
use Rattle.grid.specs.Record.{sound_of}
use Rattle.path.specs.declared.drawn.Drawn.TheVariants.{Move}
use Rattle.path.specs.declared.stroke.Stroke.{Stroke}
use Rattle.path.specs.declared.Segment.{Segment}
use Rattle.std.specs.Prelude.{Ok}
use Rattle.path.specs.Drawn.{segment_of}
use Rattle.path.specs.Text.{text_of}
use Rattle.path.specs.Writer.{put}
use Rattle.path.specs.Segments.{drawn_of}
use Rattle.path.specs.code.Strokes.{doubled_of}
use Rattle.path.specs.Answers.{sheet_answer, given_of, written_of, left_of}
use Rattle.path.proofs.Puts.{does}

module _ (s : SheetRecord) (k : ℕ) where
  module _ (e : sound_of s ≡ true) where
    pub given-there : k < length (drawn_of s) → (t : Stroke) → doubled_of t ≡ get_or (drawn_of s) k (Move 0 0) → (g : Segment) → g ≡ segment_of (doubled_of t) → Ok g ≡ given_of k (sheet_answer s)
    given-there h t i g j = rw (e, lt-ltb k (length (drawn_of s)) h) (ap Ok (j ∙ ap segment_of i))

module _ (s : SheetRecord) (buf : List ℕ) where
  module _ (e : sound_of s ≡ true) (n : ℕ) (i : n ≡ length (text_of (drawn_of s))) where
    pub written-done : (b : List ℕ) → n ≤ length buf → b ≡ put buf 0 (text_of (drawn_of s)) → (Ok n ≡ written_of buf (sheet_answer s)) × (b ≡ left_of buf (sheet_answer s))
    written-done b h q = rw e (does buf 0 (text_of (drawn_of s)) n i b (omega arith) q)
