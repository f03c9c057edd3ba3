-- `Sound::put_text` meets its contract: after k turns the text of the first k segments is written. Assumes nothing.
use Prim.Native.Nat.{◌<◌}
use mathlib.Core.List.{◌++◌}
use mathlib.Core.Path.{refl, sym, ap, ◌∙◌}
use native.Mathlib.Omega.{arith}
use lib.ListN.{length, take}
use Rattle.path.specs.Text.{text_of}
use Rattle.path.specs.Segments.{drawn_of}
use Rattle.path.specs.code.Strokes.{next_text}
use Rattle.path.proofs.Sheets.{text-to, fits-to}
use Rattle.path.proofs.Puts.{put-long}
use Rattle.path.proofs.Writers.{then-writes, writes_as}
use Rattle.path.proofs.sheet.Sound.put_text.Goals as goal

pub loop-k-init : goal.loop-k-init
unfolding text_of
loop-k-init c = record { put = record { bytes = refl; after = refl }; lent = refl }

pub put_next-requires : goal.put_next-requires
put_next-requires c =
    let ds = drawn_of c.args.self.now.sheet.now in
    let k = c.loop-k.k in
    let i = c.loop-k.invariant.put in
    omega (arith, c.requires, fits-to ds k (omega (arith, c.args.self.now.whole)), ap (λ d. length (next_text k d)) (c.drawn_of.ensures ∙ c.stroke_at.ensures.same), i.after, put-long i)

pub loop-k-preserved : goal.loop-k-preserved
loop-k-preserved c =
    let ds = drawn_of c.args.self.now.sheet.now in
    let k = c.loop-k.k in
    let h : k < length ds = omega (arith, c.args.self.now.whole) in
    writes_as (ap (λ d. text_of (take k ds) ++ next_text k d) (c.drawn_of.ensures ∙ c.stroke_at.ensures.same) ∙ sym (text-to ds k h)) (then-writes c.loop-k.invariant c.put_next.ensures)
