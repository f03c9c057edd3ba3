-- `Sound::stroke_at` meets its contract: by `stroke_is`. Assumes nothing.
use Prim.Native.Nat.{◌-◌, ◌*◌, ◌/◌, ◌<◌}
use native.Mathlib.Omega.{arith}
use borrow.Author.Tests.{lt-ltb, le-ltb}
use Rattle.path.specs.code.Strokes.{size_of}
use Rattle.path.proofs.Sheets.{Sound, sound-is, drawn-long, box-near, curve-near, stroke_is}
use Rattle.path.proofs.sheet.Sound.stroke_at.Goals as goal
use Rattle.path.proofs.sheet.Sound.stroke_at.Goals.{Start}

sound : (z : Start) → Sound z.args.self.now.sheet.now
sound z = sound-is z.args.self.now.sheet.now z.args.self.now.sound.0

below : (z : Start) → z.args.k < size_of z.args.self.now.sheet.now
below z = omega (arith, z.requires, z.args.self.now.whole, drawn-long z.args.self.now.sheet.now z.args.self.now.sound.1 z.args.self.now.sound.2 (sound z))

pub bounds-s-k : goal.bounds-s-k
bounds-s-k c = omega (arith, (sound (goal.at.bounds-s-k c).Start).few)

pub box_stroke-requires : goal.box_stroke-requires
box_stroke-requires c = box-near c.args.self.now.sheet.now c.args.self.now.sound.1 c.args.self.now.sound.2 (sound (goal.at.box_stroke-requires c).Start) (c.args.k / 5) (omega (arith, c.if-k-n.true))

pub returns-then-k-n : goal.returns-then-k-n
returns-then-k-n c = stroke_is c.args.self.now.sheet.now c.args.self.now.sound.1 c.args.self.now.sound.2 (sound (goal.at.returns-then-k-n c).Start) c.args.k (below (goal.at.returns-then-k-n c).Start) c.box_stroke.result (rw (lt-ltb _ _ c.if-k-n.true) c.box_stroke.ensures)

pub offset_bounds-s-j : goal.offset_bounds-s-j
offset_bounds-s-j c = omega (arith, below (goal.at.offset_bounds-s-j c).Start, (sound (goal.at.offset_bounds-s-j c).Start).thin)

pub bounds-s-j : goal.bounds-s-j
bounds-s-j c = omega (arith, below (goal.at.bounds-s-j c).Start, (sound (goal.at.bounds-s-j c).Start).thin)

pub curve_stroke-requires : goal.curve_stroke-requires
curve_stroke-requires c = curve-near c.args.self.now.sheet.now c.args.self.now.sound.1 c.args.self.now.sound.2 (sound (goal.at.curve_stroke-requires c).Start) ((c.args.k - 5 * c.args.self.now.sheet.now.count) / 2) (omega (arith, below (goal.at.curve_stroke-requires c).Start, c.if-k-n.false))

pub returns : goal.returns
returns c = stroke_is c.args.self.now.sheet.now c.args.self.now.sound.1 c.args.self.now.sound.2 (sound (goal.at.returns c).Start) c.args.k (below (goal.at.returns c).Start) c.curve_stroke.result (rw (le-ltb _ _ c.if-k-n.false) c.curve_stroke.ensures)
