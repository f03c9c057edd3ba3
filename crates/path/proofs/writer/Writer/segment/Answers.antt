-- `Writer::segment` meets its contract: a cubic's parts, one after the other. Assumes nothing.
use mathlib.Core.Path.{◌≡◌, sym, ap, ◌∙◌}
use mathlib.Core.List.{◌∷◌, ◌++◌}
use Rattle.path.specs.Text.{pair_text, segment_text}
use Rattle.path.proofs.Words.{cubic-split}
use Rattle.path.proofs.Writers.{then-writes, writes_as, room_left, room_between}
use Rattle.path.proofs.writer.Writer.segment.Goals as goal
use Rattle.path.proofs.writer.Writer.segment.Goals.{In-Cubic}

split : (z : In-Cubic) → (67 ∷ pair_text z.in-Cubic.a z.in-Cubic.b) ++ pair_text z.in-Cubic.c z.in-Cubic.d ++ pair_text z.in-Cubic.x z.in-Cubic.y ≡ segment_text z.args.d
split z = let i = z.in-Cubic in cubic-split i.a i.b i.c i.d i.x i.y ∙ ap segment_text (sym i.is)

pub pair-requires : goal.pair-requires
pair-requires c =
    let i = c.in-Cubic in
    room_between _ (pair_text i.c i.d) (pair_text i.x i.y) (split (goal.at.pair-requires c).In-Cubic) c.requires c.to-in-Cubic.ensures

pub pair-requires-in-Cubic : goal.pair-requires-in-Cubic
pair-requires-in-Cubic c = room_left _ _ (split (goal.at.pair-requires-in-Cubic c).In-Cubic) c.requires (then-writes c.to-in-Cubic.ensures c.pair.ensures)

pub returns-in-Cubic : goal.returns-in-Cubic
returns-in-Cubic c = writes_as (split (goal.at.returns-in-Cubic c).In-Cubic) (then-writes (then-writes c.to-in-Cubic.ensures c.pair.ensures) c.pair-in-Cubic.ensures)
