-- `Writer::pair` meets its contract: two words, one after the other. Assumes nothing.
use Rattle.path.proofs.Words.{pair-split}
use Rattle.path.proofs.Writers.{then-writes, writes_as, room_left}
use Rattle.path.proofs.writer.Writer.pair.Goals as goal

pub word-requires-2 : goal.word-requires-2
word-requires-2 c = room_left _ _ (pair-split c.args.x c.args.y) c.requires c.word.ensures

pub returns : goal.returns
returns c = writes_as (pair-split c.args.x c.args.y) (then-writes c.word.ensures c.word-2.ensures)
