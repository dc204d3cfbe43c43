use Rattle.picture_parts.specs.Bars.{caption_start}
use Rattle.picture_parts.proofs.bars.begin_caption.Goals as goal

pub returns : goal.returns
unfolding caption_start
returns c = rw (c.from.ensures, c.from-2.ensures) at c.push_pieces.ensures
