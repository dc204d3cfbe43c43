use Rattle.tail_picture.specs.Tails.{head_text}
use Rattle.tail_picture.proofs.table.push_tail_head.Goals as goal

pub returns : goal.returns
unfolding head_text
returns c = rw (c.get-slow.ensures.value, c.get-floor.ensures.value, c.others_of-others.ensures) at c.push_pieces.ensures
