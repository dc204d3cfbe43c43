use Rattle.tail_picture.specs.Tails.{count_text}
use Rattle.tail_picture.proofs.table.push_count.Goals as goal

pub returns : goal.returns
unfolding count_text
returns c = c.push_pieces.ensures
