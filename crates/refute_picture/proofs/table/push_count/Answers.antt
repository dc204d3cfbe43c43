use Rattle.refute_picture.specs.Refutes.{count_text}
use Rattle.refute_picture.proofs.table.push_count.Goals as goal

pub returns : goal.returns
unfolding count_text
returns c = c.push_pieces.ensures
