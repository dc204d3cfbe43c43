use Rattle.ranking_picture.specs.Strips.{part_share}
use Rattle.ranking_picture.proofs.strip.push_part_share.Goals as goal

pub returns : goal.returns
unfolding part_share
returns c = rw (c.of-share.ensures, c.get.ensures.value) at c.push_pieces.ensures
