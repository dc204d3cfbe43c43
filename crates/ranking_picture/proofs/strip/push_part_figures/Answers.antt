use Rattle.ranking_picture.specs.Strips.{part_figures}
use Rattle.ranking_picture.proofs.strip.push_part_figures.Goals as goal

pub returns : goal.returns
unfolding part_figures
returns c = rw (c.of-share.ensures, c.get-critical.ensures.value) at c.push_pieces.ensures
