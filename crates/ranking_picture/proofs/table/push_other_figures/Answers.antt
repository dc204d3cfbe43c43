use Rattle.ranking_picture.specs.Tables.{other_figures}
use Rattle.ranking_picture.proofs.table.push_other_figures.Goals as goal

pub returns : goal.returns
unfolding other_figures
returns c = rw (c.of-share.ensures, c.per_load-mean.ensures) at c.push_pieces.ensures
