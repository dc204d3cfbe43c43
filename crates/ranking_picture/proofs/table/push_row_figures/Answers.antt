use Rattle.ranking_picture.specs.Tables.{row_figures}
use Rattle.ranking_picture.proofs.table.push_row_figures.Goals as goal

pub returns : goal.returns
unfolding row_figures
returns c = rw (c.of-share.ensures, c.per_load-time.ensures, c.per_load-gain.ensures, c.get-critical.ensures.value, c.get.ensures.value, c.get-paths.ensures.value) at c.push_pieces.ensures
