use Rattle.refute_picture.specs.Totals.{totals_text}
use Rattle.refute_picture.proofs.totals.push_totals.Goals as goal

pub returns : goal.returns
unfolding totals_text
returns c = c.push_pieces.ensures
