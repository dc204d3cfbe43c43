use Rattle.matrix_picture.proofs.MarkLemmas.{within}
use Rattle.matrix_picture.proofs.laws.marks.Goals as goal

pub returns : goal.returns
returns c = within c.places.ensures.on_scale
