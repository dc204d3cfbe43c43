use Rattle.graph_picture.proofs.LineLemmas.{shares_within}
use Rattle.graph_picture.proofs.laws.shares.Goals as goal

pub returns : goal.returns
returns c = shares_within c.places.ensures.on_scale
