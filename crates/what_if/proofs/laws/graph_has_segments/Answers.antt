use Rattle.what_if.proofs.ChangeLemmas.{graph_has_segments}
use Rattle.what_if.proofs.laws.graph_has_segments.Goals as goal

pub returns : goal.returns
returns c = graph_has_segments
