use Rattle.digest_graphs.proofs.GraphLemmas.{graphs}
use Rattle.digest_graphs.proofs.laws.graphs_are_those_of_all.Goals as goal

pub returns : goal.returns
returns g c = λ p. graphs p (c.exclusions_are_those_of_all.ensures p)
