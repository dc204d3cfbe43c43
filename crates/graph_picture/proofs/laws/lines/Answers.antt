use Rattle.graph_picture.proofs.LineLemmas.{at_edges, within}
use Rattle.graph_picture.proofs.laws.lines.Goals as goal

pub returns-clause-edges : goal.returns-clause-edges
returns-clause-edges c = at_edges

pub returns-clause-within : goal.returns-clause-within
returns-clause-within c = within
