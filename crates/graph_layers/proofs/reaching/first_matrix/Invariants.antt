use Rattle.graph_layers.specs.inner.Chains.{starts}
use Rattle.graph_layers.proofs.ReachLemmas.{RowsSoFar}
use Rattle.graph_layers.proofs.reaching.first_matrix.Given as goal

-- the rows so far were appended
abbrev pub invariant-rows : goal.invariant-rows
invariant-rows l = RowsSoFar l.count l.row (starts l.pairs) l.matrix.items
