use Rattle.graph_layers.specs.inner.Chains.{passes}
use Rattle.graph_layers.proofs.ReachLemmas.{RowsSoFar}
use Rattle.graph_layers.proofs.reaching.next_matrix.Given as goal

-- the rows so far were appended
abbrev pub invariant-rows : goal.invariant-rows
invariant-rows l = RowsSoFar l.count l.row (passes l.count l.matrix l.through) l.next.items
