use Rattle.graph_layers.proofs.ReachLemmas.{MatrixSoFar}
use Rattle.graph_layers.proofs.reaching.reach.Given as goal

-- chains through the first so many boxes are in the matrix
abbrev pub invariant-through : goal.invariant-through
invariant-through l = MatrixSoFar l.count l.pairs l.through l.matrix.items
