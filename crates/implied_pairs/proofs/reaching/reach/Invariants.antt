use Rattle.implied_pairs.proofs.MatrixLemmas.{MatrixSoFar}
use Rattle.implied_pairs.proofs.reaching.reach.Given as goal

abbrev pub invariant-through : goal.invariant-through
invariant-through l = MatrixSoFar l.count l.pairs l.through l.matrix.items
