use Rattle.implied_pairs.proofs.MatrixLemmas.{PassedSoFar}
use Rattle.implied_pairs.proofs.reaching.pass_on.Given as goal

abbrev pub invariant-rows : goal.invariant-rows
invariant-rows l = PassedSoFar l.count l.fn.matrix l.through l.row l.matrix
