use Rattle.implied_pairs.proofs.MatrixLemmas.{RowSoFar}
use Rattle.implied_pairs.proofs.reaching.add_row.Given as goal

abbrev pub invariant-columns : goal.invariant-columns
invariant-columns l = RowSoFar l.count l.fn.matrix l.to l.from l.column l.matrix
