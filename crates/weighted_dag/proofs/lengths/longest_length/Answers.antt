use Rattle.std.proofs.Common.{arith}
use Rattle.weighted_dag.proofs.lengths.longest_length.Goals as goal

pub lengths_over-requires-clause-fits : goal.lengths_over-requires-clause-fits
lengths_over-requires-clause-fits c = λ d h. let most = c.total_with.ensures.none_longer d h in omega arith

pub lengths_over-requires-else-total_with-clause-fits : goal.lengths_over-requires-else-total_with-clause-fits
lengths_over-requires-else-total_with-clause-fits c = λ d h. let most = c.total_with.ensures.none_longer d h in let fits = c.total_with.type_inv in omega arith
