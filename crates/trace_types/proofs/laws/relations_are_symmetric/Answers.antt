use Rattle.trace_types.proofs.OrderLemmas.{exclusive_turned, apart_turned, unshared_turned}
use Rattle.trace_types.proofs.laws.relations_are_symmetric.Goals as goal

pub returns-clause-exclusive : goal.returns-clause-exclusive
returns-clause-exclusive g c = λ p a b trace. (exclusive_turned p a b trace, exclusive_turned p b a trace)

pub returns-clause-apart : goal.returns-clause-apart
returns-clause-apart g c = λ p a b trace. (apart_turned p a b trace, apart_turned p b a trace)

pub returns-clause-unshared : goal.returns-clause-unshared
returns-clause-unshared g c = λ p t u trace. (unshared_turned p t u trace, unshared_turned p u t trace)
