use Rattle.evidence_laws.proofs.FirstLemmas.{first_both_is_first, first_early_is_first}
use Rattle.evidence_laws.proofs.laws.the_first_trace_refutes.Goals as goal

pub returns-clause-orders : goal.returns-clause-orders
returns-clause-orders g c = λ p same. first_early_is_first p same

pub returns-clause-exclusions : goal.returns-clause-exclusions
returns-clause-exclusions g c = λ p same. first_both_is_first p same
