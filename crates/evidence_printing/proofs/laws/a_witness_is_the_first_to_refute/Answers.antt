use Rattle.evidence_printing.proofs.WitnessLemmas.{exclusions_witnessed, orders_witnessed, pipes_witnessed}
use Rattle.evidence_printing.proofs.laws.a_witness_is_the_first_to_refute.Goals as goal

pub returns-clause-orders : goal.returns-clause-orders
returns-clause-orders c = orders_witnessed

pub returns-clause-exclusions : goal.returns-clause-exclusions
returns-clause-exclusions c = exclusions_witnessed

pub returns-clause-pipes : goal.returns-clause-pipes
returns-clause-pipes c = pipes_witnessed
