use Rattle.evidence_laws.proofs.ModelLemmas.{exclusions_told, orders_told, pipes_told}
use Rattle.evidence_laws.proofs.laws.relations_are_those_of_the_model.Goals as goal

pub returns-clause-orders : goal.returns-clause-orders
returns-clause-orders g c = λ p same. orders_told p same

pub returns-clause-exclusions : goal.returns-clause-exclusions
returns-clause-exclusions g c = λ p same. exclusions_told p same

pub returns-clause-pipes : goal.returns-clause-pipes
returns-clause-pipes g c = λ p. pipes_told p
