use Rattle.grace_quality.proofs.GraceLemmas.{exclusions_survive, orders_survive}
use Rattle.grace_quality.proofs.laws.relations_survive_under_a_grace.Goals as goal

pub returns-clause-orders : goal.returns-clause-orders
returns-clause-orders g c p same = orders_survive p same

pub returns-clause-exclusions : goal.returns-clause-exclusions
returns-clause-exclusions g c p same = exclusions_survive p same
