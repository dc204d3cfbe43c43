use Rattle.digest_facts.proofs.DigestLemmas.{excluded}
use Rattle.digest_facts.proofs.laws.exclusions_are_those_of_all.Goals as goal

pub returns : goal.returns
returns g c = λ p day by_name by_task. excluded p day by_name by_task
