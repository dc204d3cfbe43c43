use Rattle.digest_facts.proofs.MergeLemmas.{has_one, is_formed}
use Rattle.digest_facts.proofs.laws.a_digest_is_one.Goals as goal

pub returns-clause-formed : goal.returns-clause-formed
returns-clause-formed g c = is_formed

pub returns-clause-one : goal.returns-clause-one
returns-clause-one g c = has_one
