use Rattle.digest_facts.proofs.CoherenceLemmas.{coherent, merged_coherent}
use Rattle.digest_facts.proofs.laws.digests_are_coherent.Goals as goal

pub returns-clause-digest : goal.returns-clause-digest
returns-clause-digest g c = coherent

pub returns-clause-merged : goal.returns-clause-merged
returns-clause-merged g c = merged_coherent
