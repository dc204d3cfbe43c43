use Rattle.digest_facts.proofs.MergeLemmas.{merged_is, nothing_is}
use Rattle.digest_facts.proofs.laws.a_merge_is_of_both.Goals as goal

pub returns-clause-none : goal.returns-clause-none
returns-clause-none g c = nothing_is

pub returns-clause-both : goal.returns-clause-both
returns-clause-both g c = merged_is
