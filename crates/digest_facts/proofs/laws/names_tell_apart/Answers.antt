use Rattle.digest_facts.proofs.MergeLemmas.{name_apart}
use Rattle.digest_facts.proofs.laws.names_tell_apart.Goals as goal

pub returns : goal.returns
returns c = name_apart
