use Rattle.digest_facts.proofs.SplitLemmas.{traces_of_parts}
use Rattle.digest_facts.proofs.laws.traces_are_those_of_parts.Goals as goal

pub returns : goal.returns
returns c = traces_of_parts
