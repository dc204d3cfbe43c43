use Rattle.digest_merging.proofs.AllLemmas.{one_given}
use Rattle.digest_merging.proofs.laws.a_given_digest_is_one.Goals as goal

pub returns : goal.returns
returns c = one_given
