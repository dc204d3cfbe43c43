use Rattle.digest_laws.proofs.GivenLemmas.{merge_of_all}
use Rattle.digest_laws.proofs.laws.a_merge_of_all_can_be_read.Goals as goal

pub returns : goal.returns
returns c = merge_of_all
