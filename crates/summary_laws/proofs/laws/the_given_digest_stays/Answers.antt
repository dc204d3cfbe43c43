use Rattle.summary_laws.proofs.GivenLemmas.{given_stays}
use Rattle.summary_laws.proofs.laws.the_given_digest_stays.Goals as goal

pub returns : goal.returns
returns c = given_stays
