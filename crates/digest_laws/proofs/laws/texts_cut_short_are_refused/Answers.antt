use Rattle.digest_laws.proofs.GivenLemmas.{cut_refused}
use Rattle.digest_laws.proofs.laws.texts_cut_short_are_refused.Goals as goal

pub returns : goal.returns
returns c = cut_refused
