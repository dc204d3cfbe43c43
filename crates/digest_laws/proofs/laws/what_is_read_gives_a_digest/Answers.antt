use Rattle.digest_laws.proofs.GivenLemmas.{gives_one}
use Rattle.digest_laws.proofs.laws.what_is_read_gives_a_digest.Goals as goal

pub returns : goal.returns
returns c = gives_one
