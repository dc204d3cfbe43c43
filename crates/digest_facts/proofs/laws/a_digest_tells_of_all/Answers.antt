use Rattle.digest_facts.proofs.DigestLemmas.{tells}
use Rattle.digest_facts.proofs.laws.a_digest_tells_of_all.Goals as goal

pub returns : goal.returns
returns g c = tells
