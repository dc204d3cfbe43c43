use Rattle.digest_laws.proofs.LawLemmas.{digests_read}
use Rattle.digest_laws.proofs.laws.digests_are_read.Goals as goal

pub returns : goal.returns
returns c = digests_read
