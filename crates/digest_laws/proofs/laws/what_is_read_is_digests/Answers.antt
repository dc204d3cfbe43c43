use Rattle.digest_laws.proofs.LawLemmas.{read_digests}
use Rattle.digest_laws.proofs.laws.what_is_read_is_digests.Goals as goal

pub returns : goal.returns
returns c = read_digests
