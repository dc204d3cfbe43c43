use Rattle.digest_laws.proofs.GivenLemmas.{printed_read}
use Rattle.digest_laws.proofs.laws.a_printed_digest_is_read.Goals as goal

pub returns : goal.returns
returns c = printed_read
