use Rattle.digest_laws.proofs.TracesLemmas.{traces_readable}
use Rattle.digest_laws.proofs.laws.a_digest_of_traces_can_be_read.Goals as goal

pub returns : goal.returns
returns g c = λ p. traces_readable p
