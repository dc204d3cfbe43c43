use Rattle.certificate_laws.proofs.ReadingLemmas.{certificate_read}
use Rattle.certificate_laws.proofs.laws.a_certificate_is_read.Goals as goal

pub returns : goal.returns
returns c = certificate_read
