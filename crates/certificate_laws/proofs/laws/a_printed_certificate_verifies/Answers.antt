use Rattle.certificate_laws.proofs.VerifyingLemmas.{certificate_verified}
use Rattle.certificate_laws.proofs.laws.a_printed_certificate_verifies.Goals as goal

pub returns : goal.returns
returns c = certificate_verified
