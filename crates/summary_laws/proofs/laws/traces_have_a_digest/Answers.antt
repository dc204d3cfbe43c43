use Rattle.summary_laws.proofs.DigestLemmas.{has_digest}
use Rattle.summary_laws.proofs.laws.traces_have_a_digest.Goals as goal

pub returns : goal.returns
returns c = has_digest
