use Rattle.certificate_rows.proofs.ClaimDecisionLemmas.{verdicts_of}
use Rattle.certificate_rows.proofs.laws.claims_have_verdicts.Goals as goal

pub returns : goal.returns
returns c = verdicts_of
