use Rattle.certificate_rows.proofs.ListedLemmas.{refutations_of}
use Rattle.certificate_rows.proofs.laws.refutations_are_listed.Goals as goal

pub returns : goal.returns
returns c = refutations_of
