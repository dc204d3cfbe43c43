use Rattle.session_laws.proofs.ReadyLemmas.{jobs_ready}
use Rattle.session_laws.proofs.laws.jobs_are_ready.Goals as goal

pub returns : goal.returns
returns c = jobs_ready
