use Rattle.trace_types.proofs.ShortLemmas.{requests_few}
use Rattle.session_laws.proofs.ReadyLemmas.{jobs_few}
use Rattle.session_laws.proofs.laws.jobs_have_few_requests.Goals as goal

pub returns : goal.returns
returns c = record { batch = requests_few; jobs = jobs_few }
