use Rattle.summary_laws.proofs.StandingLemmas.{own_traces}
use Rattle.summary_laws.proofs.laws.own_traces_change_nothing.Goals as goal

pub returns : goal.returns
returns c = own_traces
