use Rattle.summary_laws.proofs.StandingLemmas.{any_order}
use Rattle.summary_laws.proofs.laws.traces_stand_in_any_order.Goals as goal

pub returns : goal.returns
returns c = any_order
