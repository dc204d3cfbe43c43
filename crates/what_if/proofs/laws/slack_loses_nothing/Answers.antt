use Rattle.what_if.proofs.LosingLemmas.{slack_loses_nothing}
use Rattle.what_if.proofs.laws.slack_loses_nothing.Goals as goal

pub returns : goal.returns
returns c = slack_loses_nothing
