use Rattle.event_table.proofs.KeptLemmas.{traces_few, traces_not_empty, traces_of_request, traces_rising, traces_timely}
use Rattle.event_table.proofs.laws.traces_keep_facts.Goals as goal

pub returns-clause-not_empty : goal.returns-clause-not_empty
returns-clause-not_empty c = traces_not_empty

pub returns-clause-of_request : goal.returns-clause-of_request
returns-clause-of_request c = traces_of_request

pub returns-clause-rising : goal.returns-clause-rising
returns-clause-rising c = traces_rising

pub returns-clause-timely : goal.returns-clause-timely
returns-clause-timely c = traces_timely

pub returns-clause-few : goal.returns-clause-few
returns-clause-few c = traces_few
