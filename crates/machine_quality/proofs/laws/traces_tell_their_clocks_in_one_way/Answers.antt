use Rattle.machine_quality.proofs.LawLemmas.{all_told_once}
use Rattle.machine_quality.proofs.laws.traces_tell_their_clocks_in_one_way.Goals as goal

pub returns : goal.returns
returns c = all_told_once c.a_trace_has_its_facts_in_one_way.ensures c.a_trace_tells_its_clocks_in_one_way.ensures
