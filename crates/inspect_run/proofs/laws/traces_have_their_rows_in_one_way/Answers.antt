use Rattle.inspect_run.proofs.LawLemmas.{same_rows}
use Rattle.inspect_run.proofs.laws.traces_have_their_rows_in_one_way.Goals as goal

pub returns : goal.returns
returns c = same_rows c.a_trace_has_its_facts_in_one_way.ensures c.traces_tell_their_clocks_in_one_way.ensures
