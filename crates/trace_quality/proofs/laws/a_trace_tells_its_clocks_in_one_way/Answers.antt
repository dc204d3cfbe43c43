use Rattle.trace_quality.proofs.LawLemmas.{clocks_once}
use Rattle.trace_quality.proofs.laws.a_trace_tells_its_clocks_in_one_way.Goals as goal

pub returns : goal.returns
returns c = clocks_once c.a_trace_has_its_clocks_in_one_way.ensures
