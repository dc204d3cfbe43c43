use Rattle.trace_quality.proofs.LawLemmas.{facts_once}
use Rattle.trace_quality.proofs.laws.a_trace_has_its_facts_in_one_way.Goals as goal

pub returns : goal.returns
returns c = facts_once c.a_trace_has_one_verdict.ensures.trace c.a_trace_has_one_verdict.ensures.fault c.a_trace_has_one_verdict.ensures.not_both c.a_trace_has_its_clocks_in_one_way.ensures
