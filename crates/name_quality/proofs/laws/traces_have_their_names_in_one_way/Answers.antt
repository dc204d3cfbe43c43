use Rattle.name_quality.proofs.LawLemmas.{same_named}
use Rattle.name_quality.proofs.laws.traces_have_their_names_in_one_way.Goals as goal

pub returns : goal.returns
returns c = same_named c.a_trace_has_one_verdict.ensures.trace c.a_trace_has_one_verdict.ensures.not_both
