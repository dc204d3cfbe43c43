use Rattle.trace_rules.specs.TraceGraphs.{ExcludesIn}
use Rattle.trace_graph.proofs.UniqueLemmas.{one_graph}
use Rattle.trace_graph.proofs.laws.a_trace_has_one_graph.Goals as goal

pub returns : goal.returns
returns g c = λ p traces trace order other one two f h a b. one_graph p c.a_list_is_told_in_one_way.ensures.listed (ExcludesIn p traces) trace order other one two f h a b
