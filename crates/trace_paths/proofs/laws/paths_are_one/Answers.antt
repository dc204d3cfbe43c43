use Rattle.trace_rules.specs.TraceGraphs.{ExcludesIn}
use Rattle.trace_paths.proofs.OnePathLemmas.{paths_one}
use Rattle.trace_paths.proofs.laws.paths_are_one.Goals as goal

pub returns : goal.returns
returns g c = λ p kept traces paths others all more. paths_one p (ExcludesIn p kept) (c.a_trace_has_one_graph.ensures p kept) traces paths others all more
