use Rattle.trace_graph.proofs.LawLemmas.{edges_do_not_overlap}
use Rattle.trace_graph.proofs.laws.dependencies_do_not_overlap.Goals as goal

pub returns : goal.returns
returns g c p traces trace i j = edges_do_not_overlap p traces trace i j
