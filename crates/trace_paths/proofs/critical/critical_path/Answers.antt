use Rattle.trace_paths.proofs.UnderLemmas.{path_under}
use Rattle.trace_paths.proofs.critical.critical_path.Goals as goal

pub returns : goal.returns
returns c =
    path_under c.args.model.now c.args.trace.now c.in_ok-graph.graph.order c.in_ok-graph.graph.dag c.requires c.in_ok-graph.ensures.graph c.path_in.result c.path_in.ensures.path c.path_in.ensures.named
