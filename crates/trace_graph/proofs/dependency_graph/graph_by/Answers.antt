use Rattle.std.proofs.Common.{ℕ, List, IfOk, subst}
use Rattle.model_meet.specs.RelationBits.{KeepsExclusion}
use Rattle.trace_rules.specs.TraceGraphs.{IsTraceGraph}
use Rattle.trace_types.specs.Parts.{by_number}
use Rattle.trace_graph.proofs.dependency_graph.graph_by.Goals as goal

pub returns-clause-graph : goal.returns-clause-graph
returns-clause-graph c =
    subst (λ (words : List ℕ). IfOk c.make_graph.result (λ g. IsTraceGraph by_number (KeepsExclusion words) c.args.trace.now g.order g.dag)) c.rows.ensures.words c.make_graph.ensures.graph
