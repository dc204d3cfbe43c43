-- The path of a graph is the critical path of the trace that the graph is of.
use Rattle.std.proofs.Common.{ℕ, List, Result, Ok, Err, IfOk}
use Rattle.model_meet.specs.ModelStates.{ModelState}
use Rattle.model_meet.specs.RelationBits.{KeepsExclusion}
use Rattle.refute_tests.specs.Clearing.{HaveNamesBelow}
use Rattle.trace_graph.specs.BitGraphs.{BitsTellGraphs}
use Rattle.trace_rules.specs.TraceGraphs.{IsTraceGraph}
use Rattle.trace_rules.specs.CriticalPaths.{IsCriticalPath}
use Rattle.trace_paths.specs.NumberedPaths.{IsNamedPath, IsPathUnder}
use Rattle.trace_paths.specs.PathLaws.{BitsTellPaths}
use Rattle.trace_paths.specs.inner.GraphPaths.{IsPathIn}
use Rattle.trace_types.specs.Parts.{by_number}
use Rattle.trace_types.specs.declared.named_segment.NamedSegment.{NamedSegment}
use Rattle.trace_types.specs.declared.named_trace.NamedTrace.{NamedTrace}
use Rattle.weighted_dag.specs.Graphs.{Graph}

path_by : (Excludes : ℕ → ℕ → Type 0) (trace : NamedTrace) (order : List ℕ) (g : Graph) (path : List NamedSegment) → IsTraceGraph by_number Excludes trace order g → IsPathIn trace.segments order g path → IsCriticalPath by_number Excludes trace path
path_by Excludes trace order g path a is = record {
  order = order;
  graph = g;
  chain = is.chain;
  form = a.has.form;
  dependencies = a;
  longest = is.longest;
  first = is.first;
  segments = is.stands;
}

pub path_under : {E : Type 0} (model : ModelState) (trace : NamedTrace) (order : List ℕ) (g : Graph) → HaveNamesBelow model.names trace → IsTraceGraph by_number (KeepsExclusion model.words) trace order g
    → (r : Result (List NamedSegment) E) → IfOk r (IsPathIn trace.segments order g) → IfOk r (λ path. (names : ℕ) → HaveNamesBelow names trace → IsNamedPath names path) → IfOk r (IsPathUnder model trace)
path_under model trace order g below graph (Ok path) is named = record {
  named = named model.names below;
  critical = path_by (KeepsExclusion model.words) trace order g path graph is;
}
path_under model trace order g below graph (Err e) is named = tt

-- the path under a model whose words are the survivors of traces
pub bits_told : BitsTellGraphs → BitsTellPaths
bits_told graphs model traces trace path tells left below is = record {
  order = is.critical.order;
  graph = is.critical.graph;
  chain = is.critical.chain;
  form = is.critical.form;
  dependencies = graphs model traces trace is.critical.order is.critical.graph tells left below is.critical.dependencies;
  longest = is.critical.longest;
  first = is.critical.first;
  segments = is.critical.segments;
}
