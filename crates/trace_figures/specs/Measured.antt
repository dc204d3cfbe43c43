-- The slacks and the gains of a trace's segments, by the bits of the model's words. This is the
-- project's own.
use Rattle.std.specs.Prelude.{◌≡◌, ℕ, ◌<◌, length, slice_index_or}
use Rattle.model_meet.specs.ModelStates.{ModelState}
use Rattle.model_meet.specs.RelationBits.{KeepsExclusion}
use Rattle.path_gains.specs.Gains.{IsGain}
use Rattle.path_gains.specs.declared.gain.Gain.{Gain}
use Rattle.trace_figures.specs.declared.trace_figures.TraceFigures.{TraceFigures}
use Rattle.trace_rules.specs.TraceGraphs.{IsTraceGraph}
use Rattle.trace_types.specs.Parts.{by_number}
use Rattle.trace_types.specs.declared.named_trace.NamedTrace.{NamedTrace}
use Rattle.weighted_dag.specs.Graphs.{Graph, IsGraph, order_of}
use Rattle.weighted_dag.specs.Slacks.{IsSlack}

-- the figures of a trace: the order of its segments in its graph, and for each vertex of that its
-- slack and its gain
pub record IsMeasured (model : ModelState) (trace : NamedTrace) (figures : TraceFigures) : Type 0
  where
    pub graph : Graph
    pub form : IsGraph graph
    pub dependencies : IsTraceGraph by_number (KeepsExclusion model.words) trace figures.order graph
    pub slack_count : length figures.slacks.items ≡ order_of graph
    pub slacks : (v d : ℕ) → v < order_of graph
        → IsSlack graph v (slice_index_or figures.slacks.items v d)
    pub gain_count : length figures.gains.items ≡ order_of graph
    pub gains : (v : ℕ) (d : Gain) → v < order_of graph
        → IsGain graph v (slice_index_or figures.gains.items v d)
