-- The graph of a trace by the bits of words, and by the traces of which the words tell.
use Rattle.std.specs.Prelude.{ℕ, List}
use Rattle.model_meet.specs.ExclusionTables.{TellsExclusions}
use Rattle.model_meet.specs.ModelStates.{ModelState}
use Rattle.model_meet.specs.RelationBits.{KeepsExclusion}
use Rattle.refute_tests.specs.Clearing.{HaveNamesBelow}
use Rattle.refute_tests.specs.Survivors.{AreSurvivors}
use Rattle.trace_rules.specs.TraceGraphs.{ExcludesIn, IsTraceGraph}
use Rattle.trace_types.specs.declared.named_trace.NamedTrace.{NamedTrace}
use Rattle.trace_types.specs.Parts.{by_number}
use Rattle.weighted_dag.specs.Graphs.{Graph}

-- where the words of a model are the survivors of traces, a graph by their bits of a trace whose
-- names are below the model's is its graph by what survives in the traces
abbrev pub BitsTellGraphs : Type 0
BitsTellGraphs = (model : ModelState) (traces : List NamedTrace) (trace : NamedTrace)
    (order : List ℕ) (g : Graph) → TellsExclusions model → AreSurvivors traces model.words
    → HaveNamesBelow model.names trace
    → IsTraceGraph by_number (KeepsExclusion model.words) trace order g
    → IsTraceGraph by_number (ExcludesIn by_number traces) trace order g
