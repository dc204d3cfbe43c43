-- What laws say of critical paths: traces have one list of them, and the bits of words tell them.
use Rattle.std.specs.Prelude.{◌≡◌, List}
use Rattle.model_meet.specs.ExclusionTables.{TellsExclusions}
use Rattle.model_meet.specs.ModelStates.{ModelState}
use Rattle.refute_tests.specs.Clearing.{HaveNamesBelow}
use Rattle.refute_tests.specs.Survivors.{AreSurvivors}
use Rattle.trace_rules.specs.CriticalPaths.{AreCriticalPaths, IsCriticalPath}
use Rattle.trace_rules.specs.TraceGraphs.{ExcludesIn}
use Rattle.trace_types.specs.declared.named_segment.NamedSegment.{NamedSegment}
use Rattle.trace_types.specs.declared.named_trace.NamedTrace.{NamedTrace}
use Rattle.trace_types.specs.Parts.{Parts, by_number}
use Rattle.trace_paths.specs.NumberedPaths.{IsPathUnder}

-- where these mutual exclusions survive, traces have one list of critical paths
abbrev pub PathsAreOne : {A S N T E : Type 0} → Parts A S N T E → (N → N → Type 0) → Type 0
PathsAreOne {A} {S} p Excludes = (traces : List A) (paths others : List (List S))
    → AreCriticalPaths p Excludes traces paths → AreCriticalPaths p Excludes traces others
    → paths ≡ others

-- where the words of a model are the survivors of traces, the path under the model of a trace whose
-- names are below the model's is its critical path by what survives in the traces
abbrev pub BitsTellPaths : Type 0
BitsTellPaths = (model : ModelState) (traces : List NamedTrace) (trace : NamedTrace)
    (path : List NamedSegment) → TellsExclusions model → AreSurvivors traces model.words
    → HaveNamesBelow model.names trace → IsPathUnder model trace path
    → IsCriticalPath by_number (ExcludesIn by_number traces) trace path
