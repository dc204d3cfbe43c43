-- The critical path of a trace whose names are numbers, by the words of the model.
use Rattle.std.specs.Prelude.{ℕ, ◌<◌, ◌≤◌, List, length, All}
use Rattle.model_meet.specs.ModelStates.{ModelState}
use Rattle.model_meet.specs.RelationBits.{KeepsExclusion}
use Rattle.trace_rules.specs.CriticalPaths.{IsCriticalPath}
use Rattle.trace_types.specs.declared.named_segment.NamedSegment.{NamedSegment}
use Rattle.trace_types.specs.declared.named_trace.NamedTrace.{NamedTrace}
use Rattle.trace_types.specs.NamedSegments.{number_of_name}
use Rattle.trace_types.specs.Parts.{by_number}
use Rattle.trace_types.specs.SegmentLists.{NamesDiffer}

-- the names of a path differ and are below a number, and it has at most 512 segments
pub record IsNamedPath (names : ℕ) (path : List NamedSegment) : Type 0 where
  pub differ : NamesDiffer number_of_name path
  pub below : All (λ (s : NamedSegment). s.name < names) path
  pub few : length path ≤ 512

-- the path is such a path, and the trace's critical path by the bits of the model's words
pub record IsPathUnder (model : ModelState) (trace : NamedTrace) (path : List NamedSegment) : Type 0
  where
    pub named : IsNamedPath model.names path
    pub critical : IsCriticalPath by_number (KeepsExclusion model.words) trace path
