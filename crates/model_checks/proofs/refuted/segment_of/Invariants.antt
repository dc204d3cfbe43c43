use Rattle.std.proofs.Common.{◌≢◌}
use Rattle.std.specs.List.{AllWithin}
use Rattle.trace_types.specs.declared.segment.Segment.{Segment}
use Rattle.trace_types.specs.Segments.{name_of}
use Rattle.model_checks.proofs.refuted.segment_of.Given as goal

abbrev pub invariant-loop-segment : goal.invariant-loop-segment
invariant-loop-segment l = AllWithin (λ (s : Segment). name_of s ≢ l.name) l.segment-items 0 l.segment-index
