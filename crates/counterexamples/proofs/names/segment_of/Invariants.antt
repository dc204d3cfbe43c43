use Rattle.std.proofs.Common.{◌≢◌}
use Rattle.std.specs.List.{AllWithin}
use Rattle.trace_types.specs.declared.named_segment.NamedSegment.{NamedSegment}
use Rattle.counterexamples.proofs.names.segment_of.Given as goal

abbrev pub invariant-segments : goal.invariant-segments
invariant-segments l = AllWithin (λ (s : NamedSegment). s.name ≢ l.name) l.segment-items 0 l.segment-index
