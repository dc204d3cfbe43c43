use Rattle.std.proofs.Common.{◌-◌}
use Rattle.segment_cut.proofs.SegmentLemmas.{AreSegmentsTo}
use Rattle.segment_cut.proofs.segments.make_segments.Given as goal

abbrev pub invariant-loop-at : goal.invariant-loop-at
invariant-loop-at l = AreSegmentsTo l.trace.texts l.trace.trace.events l.keys (l.at - 1) l.segments.items
