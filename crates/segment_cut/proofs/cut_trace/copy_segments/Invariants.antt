use Rattle.std.proofs.Common.{◌≡◌, take}
use Rattle.segment_cut.specs.NumberedCuts.{segments_under}
use Rattle.segment_cut.proofs.cut_trace.copy_segments.Given as goal

abbrev pub invariant-loop-segment : goal.invariant-loop-segment
invariant-loop-segment l = l.copies.items ≡ segments_under l.texts (take l.segment-index l.segments)
