use Rattle.std.proofs.Common.{◌≡◌, ◌≤◌, take}
use Rattle.segment_cut.specs.NumberedCuts.{segments_under}
use Rattle.trace_quality.specs.Waits.{count_waits}
use Rattle.trace_quality.proofs.waits.count_among.Given as goal

-- the waits among the segments so far
abbrev pub invariant-segments : goal.invariant-segments
invariant-segments l = record {
  counted : l.count ≡ count_waits l.raw.trace.events (take l.index (segments_under l.raw.texts l.segments));
  few : l.count ≤ l.index;
}
