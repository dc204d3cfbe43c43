use Rattle.std.proofs.Common.{◌≤◌, length}
use Rattle.segment_cut.specs.NumberedCuts.{segments_under}
use Rattle.segment_names.specs.inner.Numbering.{NumbersFirst}
use Rattle.segment_names.specs.inner.Slots.{AreSlots}
use Rattle.segment_names.proofs.namer.name_segments.Given as goal

abbrev pub invariant-loop-segment : goal.invariant-loop-segment
invariant-loop-segment l = record {
  slots : AreSlots l.catalogue l.texts l.slots;
  numbers : NumbersFirst l.catalogue l.elements.keys (segments_under l.texts l.segments) l.segment-index l.named.items;
  few : length l.elements.keys ≤ l.segment-index;
}
