use Rattle.std.proofs.Common.{◌≡◌, ◌↔◌, ◌⊎◌, ℕ, Some, true, length, map, slice_get, take, Contains}
use Rattle.trace_types.specs.NamedSegments.{number_of_name}
use Rattle.slow_tail.proofs.names.mark_segments.Given as goal

abbrev pub invariant-segments : goal.invariant-segments
invariant-segments l = record {
  count : length l.marked ≡ length l.fn.marked;
  marks : (n : ℕ) → (slice_get l.marked n ≡ Some true) ↔ ((slice_get l.fn.marked n ≡ Some true) ⊎ Contains (map number_of_name (take l.segment-index l.segments)) n);
}
