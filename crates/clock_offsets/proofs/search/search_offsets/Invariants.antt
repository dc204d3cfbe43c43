use Rattle.std.proofs.Common.{◌+◌, ◌<◌, ◌≤◌, vec_len, length}
use Rattle.clock_offsets.specs.inner.Search.{AreVisitedTo, IsFrontier, HaveOffsetsTo, unvisited}
use Rattle.clock_offsets.proofs.search.search_offsets.Given as goal

abbrev pub invariant-outward : goal.invariant-outward
invariant-outward l = record {
  visited : AreVisitedTo l.trace.trace.events l.numbers l.depth l.depths.items;
  frontier : IsFrontier l.depth l.depths.items l.frontier.items;
  offsets : HaveOffsetsTo l.trace.trace.events l.depth l.depths.items l.offsets.items;
  low : l.depth + unvisited l.depths.items ≤ length l.trace.trace.events;
  rising : 0 < vec_len l.frontier → l.depth + unvisited l.depths.items < length l.trace.trace.events;
}

abbrev pub decreases-outward : goal.decreases-outward
decreases-outward l = unvisited l.depths.items + vec_len l.frontier
