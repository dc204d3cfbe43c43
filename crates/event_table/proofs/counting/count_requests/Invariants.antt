use Rattle.std.proofs.Common.{◌≡◌, length, take}
use Rattle.event_table.specs.inner.Placing.{AreCounted}
use Rattle.event_table.specs.inner.Renumbering.{whole_events}
use Rattle.event_table.proofs.counting.count_requests.Given as goal

-- the events of the parts so far are counted
abbrev pub invariant-loop-part : goal.invariant-loop-part
invariant-loop-part l = record {
  counted : AreCounted (whole_events (take l.part-index l.parts)) l.requests.items l.counts.items;
  long : length l.counts.items ≡ l.count;
}
