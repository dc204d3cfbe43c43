use Rattle.std.proofs.Common.{◌≡◌, ◌++◌, List, length, take}
use Rattle.event_table.specs.declared.event_numbers.EventNumbers.{EventNumbers}
use Rattle.event_table.specs.inner.Placing.{AreCounted}
use Rattle.event_table.specs.inner.Renumbering.{part_events}
use Rattle.event_table.proofs.counting.count_part.Given as goal

-- the events so far are counted, after those that were counted before
abbrev pub invariant-loop-event : goal.invariant-loop-event
invariant-loop-event l = record {
  counted : (done : List EventNumbers) → AreCounted done l.fn.requests.items l.fn.counts → AreCounted (done ++ take l.event-index (part_events l.part)) l.requests.items l.counts;
  long : length l.counts ≡ length l.fn.counts;
}
