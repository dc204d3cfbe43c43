use Rattle.std.proofs.Common.{◌≡◌, take}
use Rattle.event_table.proofs.event_table.EventTable.of_events.Given as goal

-- the events so far
abbrev pub invariant-loop-event : goal.invariant-loop-event
invariant-loop-event l = l.table ≡ take l.event-index l.events
