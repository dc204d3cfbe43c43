-- Events that are borrowed from a table.
use Rattle.std.specs.Prelude.{option_copied}
use Rattle.trace_types.specs.declared.event.Event.{Event}
use Rattle.event_table.specs.declared.lent_event.LentEvent.{LentEvent}

-- the event that is borrowed
abbrev pub event_lent : LentEvent → Event
event_lent lent = record {
  line = lent.line;
  request = lent.request.now;
  machine = lent.machine.now;
  task = lent.task.now;
  event = lent.event.now;
  time = lent.time;
  send = option_copied lent.send;
  recv = option_copied lent.recv;
}
