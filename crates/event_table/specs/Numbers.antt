-- Events whose texts are numbers of tables, and whose messages are places in lists.
use Rattle.std.specs.Prelude.{ℕ, ◌==◌, List, [], map, slice_index_or, Option, None, Some}
use Rattle.std.specs.Prelude.{option_map, if◌then◌else◌}
use Rattle.trace_types.specs.declared.event.Event.{Event}
use Rattle.event_table.specs.declared.event_fields.EventFields.{EventFields}
use Rattle.event_table.specs.declared.event_numbers.EventNumbers.{EventNumbers}
use Rattle.event_table.specs.Texts.{MessageLists, TextLists}

-- the place that stands for no message
abbrev pub no_message : ℕ
no_message = 4294967295

-- the text with this number
abbrev pub text_under : List (List ℕ) → ℕ → List ℕ
text_under texts number = slice_index_or texts number []

-- the message at this place, if it is the place of one
abbrev pub message_under : List (List ℕ) → ℕ → Option (List ℕ)
message_under messages place =
    if place == no_message then None else Some (text_under messages place)

-- the event with these numbers
abbrev pub event_under : TextLists → MessageLists → EventNumbers → Event
event_under texts messages numbers = record {
  line = numbers.line;
  request = text_under texts.requests numbers.request;
  machine = text_under texts.machines numbers.machine;
  task = text_under texts.tasks numbers.task;
  event = text_under texts.names numbers.event;
  time = numbers.time;
  send = message_under messages.sends numbers.send;
  recv = message_under messages.receipts numbers.recv;
}

-- the events with these numbers
abbrev pub events_under : TextLists → MessageLists → List EventNumbers → List Event
events_under texts messages numbers = map (event_under texts messages) numbers

-- the event of a line that says this
abbrev pub event_of : ℕ → EventFields → Event
event_of line fields = record {
  line = line;
  request = fields.request.now;
  machine = fields.machine.now;
  task = fields.task.now;
  event = fields.event.now;
  time = fields.time;
  send = option_map (λ s. s.now) fields.send;
  recv = option_map (λ s. s.now) fields.recv;
}
