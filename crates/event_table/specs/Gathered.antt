-- The traces of events whose texts are numbers of tables.
use Rattle.std.specs.Prelude.{ℕ, List, [], ◌∷◌, map}
use Rattle.std.specs.Prelude.{Option, None, slice_index_or}
use Rattle.std.specs.List.{flat_map}
use Rattle.trace_types.specs.declared.event.Event.{Event}
use Rattle.trace_types.specs.Batch.{PlainTrace}
use Rattle.trace_types.specs.Events.{receipts_of, sends_of}
use Rattle.event_table.specs.declared.event_numbers.EventNumbers.{EventNumbers}
use Rattle.event_table.specs.Numbers.{events_under, text_under}
use Rattle.event_table.specs.Texts.{MessageLists, TextLists}

-- the events of tables, one table after another
abbrev pub events_of_tables : List (List Event) → List Event
events_of_tables tables = flat_map (λ events. events) tables

-- the texts of gathered events, and their traces
pub record Gathered : Type 0 where
  pub texts : TextLists
  pub traces : List PlainTrace

-- the request of the first of these events
abbrev pub first_request : List (List ℕ) → List EventNumbers → List ℕ
first_request requests [] = []
first_request requests (numbers ∷ later) = text_under requests numbers.request

-- the trace of events of one request
abbrev pub trace_under : TextLists → MessageLists → List EventNumbers → PlainTrace
trace_under texts messages events = record {
  request = first_request texts.requests events;
  events = events_under texts messages events;
}

-- the traces of groups of events, one of each request
abbrev pub traces_under : TextLists → MessageLists → List (List EventNumbers) → List PlainTrace
traces_under texts messages groups = map (trace_under texts messages) groups

-- the texts of a trace's batch, and the trace
pub record NumberedTrace : Type 0 where
  pub texts : TextLists
  pub trace : PlainTrace

-- the message that the event at k sends
abbrev pub send_at : List Event → ℕ → Option (List ℕ)
send_at events k = slice_index_or (sends_of events) k None

-- the message that it receives
abbrev pub receipt_at : List Event → ℕ → Option (List ℕ)
receipt_at events k = slice_index_or (receipts_of events) k None
