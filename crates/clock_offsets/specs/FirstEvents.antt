-- The first events of machines and of tasks.
use Rattle.std.specs.Prelude.{◌≡◌, ◌≢◌, ℕ, ◌<◌, List, [], length, slice_index_or}
use Rattle.trace_types.specs.declared.event.Event.{Event}
use Rattle.trace_types.specs.Events.{machines_of, tasks_of}
use Rattle.clock_offsets.specs.declared.first_events.Field.{Field}
use Rattle.clock_offsets.specs.declared.first_events.Field.TheVariants.{Machine, Task}

-- the text that each event has in a field, by index
abbrev pub fields_of : Field → List Event → List (List ℕ)
fields_of Machine events = machines_of events
fields_of Task events = tasks_of events

-- the text of the event at k
abbrev pub field_at : Field → List Event → ℕ → List ℕ
field_at field events k = slice_index_or (fields_of field events) k []

-- for each event the index of the first event with the same text; events with the same text have
-- the same one
pub record AreFirstEvents (field : Field) (events : List Event) (firsts : List ℕ) : Type 0 where
  pub each : length firsts ≡ length events
  pub within : (k : ℕ) → k < length events → slice_index_or firsts k 0 < length events
  pub same : (k : ℕ) → k < length events
      → field_at field events (slice_index_or firsts k 0) ≡ field_at field events k
  pub first : (j k : ℕ) → k < length events → j < slice_index_or firsts k 0
      → field_at field events j ≢ field_at field events k
  pub one : (j k : ℕ) → j < length events → k < length events
      → field_at field events j ≡ field_at field events k
      → slice_index_or firsts j 0 ≡ slice_index_or firsts k 0
