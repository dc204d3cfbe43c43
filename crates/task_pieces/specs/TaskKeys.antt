-- The keys of events.
use Rattle.std.specs.Prelude.{ℕ, ◌≡◌, List, Some, map, slice_get}
use Rattle.task_pieces.specs.TaskEvents.{TaskEvent}
use Rattle.task_pieces.specs.declared.task_key.TaskKey.{TaskKey}

-- the event of a key
abbrev pub event_of_key : TaskKey → TaskEvent
event_of_key key = record {
  batch = key.batch;
  request = key.request.now;
  task = key.task.now;
  time = key.time;
  index = key.index;
  sends = key.sends;
  receives = key.receives;
}

-- the events of keys
abbrev pub events_of_keys : List TaskKey → List TaskEvent
events_of_keys keys = map event_of_key keys

-- each key stands at its index
abbrev pub AreIndexed : List TaskKey → Type 0
AreIndexed keys = (index : ℕ) (key : TaskKey) → slice_get keys index ≡ Some key → key.index ≡ index
