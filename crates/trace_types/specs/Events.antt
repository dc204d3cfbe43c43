-- What the events of a trace have, by index from 0. Where the lines of a batch rise (LinesRise), a
-- lower index is an earlier line.
use Rattle.std.specs.Prelude.{ℕ, Option, Some, List, [], map, slice_index_or}
use Rattle.trace_types.specs.declared.event.Event.{Event}

-- the machine of each event
abbrev pub machines_of : List Event → List (List ℕ)
machines_of events = map (λ (e : Event). e.machine) events

-- the task of each event
abbrev pub tasks_of : List Event → List (List ℕ)
tasks_of events = map (λ (e : Event). e.task) events

-- the name of each event
abbrev pub names_of : List Event → List (List ℕ)
names_of events = map (λ (e : Event). e.event) events

-- the message that each event sends
abbrev pub sends_of : List Event → List (Option (List ℕ))
sends_of events = map (λ (e : Event). e.send) events

-- the message that each event receives
abbrev pub receipts_of : List Event → List (Option (List ℕ))
receipts_of events = map (λ (e : Event). e.recv) events

-- the task and the name of each event; a valid trace has no such pair twice
abbrev pub named_events : List Event → List (Option (List ℕ × List ℕ))
named_events events = map (λ (e : Event). Some (e.task, e.event)) events

-- the machine of the event at k
abbrev pub machine_at : List Event → ℕ → List ℕ
machine_at events k = slice_index_or (machines_of events) k []

-- its task
abbrev pub task_at : List Event → ℕ → List ℕ
task_at events k = slice_index_or (tasks_of events) k []

-- its name
abbrev pub event_name_at : List Event → ℕ → List ℕ
event_name_at events k = slice_index_or (names_of events) k []

-- its time by its own machine's clock, in nanoseconds
abbrev pub time_at : List Event → ℕ → ℕ
time_at events k = slice_index_or (map (λ (e : Event). e.time) events) k 0

-- its line
abbrev pub line_at : List Event → ℕ → ℕ
line_at events k = slice_index_or (map (λ (e : Event). e.line) events) k 0
