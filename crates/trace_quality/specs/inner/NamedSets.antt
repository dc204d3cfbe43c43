-- The tasks and the names of events, by their numbers, in a set.
use Rattle.std.specs.Prelude.{ℕ, ◌≡◌, ◌<◌, ◌&&◌, Bool, nat_eq, length}
use Rattle.std.specs.HashSet.{HashSet, contains_by}
use Rattle.std.specs.Str.{bytes_eq}
use Rattle.event_table.specs.Gathered.{NumberedTrace}
use Rattle.event_table.specs.Numbers.{text_under}
use Rattle.trace_types.specs.Events.{event_name_at, task_at}
use Rattle.trace_quality.specs.Waits.{receives_at, sends_at}

-- the set has this task and this name
abbrev pub has_name : {S : Type 0} → HashSet (ℕ × ℕ) S → (task name : ℕ) → Bool
has_name named task name =
    contains_by (λ (k : ℕ × ℕ). nat_eq task k.0 && nat_eq name k.1) named

-- the event at an index has the task and the name with these numbers
abbrev pub has_names_at : NumberedTrace → (task name at : ℕ) → Bool
has_names_at raw task name at =
    bytes_eq (task_at raw.trace.events at) (text_under raw.texts.tasks task)
    && bytes_eq (event_name_at raw.trace.events at) (text_under raw.texts.names name)

-- the set has exactly the tasks and names of the events that send a message
abbrev pub AreSenders : {S : Type 0} → NumberedTrace → HashSet (ℕ × ℕ) S → Type 0
AreSenders raw named = (task name : ℕ) → task < length raw.texts.tasks
    → name < length raw.texts.names → has_name named task name
    ≡ sends_at raw.trace.events (text_under raw.texts.tasks task) (text_under raw.texts.names name)

-- the set has exactly the tasks and names of those that receive one
abbrev pub AreReceivers : {S : Type 0} → NumberedTrace → HashSet (ℕ × ℕ) S → Type 0
AreReceivers raw named = (task name : ℕ) → task < length raw.texts.tasks
    → name < length raw.texts.names → has_name named task name
    ≡ receives_at raw.trace.events (text_under raw.texts.tasks task)
    (text_under raw.texts.names name)
