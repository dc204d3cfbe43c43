-- The times of events.
use Rattle.std.specs.Prelude.{ℕ, ◌≤◌, List, All}
use Rattle.trace_types.specs.declared.event.Event.{Event}

-- the latest time of an event, in nanoseconds since 1970: the start of the year 2100
abbrev pub latest_time : ℕ
latest_time = 4102444800000000000

-- the same time in microseconds since 1970
abbrev pub latest_time_in_microseconds : ℕ
latest_time_in_microseconds = 4102444800000000

-- no event is later than the latest time
abbrev pub AreTimely : List Event → Type 0
AreTimely events = All (λ (e : Event). e.time ≤ latest_time) events
