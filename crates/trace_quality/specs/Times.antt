-- The times of the events of a trace, each by its own machine's clock, in nanoseconds since 1970.
use Rattle.std.specs.Prelude.{ℕ, ◌≡◌, ◌-◌, ◌<◌, ◌≤◌, List, length}
use Rattle.trace_types.specs.declared.event.Event.{Event}
use Rattle.trace_types.specs.Events.{time_at}
use Rattle.trace_quality.specs.declared.times.Times.{Times}

-- the least and the greatest of them
pub record AreTimes (events : List Event) (t : Times) : Type 0 where
  pub some_least : (k : ℕ) × (k < length events) × (time_at events k ≡ t.least)
  pub none_less : (k : ℕ) → k < length events → t.least ≤ time_at events k
  pub some_greatest : (k : ℕ) × (k < length events) × (time_at events k ≡ t.greatest)
  pub none_greater : (k : ℕ) → k < length events → time_at events k ≤ t.greatest

-- how long the trace lasted, by these clocks
abbrev pub span_of : Times → ℕ
span_of t = t.greatest - t.least
