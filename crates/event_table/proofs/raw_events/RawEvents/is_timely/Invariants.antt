use Rattle.std.proofs.Common.{ℕ, ◌<◌, ◌≤◌}
use Rattle.trace_types.specs.Events.{time_at}
use Rattle.trace_types.specs.Times.{latest_time}
use Rattle.event_table.proofs.raw_events.RawEvents.is_timely.Given as goal

-- the events so far are timely
abbrev pub invariant-loop-at : goal.invariant-loop-at
invariant-loop-at l = (k : ℕ) → k < l.at → time_at l.self.trace.events k ≤ latest_time
