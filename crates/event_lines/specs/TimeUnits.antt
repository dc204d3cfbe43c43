-- The two units in which an event line states its time, since 1970.
use Rattle.std.specs.Prelude.{ℕ, List, codes, if◌then◌else◌}
use Rattle.serde_json.specs.Data.{Data}
use Rattle.trace_types.specs.Times.{latest_time, latest_time_in_microseconds}
use Rattle.event_lines.specs.declared.time_unit.TimeUnit.{TimeUnit}
use Rattle.event_lines.specs.declared.time_unit.TimeUnit.TheVariants.{Microseconds, Nanoseconds}
use Rattle.event_lines.specs.Members.{is_given}

-- nanoseconds where nanos is given, whatever time is; microseconds otherwise
abbrev pub time_unit_of : Data → TimeUnit
time_unit_of d = if is_given (codes "nanos") d then Nanoseconds else Microseconds

-- the name of the member that has the number
abbrev pub time_member : TimeUnit → List ℕ
time_member Microseconds = codes "time"
time_member Nanoseconds = codes "nanos"

-- the latest time, in this unit
abbrev pub latest_in : TimeUnit → ℕ
latest_in Microseconds = latest_time_in_microseconds
latest_in Nanoseconds = latest_time

-- the unit's length in nanoseconds
abbrev pub nanoseconds_in : TimeUnit → ℕ
nanoseconds_in Microseconds = 1000
nanoseconds_in Nanoseconds = 1
