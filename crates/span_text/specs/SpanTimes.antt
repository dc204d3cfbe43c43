-- The times of a span.
use Rattle.std.specs.Prelude.{ℕ, ◌+◌, ◌*◌, nat_lt, Result, Ok, Err, if◌then◌else◌}
use Rattle.trace_types.specs.Times.{latest_time}
use Rattle.span_text.specs.declared.why.Why.{Why}
use Rattle.span_text.specs.declared.why.Why.TheVariants.{EndBeforeStart, TimeOutOfRange}

-- the start and the end of a span, in nanoseconds since 1970, where it ends in range and not before
-- it starts
abbrev pub times_of : ℕ → ℕ → Result (ℕ × ℕ) Why
times_of start end =
    if nat_lt end start then Err EndBeforeStart
    else (if nat_lt latest_time end then Err TimeOutOfRange else Ok (start, end))

-- the same by the start and the duration in microseconds
abbrev pub micro_times_of : ℕ → ℕ → Result (ℕ × ℕ) Why
micro_times_of start duration = times_of (start * 1000) ((start + duration) * 1000)
