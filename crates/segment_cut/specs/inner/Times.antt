-- What the adjusting of times answers.
use Rattle.std.specs.Prelude.{ℤ, List, All}
use Rattle.trace_types.specs.declared.event.Event.{Event}
use Rattle.segment_cut.specs.AdjustedTimes.{AreAdjustedTimes, IsInClockRange}

-- times are the adjusted times of the events, and in range
abbrev pub AreTimes : List Event → List ℤ → Type 0
AreTimes events times = AreAdjustedTimes events times × All IsInClockRange times
