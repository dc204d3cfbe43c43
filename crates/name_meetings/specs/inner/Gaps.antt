-- Times whose differences 64 bits hold.
use Rattle.std.specs.Prelude.{◌^◌, ℤ, pos, neg_ℤ, int_lt, int_le, Bool, ◌&&◌}
use Rattle.std.specs.List.{list_all}
use Rattle.trace_types.specs.declared.named_segment.NamedSegment.{NamedSegment}
use Rattle.trace_types.specs.declared.named_trace.NamedTrace.{NamedTrace}

-- the time is within 2^62 nanoseconds of 1970: until the year 2116
abbrev pub is_narrow : ℤ → Bool
is_narrow time = int_le (neg_ℤ (pos (2 ^ 62))) time && int_lt time (pos (2 ^ 62))

-- both times of a segment are, and all times of a trace
abbrev pub has_narrow_times : NamedSegment → Bool
has_narrow_times s = is_narrow s.start && is_narrow s.end

abbrev pub is_narrow_trace : NamedTrace → Bool
is_narrow_trace trace = list_all has_narrow_times trace.segments
