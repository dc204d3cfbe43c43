-- How much work it is to offer traces.
use Rattle.std.specs.Prelude.{ℕ, Bool, ◌+◌, ◌*◌, nat_lt, List, length}
use Rattle.std.specs.List.{sum_by}
use Rattle.trace_types.specs.declared.named_trace.NamedTrace.{NamedTrace}

-- what it takes to offer a trace, in nanoseconds, roughly: one for each pair of its segments, and
-- 256 for the trace
abbrev pub work_of : NamedTrace → ℕ
work_of t = length t.segments * length t.segments + 256

-- little work is less than 262,144 nanoseconds, roughly ten times what it takes to start a thread
-- and join it
abbrev pub is_little_work : List NamedTrace → Bool
is_little_work traces = nat_lt (sum_by work_of traces) 262144
