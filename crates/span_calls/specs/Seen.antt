-- When calls start and end as their callers see them. A caller c and a call s may be on machines
-- whose clocks differ: a call on another machine that does not lie within its caller is put in its
-- middle, as Jaeger does. Times are in nanoseconds, and none is greater than 64 bits hold.
use Rattle.std.specs.Prelude.{ℕ, ◌+◌, ◌-◌, ◌/◌, ◌^◌, ◌&&◌, List, [], Bool, not, Option, Some, None, min}
use Rattle.std.specs.Prelude.{nat_le, if◌then◌else◌, slice_index_or}
use Rattle.std.specs.Str.{bytes_eq}
use Rattle.span_types.specs.declared.span.Span.{Span}
use Rattle.span_types.specs.declared.span_kind.SpanKind.TheVariants.{Unspecified}

-- how long a span is
abbrev pub duration : Span → ℕ
duration s = s.end - s.start

-- two spans are on different machines
abbrev pub are_apart : Span → Span → Bool
are_apart c s = not (bytes_eq c.machine s.machine)

-- the call is put in the middle of its caller
abbrev pub is_moved : Span → Span → Bool
is_moved c s = are_apart c s && not (nat_le c.start s.start && nat_le s.end c.end)

-- when the call starts and ends as its caller sees it
abbrev pub seen_start : Span → Span → ℕ
seen_start c s =
    if is_moved c s then min (c.start + (duration c - duration s) / 2) (2 ^ 64 - 1) else s.start

abbrev pub seen_end : Span → Span → ℕ
seen_end c s = min (seen_start c s + duration s) (2 ^ 64 - 1)

-- the same of a span that may have no caller: then by its own clock
abbrev pub seen_start_by : Option Span → Span → ℕ
seen_start_by None s = s.start
seen_start_by (Some c) s = seen_start c s

abbrev pub seen_end_by : Option Span → Span → ℕ
seen_end_by None s = s.end
seen_end_by (Some c) s = seen_end c s

-- what stands for a span that is not there
abbrev pub no_span : Span
no_span = record {
  trace = [];
  id = [];
  parent = None;
  service = [];
  machine = [];
  name = [];
  kind = Unspecified;
  start = 0;
  end = 0;
}

-- the span with this number
abbrev pub span_at : List Span → ℕ → Span
span_at spans i = slice_index_or spans i no_span

-- the span with the number of a caller, if there is one
abbrev pub caller_in : List Span → Option ℕ → Option Span
caller_in spans None = None
caller_in spans (Some c) = Some (span_at spans c)
