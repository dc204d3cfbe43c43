-- Which traces are kept. Whatever was added is kept until its day is dropped.
use Rattle.std.specs.Prelude.{ℕ, ◌==◌, not, nat_lt, nat_le, nat_eq, if◌then◌else◌, List, [], ◌∷◌}
use Rattle.std.specs.Prelude.{length, map, filter, Bool}
use Rattle.trace_rules.specs.TraceGraphs.{ExcludesIn}
use Rattle.trace_types.specs.declared.segment.Segment.{Segment}
use Rattle.trace_types.specs.declared.trace.Trace.{Trace}
use Rattle.trace_types.specs.Firsts.{firsts_of}
use Rattle.trace_types.specs.Parts.{Parts}
use Rattle.trace_types.specs.Segments.{SegmentName, name_of, task_of, start_of, end_of}

-- a trace, and the grace that held when it was added, in nanoseconds
pub record Kept : Type 0 where
  pub trace : Trace
  pub grace : ℕ

-- how a kept trace is read: its names are texts, and it is judged by its own grace
abbrev pub by_kept : Parts Kept Segment SegmentName (List ℕ) (List ℕ)
by_kept = record {
  segments = λ k. k.trace.segments;
  grace = λ k. k.grace;
  name = name_of;
  task = task_of;
  element = λ s. s.element;
  start = start_of;
  end = end_of;
}

-- the mutual exclusion of two names survives in these kept traces: none of them refutes it
abbrev pub SurvivesIn : List Kept → SegmentName → SegmentName → Type 0
SurvivesIn kept = ExcludesIn by_kept kept

-- the trace with this grace
abbrev pub kept_with : ℕ → Trace → Kept
kept_with grace trace = record { trace = trace; grace = grace }

-- its day, in days of 86,400 seconds since 1970
abbrev pub day_of : Kept → ℕ
day_of k = k.trace.day

-- it is of this day
abbrev pub is_of_day : ℕ → Kept → Bool
is_of_day day k = day_of k == day

-- the latencies of traces, in nanoseconds
abbrev pub latencies_of : List Kept → List ℕ
latencies_of kept = map (λ k. k.trace.latency) kept

-- the traces of one day
abbrev pub traces_on : ℕ → List Kept → List Kept
traces_on day kept = filter (is_of_day day) kept

-- the traces of all other days
abbrev pub without_day : ℕ → List Kept → List Kept
without_day day kept = filter (λ k. not (is_of_day day k)) kept

-- the different days of traces, in the order of first sight
abbrev pub days_of : List Kept → List ℕ
days_of kept = firsts_of nat_eq (map day_of kept)

-- how many different days of the traces are greater than this one
abbrev pub greater_days : List Kept → ℕ → ℕ
greater_days kept day = length (filter (λ d. nat_lt day d) (days_of kept))

-- the traces of the last n days: those of days for which there are fewer than n greater ones
abbrev pub newest : ℕ → List Kept → List Kept
newest n kept = filter (λ k. nat_lt (greater_days kept (day_of k)) n) kept

-- the traces with one more: it stands after those of its day and of earlier days
abbrev pub taken_in : List Kept → Kept → List Kept
taken_in [] t = t ∷ []
taken_in (k ∷ kept) t =
    if nat_le (day_of k) (day_of t) then k ∷ taken_in kept t else t ∷ k ∷ kept

-- the traces with others, taken in one after another: by day, and within a day in the order in
-- which they were taken
abbrev pub with_taken : List Kept → List Kept → List Kept
with_taken kept [] = kept
with_taken kept (t ∷ ts) = with_taken (taken_in kept t) ts
