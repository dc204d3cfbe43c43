-- A trace under the numbers of a catalogue, and why a trace is not named.
use Rattle.std.specs.Prelude.{◌≡◌, ℕ, ◌<◌, All, Some, None, List, length, slice_get}
use Rattle.std.specs.List.{enumerate_from}
use Rattle.trace_types.specs.declared.named_segment.NamedSegment.{NamedSegment}
use Rattle.trace_types.specs.declared.named_trace.NamedTrace.{NamedTrace}
use Rattle.trace_types.specs.declared.segment.Segment.{Segment}
use Rattle.trace_types.specs.declared.trace.Trace.{Trace}
use Rattle.trace_types.specs.Parts.{by_number, by_text}
use Rattle.trace_types.specs.Renaming.{IsTraceRenamed}
use Rattle.trace_types.specs.Segments.{name_of}
use Rattle.segment_names.specs.declared.name_one.NameOne.{NameOne}
use Rattle.segment_names.specs.declared.name_one.NameOne.TheVariants.{Memory, Unknown}
use Rattle.segment_names.specs.Known.{Known, name_number}

-- the same trace, segment by segment: a name and a task have their numbers in the catalogue,
-- elements are matched one to one with numbers, and the grace is 0
abbrev pub IsNamed : Known → NamedTrace → Trace → Type 0
IsNamed known named trace = IsTraceRenamed by_number by_text (enumerate_from 0 known.names)
    (enumerate_from 0 known.tasks) named trace

-- each name and each task of the trace is a number of the catalogue
abbrev pub HasKnownNumbers : Known → NamedTrace → Type 0
HasKnownNumbers known named = All (λ (s : NamedSegment). (s.name < length known.names)
    × (s.task < length known.tasks)) named.segments

-- the segment at this index has a name that is not in the catalogue
abbrev pub IsUnknownAt : Known → List Segment → ℕ → Type 0
IsUnknownAt known segments k = (s : Segment) × (slice_get segments k ≡ Some s)
    × (name_number known (name_of s) ≡ None)

-- some segment is such
abbrev pub HasUnknown : Known → List Segment → Type 0
HasUnknown known segments = (k : ℕ) × IsUnknownAt known segments k

-- it is the first such segment
abbrev pub IsFirstUnknown : Known → List Segment → ℕ → Type 0
IsFirstUnknown known segments k = IsUnknownAt known segments k × ((j : ℕ) → j < k
    → IsUnknownAt known segments j → ⊥)

-- the trace is given back: it was not named, out of memory or because this segment is the first
-- that is not known
abbrev pub IsRefused : Known → Trace → NameOne → Type 0
IsRefused known trace (Memory back) = back ≡ trace
IsRefused known trace (Unknown back segment) = (back ≡ trace)
    × IsFirstUnknown known trace.segments segment
