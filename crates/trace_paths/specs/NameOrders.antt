-- The names of traces, as numbers in the order of their texts.
use Rattle.std.specs.Prelude.{ℕ, List, [], map, Contains, slice_index_or}
use Rattle.std.specs.declared.cmp.Ordering.{Ordering}
use Rattle.trace_types.specs.declared.named_trace.NamedTrace.{NamedTrace}
use Rattle.trace_types.specs.Listing.{ListsExactly}
use Rattle.trace_types.specs.NamedSegments.{number_of_name}
use Rattle.trace_types.specs.NameOrder.{name_cmp}
use Rattle.trace_types.specs.Parts.{by_number, segments_of}
use Rattle.trace_types.specs.Segments.{SegmentName}

-- the name with this number
abbrev pub name_with_number : List SegmentName → ℕ → SegmentName
name_with_number names number = slice_index_or names number ([], [], [])

-- numbers of names stand in the order of the names
abbrev pub number_cmp : List SegmentName → ℕ → ℕ → Ordering
number_cmp names a b = name_cmp (name_with_number names a) (name_with_number names b)

-- exactly the names of the traces' segments, each once, in name order
abbrev pub AreNamesOf : List SegmentName → List NamedTrace → List ℕ → Type 0
AreNamesOf names traces numbers =
    ListsExactly (number_cmp names) (Contains (map number_of_name (segments_of by_number traces)))
    numbers
