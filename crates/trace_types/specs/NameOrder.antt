-- The order of segments' names, and of pairs of names.
use Rattle.std.specs.Cmp.Lexicographic.{slice_cmp}
use Rattle.std.specs.Ordering.{nat_cmp, ordering_then}
use Rattle.std.specs.declared.cmp.Ordering.{Ordering}
use Rattle.trace_types.specs.Segments.{SegmentName}

-- the order of names: by task, then by start event, then by end event, each by its bytes
abbrev pub name_cmp : SegmentName → SegmentName → Ordering
name_cmp a b = ordering_then (slice_cmp nat_cmp a.0 b.0)
    (ordering_then (slice_cmp nat_cmp a.1 b.1) (slice_cmp nat_cmp a.2 b.2))

-- the order of pairs: by the first, then by the second
abbrev pub pair_cmp : {N : Type 0} → (N → N → Ordering) → N × N → N × N → Ordering
pair_cmp cmp p q = ordering_then (cmp p.0 q.0) (cmp p.1 q.1)
