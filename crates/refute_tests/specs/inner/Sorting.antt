-- Segments sorted by time.
use Rattle.std.specs.Prelude.{◌≤ℤ◌, List, AllPairs}
use Rattle.trace_types.specs.declared.named_segment.NamedSegment.{NamedSegment}

-- none starts after those behind it
abbrev pub StartsRise : List NamedSegment → Type 0
StartsRise segments = AllPairs (λ (s t : NamedSegment). s.start ≤ℤ t.start) segments

-- none ends after those behind it
abbrev pub EndsRise : List NamedSegment → Type 0
EndsRise segments = AllPairs (λ (s t : NamedSegment). s.end ≤ℤ t.end) segments

-- none starts before those behind it
abbrev pub StartsFall : List NamedSegment → Type 0
StartsFall segments = AllPairs (λ (s t : NamedSegment). t.start ≤ℤ s.start) segments

-- none ends before those behind it
abbrev pub EndsFall : List NamedSegment → Type 0
EndsFall segments = AllPairs (λ (s t : NamedSegment). t.end ≤ℤ s.end) segments
