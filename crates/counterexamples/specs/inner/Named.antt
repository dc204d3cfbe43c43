-- A trace's segments with given names.
use Rattle.std.specs.Prelude.{◌≡◌, ◌≢◌, ℕ, All, Contains}
use Rattle.trace_types.specs.Parts.{by_number}
use Rattle.trace_types.specs.Refuting.{RefutesApart}
use Rattle.trace_types.specs.declared.named_segment.NamedSegment.{NamedSegment}
use Rattle.trace_types.specs.declared.named_trace.NamedTrace.{NamedTrace}

-- no segment of the trace has this name
abbrev pub HasNone : NamedTrace → ℕ → Type 0
HasNone trace name = All (λ (s : NamedSegment). s.name ≢ name) trace.segments

-- the segment is one of the trace and has this name
pub record IsOf (trace : NamedTrace) (name : ℕ) (s : NamedSegment) : Type 0 where
  pub there : Contains trace.segments s
  pub named : s.name ≡ name

-- the trace has not both names
abbrev pub HasNotBoth : NamedTrace → ℕ → ℕ → Type 0
HasNotBoth trace first second = RefutesApart by_number first second trace → ⊥

-- the segments are those of the trace with these names
pub record AreOf (trace : NamedTrace) (first second : ℕ) (s t : NamedSegment) : Type 0 where
  pub one : IsOf trace first s
  pub other : IsOf trace second t
