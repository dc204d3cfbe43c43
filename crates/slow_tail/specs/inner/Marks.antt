-- Marks of names.
use Rattle.std.specs.Prelude.{◌≡◌, ◌↔◌, ℕ, Bool, true, List, Some, length, map, slice_get, Contains}
use Rattle.trace_types.specs.declared.named_segment.NamedSegment.{NamedSegment}
use Rattle.trace_types.specs.NamedSegments.{number_of_name}

-- a mark for each number below this one, `true` exactly where a segment has it as its name
pub record AreMarksOf (names : ℕ) (segments : List NamedSegment) (marks : List Bool) : Type 0 where
  pub count : length marks ≡ names
  pub exactly : (n : ℕ) → (slice_get marks n ≡ Some true)
      ↔ Contains (map number_of_name segments) n
