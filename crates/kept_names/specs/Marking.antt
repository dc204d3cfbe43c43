-- Which numbers occur in segments, as marks: one for each number below a limit.
use Rattle.std.specs.Prelude.{◌≡◌, ◌↔◌, ◌⊎◌, ℕ, List, length, map, Contains, Bool, true, Some}
use Rattle.std.specs.Prelude.{slice_get}
use Rattle.trace_types.specs.declared.named_segment.NamedSegment.{NamedSegment}
use Rattle.trace_types.specs.NamedSegments.{number_of_name, number_of_task}
use Rattle.kept_names.specs.declared.marks.Marks.{Marks}

-- the number has a mark
abbrev pub IsMarked : List Bool → ℕ → Type 0
IsMarked marks number = slice_get marks number ≡ Some true

-- the new marks are the old ones and those of these numbers
pub record AddsMarks (numbers : List ℕ) (old new : List Bool) : Type 0 where
  pub size : length new ≡ length old
  pub marked : (n : ℕ) → IsMarked new n ↔ (IsMarked old n ⊎ Contains numbers n)

-- there is a mark for each of 512 names and each of 64 tasks
pub record HaveRoom (marks : Marks) : Type 0 where
  pub names : length marks.names.items ≡ 512
  pub tasks : length marks.tasks.items ≡ 64

-- the names and the tasks of these segments are marked besides
pub record MarksMore (segments : List NamedSegment) (old new : Marks) : Type 0 where
  pub names : AddsMarks (map number_of_name segments) old.names.items new.names.items
  pub tasks : AddsMarks (map number_of_task segments) old.tasks.items new.tasks.items

-- exactly these numbers are marked
abbrev pub AreMarksOf : List ℕ → List Bool → Type 0
AreMarksOf numbers marks = (n : ℕ) → IsMarked marks n ↔ Contains numbers n
