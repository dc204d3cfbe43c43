-- Numbers in the order of the texts that they have in a catalogue.
use Rattle.std.specs.Prelude.{ℕ, List, [], slice_index_or}
use Rattle.std.specs.Cmp.Lexicographic.{slice_cmp}
use Rattle.std.specs.Ordering.{nat_cmp}
use Rattle.std.specs.declared.cmp.Ordering.{Ordering}
use Rattle.segment_names.specs.Known.{Known}
use Rattle.trace_types.specs.NameOrder.{name_cmp}
use Rattle.trace_types.specs.Segments.{SegmentName}

-- the name and the task with this number
abbrev pub numbered_name : Known → ℕ → SegmentName
numbered_name known number = slice_index_or known.names number ([], [], [])

abbrev pub numbered_task : Known → ℕ → List ℕ
numbered_task known number = slice_index_or known.tasks number []

-- by the names with these numbers
abbrev pub name_number_cmp : Known → ℕ → ℕ → Ordering
name_number_cmp known a b = name_cmp (numbered_name known a) (numbered_name known b)

-- by the tasks with these numbers
abbrev pub task_number_cmp : Known → ℕ → ℕ → Ordering
task_number_cmp known a b = slice_cmp nat_cmp (numbered_task known a) (numbered_task known b)
