-- What a named segment is made of.
use Rattle.std.specs.Prelude.{ℕ, ℤ, Option}
use Rattle.trace_types.specs.declared.named_segment.NamedSegment.{NamedSegment}

-- the number of its name
abbrev pub number_of_name : NamedSegment → ℕ
number_of_name s = s.name

-- the number of its task
abbrev pub number_of_task : NamedSegment → ℕ
number_of_task s = s.task

-- the number of its element, where it has one
abbrev pub number_of_element : NamedSegment → Option ℕ
number_of_element s = s.element

-- where it starts, in nanoseconds
abbrev pub named_start : NamedSegment → ℤ
named_start s = s.start

-- where it ends, in nanoseconds
abbrev pub named_end : NamedSegment → ℤ
named_end s = s.end
