-- The bases of the names of contexts.
use Rattle.std.specs.Prelude.{ℕ, ◌++◌, List, [], None, codes, slice_index_or}
use Rattle.span_names.specs.Names.{base_of, most_of_event, most_of_task}
use Rattle.call_contexts.specs.Contexts.{Frame}

-- the service and the operation of a context
abbrev pub plain_name : Frame → List ℕ
plain_name f = f.service ++ codes " " ++ f.name

-- the base of the name of a context, of so many bytes at most
abbrev pub base_within : ℕ → Frame → List ℕ
base_within most f = base_of most (plain_name f)

abbrev pub task_base : Frame → List ℕ
task_base f = base_within most_of_task f

abbrev pub event_base : Frame → List ℕ
event_base f = base_within most_of_event f

-- what stands for a context that is not there
abbrev pub no_frame : Frame
no_frame = record { above = None; service = []; name = []; ordinal = 0 }

-- the context with this number
abbrev pub frame_of_number : List Frame → ℕ → Frame
frame_of_number contexts x = slice_index_or contexts x no_frame
