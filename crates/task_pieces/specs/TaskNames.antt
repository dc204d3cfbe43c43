-- The names under which tasks go on.
use Rattle.std.specs.Prelude.{ℕ, List, map}
use Rattle.std.specs.Str.{bytes_eq}
use Rattle.task_pieces.specs.PieceNames.{piece_name}
use Rattle.task_pieces.specs.Pieces.{piece_of}
use Rattle.task_pieces.specs.TaskEvents.{TaskEvent}
use Rattle.trace_types.specs.Firsts.{firsts_of}

-- the different tasks of events, in the order of first sight
abbrev pub tasks_of : List TaskEvent → List (List ℕ)
tasks_of events = firsts_of bytes_eq (map (λ (e : TaskEvent). e.task) events)

-- the name of the piece of its task that each of these events is in
abbrev pub names_of : List TaskEvent → List (List ℕ)
names_of events =
    map (λ (e : TaskEvent). piece_name (tasks_of events) e.task (piece_of events e)) events
