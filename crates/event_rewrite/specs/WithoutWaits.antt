-- Lines without waits: where an event that sends is followed in its task by one that receives, the
-- task goes on under a name of its own.
use Rattle.std.specs.Prelude.{ℕ, ◌+◌, List, [], ◌∷◌, slice_index_or}
use Rattle.event_lines.specs.declared.line.Line.{Line}
use Rattle.event_lines.specs.declared.line.Line.TheVariants.{Event, Control}
use Rattle.event_rewrite.specs.TaskLines.{task_events}
use Rattle.task_pieces.specs.TaskNames.{names_of}

-- lines that stand after so many events, with the tasks of their events by index; all else stays
abbrev pub with_tasks_from : List (List ℕ) → ℕ → List Line → List Line
with_tasks_from tasks index [] = []
with_tasks_from tasks index (Event event ∷ lines) =
    Event (record event { task = slice_index_or tasks index [] })
    ∷ with_tasks_from tasks (index + 1) lines
with_tasks_from tasks index (Control line command ∷ lines) =
    Control line command ∷ with_tasks_from tasks index lines

-- all lines, each event under the name of the piece of its task that it is in
abbrev pub without_waits : List Line → List Line
without_waits lines = with_tasks_from (names_of (task_events lines)) 0 lines
