-- The events of lines as their tasks see them.
use Rattle.std.specs.Prelude.{ℕ, ◌+◌, List, [], ◌∷◌, is_some}
use Rattle.event_lines.specs.declared.command.Command.{Command}
use Rattle.event_lines.specs.declared.command.Command.TheVariants.{Add, Drop, Keep, Watch, Grace}
use Rattle.event_lines.specs.declared.command.Command.TheVariants.{Model, Paths, Slack, Report}
use Rattle.event_lines.specs.declared.command.Command.TheVariants.{Graph, Summarize}
use Rattle.event_lines.specs.declared.line.Line.{Line}
use Rattle.event_lines.specs.declared.line.Line.TheVariants.{Event, Control}
use Rattle.task_pieces.specs.TaskEvents.{TaskEvent}
use Rattle.trace_types.specs.declared.event.Event as events

-- an event of a batch, with its index among all events
abbrev pub task_event : ℕ → ℕ → events.Event → TaskEvent
task_event batch index e = record {
  batch = batch;
  request = e.request;
  task = e.task;
  time = e.time;
  index = index;
  sends = is_some e.send;
  receives = is_some e.recv;
}

-- the batch of the events after a command: an add ends one
abbrev pub batch_after : ℕ → Command → ℕ
batch_after batch Add = batch + 1
batch_after batch (Drop day) = batch
batch_after batch (Keep days) = batch
batch_after batch (Watch every) = batch
batch_after batch (Grace micros) = batch
batch_after batch Model = batch
batch_after batch Paths = batch
batch_after batch Slack = batch
batch_after batch Report = batch
batch_after batch Graph = batch
batch_after batch Summarize = batch

-- the events of lines that begin in this batch and after so many events
abbrev pub task_events_from : ℕ → ℕ → List Line → List TaskEvent
task_events_from batch index [] = []
task_events_from batch index (Event event ∷ lines) =
    task_event batch index event ∷ task_events_from batch (index + 1) lines
task_events_from batch index (Control line command ∷ lines) =
    task_events_from (batch_after batch command) index lines

-- the events of all lines
abbrev pub task_events : List Line → List TaskEvent
task_events lines = task_events_from 0 0 lines
