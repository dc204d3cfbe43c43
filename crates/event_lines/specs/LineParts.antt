-- Lines in several runs, seen as one list.
use Rattle.std.specs.Prelude.{List, [], ◌∷◌, ◌++◌, Option, Some, None, map}
use Rattle.std.specs.List.{flat_map}
use Rattle.trace_types.specs.declared.event.Event as events
use Rattle.event_lines.specs.declared.line.Line.{Line}
use Rattle.event_lines.specs.declared.line.Line.TheVariants.{Event, Control}
use Rattle.event_lines.specs.declared.line_run.ControlLine.{ControlLine}
use Rattle.event_lines.specs.declared.line_run.LineRun.{LineRun}

-- the lines of events
abbrev pub lines_of_events : List events.Event → List Line
lines_of_events events = map Event events

-- the line at the end of a run, if there is one
abbrev pub lines_of_control : Option ControlLine → List Line
lines_of_control None = []
lines_of_control (Some control) = Control control.line control.command ∷ []

-- the lines of a run: its events, and then its control line
abbrev pub lines_of_run : LineRun → List Line
lines_of_run run = lines_of_events run.events ++ lines_of_control run.control

-- the lines of all runs, one run after another
abbrev pub lines_of_runs : List LineRun → List Line
lines_of_runs runs = flat_map lines_of_run runs
