-- The events of lines that were read.
use Rattle.std.specs.Prelude.{List, [], ◌∷◌}
use Rattle.std.specs.List.{flat_map}
use Rattle.trace_types.specs.declared.event.Event as events
use Rattle.event_lines.specs.declared.line.Line.{Line}
use Rattle.event_lines.specs.declared.line.Line.TheVariants.{Event, Control}

-- the event of a line, where it is an event line
abbrev pub logged_event : Line → List events.Event
logged_event (Event event) = event ∷ []
logged_event (Control line command) = []

-- the events of lines, in their order
abbrev pub logged_events : List Line → List events.Event
logged_events lines = flat_map logged_event lines
