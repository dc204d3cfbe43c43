-- The events that lines say.
use Rattle.std.specs.Prelude.{ℕ, List, [], ◌∷◌, Result, Ok, Err, if◌then◌else◌}
use Rattle.std.specs.List.{flat_map}
use Rattle.trace_types.specs.declared.event.Event as events
use Rattle.event_lines.specs.Cut.{is_blank_line}
use Rattle.event_lines.specs.LineResults.{line_result}
use Rattle.event_lines.specs.declared.line.Line.{Line}
use Rattle.event_lines.specs.declared.line.Line.TheVariants.{Event, Control}
use Rattle.event_lines.specs.declared.why.Why.{Why}

-- the event of a line, where it is an event line
abbrev pub event_said : Result Line Why → List events.Event
event_said (Ok (Event event)) = event ∷ []
event_said (Ok (Control line command)) = []
event_said (Err why) = []

-- the event that a line says, as if it stood in line 0; none of a blank line, of a bad one and of a
-- control line
abbrev pub events_of_line : List ℕ → List events.Event
events_of_line line = if is_blank_line line then [] else event_said (line_result 0 line)

-- the events of lines, in their order
abbrev pub events_read : List (List ℕ) → List events.Event
events_read lines = flat_map events_of_line lines

-- an event as if it stood in line 0
abbrev pub without_line : events.Event → events.Event
without_line event = record event { line = 0 }

-- the events among lines, as if each stood in line 0
abbrev pub event_in : Line → List events.Event
event_in (Event event) = without_line event ∷ []
event_in (Control line command) = []

abbrev pub events_in : List Line → List events.Event
events_in lines = flat_map event_in lines
