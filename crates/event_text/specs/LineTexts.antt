-- The text of a line: a JSON object without spaces, and a line feed.
use Rattle.std.specs.Prelude.{ℕ, ◌==◌, ◌||◌, List, [], ◌∷◌, ◌++◌, codes, decimal, Option, Some}
use Rattle.std.specs.Prelude.{None, if◌then◌else◌}
use Rattle.std.specs.List.{flat_map}
use Rattle.event_lines.specs.declared.command.Command.{Command}
use Rattle.event_lines.specs.declared.command.Command.TheVariants.{Add, Drop, Keep, Watch, Grace}
use Rattle.event_lines.specs.declared.command.Command.TheVariants.{Model, Paths, Slack, Report}
use Rattle.event_lines.specs.declared.command.Command.TheVariants.{Graph, Summarize}
use Rattle.event_lines.specs.declared.line.Line.{Line}
use Rattle.event_lines.specs.declared.line.Line.TheVariants.{Event, Control}
use Rattle.trace_types.specs.declared.event.Event as events

-- a byte of a text, after a backslash where it is a quote or a backslash
abbrev pub escaped_byte : ℕ → List ℕ
escaped_byte byte = if byte == 34 || byte == 92 then 92 ∷ byte ∷ [] else byte ∷ []

-- a text without control characters, in quotes
unfoldable pub quoted : List ℕ → List ℕ
quoted text = 34 ∷ (flat_map escaped_byte text ++ 34 ∷ [])

-- the member of a message after others, if there is a message
abbrev pub message_member : List ℕ → Option (List ℕ) → List ℕ
message_member name None = []
message_member name (Some message) = codes ",\"" ++ name ++ codes "\":" ++ quoted message

-- the beginning of the line of an event
unfoldable pub place_text : (request machine : List ℕ) → List ℕ
place_text request machine =
    codes "{\"request\":" ++ quoted request ++ codes ",\"machine\":" ++ quoted machine

-- its members of the task and of the event's name
unfoldable pub name_text : (task event : List ℕ) → List ℕ
name_text task event = codes ",\"task\":" ++ quoted task ++ codes ",\"event\":" ++ quoted event

-- the rest of it, with the time in nanoseconds
unfoldable pub rest_text : ℕ → (send recv : Option (List ℕ)) → List ℕ
rest_text time send recv =
    codes ",\"nanos\":" ++ decimal time
    ++ message_member (codes "send") send
    ++ message_member (codes "recv") recv
    ++ codes "}\n"

-- the line of an event
abbrev pub event_text : events.Event → List ℕ
event_text e =
    place_text e.request e.machine ++ name_text e.task e.event ++ rest_text e.time e.send e.recv

-- the line of a command without a number, and of one with a number
abbrev pub plain_command : List ℕ → List ℕ
plain_command name = codes "{\"do\":\"" ++ name ++ codes "\"}\n"

abbrev pub numbered_command : List ℕ → List ℕ → ℕ → List ℕ
numbered_command name member number =
    codes "{\"do\":\"" ++ name ++ codes "\",\"" ++ member ++ codes "\":" ++ decimal number
    ++ codes "}\n"

-- the line of a command
abbrev pub command_text : Command → List ℕ
command_text Add = plain_command (codes "add")
command_text (Drop day) = numbered_command (codes "drop") (codes "day") day
command_text (Keep days) = numbered_command (codes "keep") (codes "days") days
command_text (Watch every) = numbered_command (codes "watch") (codes "every") every
command_text (Grace micros) = numbered_command (codes "grace") (codes "micros") micros
command_text Model = plain_command (codes "model")
command_text Paths = plain_command (codes "paths")
command_text Slack = plain_command (codes "slack")
command_text Report = plain_command (codes "report")
command_text Graph = plain_command (codes "graph")
command_text Summarize = plain_command (codes "summarize")

-- the text of a line, and of several
abbrev pub line_text : Line → List ℕ
line_text (Event event) = event_text event
line_text (Control line command) = command_text command

abbrev pub lines_text : List Line → List ℕ
lines_text lines = flat_map line_text lines
