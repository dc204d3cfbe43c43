-- What is known of all lines of an input without a bad one.
use Rattle.std.specs.Prelude.{ℕ, ◌≤◌, List, map, ⊤}
use Rattle.std.specs.List.Sorted.{IsStrictlyIncreasing}
use Rattle.trace_types.specs.Times.{latest_time}
use Rattle.event_lines.specs.declared.command.Command.{Command}
use Rattle.event_lines.specs.declared.command.Command.TheVariants.{Add, Drop, Keep, Watch, Grace}
use Rattle.event_lines.specs.declared.command.Command.TheVariants.{Model, Paths, Slack, Report}
use Rattle.event_lines.specs.declared.command.Command.TheVariants.{Graph, Summarize}
use Rattle.event_lines.specs.declared.line.Line.{Line}
use Rattle.event_lines.specs.declared.line.Line.TheVariants.{Event, Control}
use Rattle.event_lines.specs.Commands.{most_command_number}

-- the number of a line
abbrev pub line_number : Line → ℕ
line_number (Event event) = event.line
line_number (Control line command) = line

-- each line has a greater number than the one before it
abbrev pub NumbersRise : List Line → Type 0
NumbersRise lines = IsStrictlyIncreasing (map line_number lines)

-- an event is not later than the latest time
abbrev pub IsTimely : Line → Type 0
IsTimely (Event event) = event.time ≤ latest_time
IsTimely (Control line command) = ⊤

-- the number of a command; 0 where it takes none
abbrev pub number_of_command : Command → ℕ
number_of_command (Drop day) = day
number_of_command (Keep days) = days
number_of_command (Watch every) = every
number_of_command (Grace micros) = micros
number_of_command Add = 0
number_of_command Model = 0
number_of_command Paths = 0
number_of_command Slack = 0
number_of_command Report = 0
number_of_command Graph = 0
number_of_command Summarize = 0

-- a command's number is at most the greatest
abbrev pub IsLimited : Line → Type 0
IsLimited (Event event) = ⊤
IsLimited (Control line command) = number_of_command command ≤ most_command_number
