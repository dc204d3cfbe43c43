-- The commands of control lines: an object with the member do is one.
use Rattle.std.specs.Prelude.{ℕ, List, [], ◌∷◌, codes, not, nat_lt, find}
use Rattle.std.specs.Prelude.{if◌then◌else◌, Option, Some, None, Result, Ok, Err}
use Rattle.std.specs.Option.{option_map_or}
use Rattle.std.specs.Result.{result_map_both}
use Rattle.std.specs.Str.{bytes_eq}
use Rattle.serde_json.specs.Data.{Data}
use Rattle.event_lines.specs.declared.command.Command.{Command}
use Rattle.event_lines.specs.declared.command.Command.TheVariants.{Add, Drop, Keep, Watch, Grace}
use Rattle.event_lines.specs.declared.command.Command.TheVariants.{Model, Paths, Slack, Report}
use Rattle.event_lines.specs.declared.command.Command.TheVariants.{Graph, Summarize}
use Rattle.event_lines.specs.declared.why.Why.{Why}
use Rattle.event_lines.specs.declared.why.Why.TheVariants.{Missing, WrongKind, OutOfRange}
use Rattle.event_lines.specs.declared.why.Why.TheVariants.{UnknownCommand}
use Rattle.event_lines.specs.Members.{has_member, text_at, is_whole_at, number_at}

-- a row of the table of commands: the text of do, the member that has the number where the command
-- takes one, and the command with a number
pub record CommandRow : Type 0 where
  pub name : List ℕ
  pub member : Option (List ℕ)
  pub command : ℕ → Command

-- the eleven commands
abbrev pub command_rows : List CommandRow
command_rows =
    record { name = codes "add"; member = None; command = λ _. Add }
    ∷ record { name = codes "drop"; member = Some (codes "day"); command = Drop }
    ∷ record { name = codes "keep"; member = Some (codes "days"); command = Keep }
    ∷ record { name = codes "watch"; member = Some (codes "every"); command = Watch }
    ∷ record { name = codes "grace"; member = Some (codes "micros"); command = Grace }
    ∷ record { name = codes "model"; member = None; command = λ _. Model }
    ∷ record { name = codes "paths"; member = None; command = λ _. Paths }
    ∷ record { name = codes "slack"; member = None; command = λ _. Slack }
    ∷ record { name = codes "report"; member = None; command = λ _. Report }
    ∷ record { name = codes "graph"; member = None; command = λ _. Graph }
    ∷ record { name = codes "summarize"; member = None; command = λ _. Summarize }
    ∷ []

-- the row with this name
abbrev pub command_row : List ℕ → Option CommandRow
command_row name = find (λ row. bytes_eq row.name name) command_rows

-- the greatest number of a command
abbrev pub most_command_number : ℕ
most_command_number = 1000000

-- a number from 0 to the greatest
abbrev pub ranged_number : ℕ → Result ℕ Why
ranged_number n = if nat_lt most_command_number n then Err OutOfRange else Ok n

-- the number that this member has, or the first reason that it is bad
abbrev pub number_result : List ℕ → Data → Result ℕ Why
number_result member d =
    if not (has_member member d) then Err Missing else (
    if not (is_whole_at member d) then Err WrongKind else
    option_map_or ranged_number (number_at member d) (Err OutOfRange))

-- the command of a row, or the first reason that its number is bad
abbrev pub row_result : CommandRow → Data → Result Command Why
row_result row d =
    result_map_both row.command (λ why. why)
    (option_map_or (λ member. number_result member d) row.member (Ok 0))

-- the command with this name, or why the line is bad
abbrev pub named_result : Data → List ℕ → Result Command Why
named_result d name =
    option_map_or (λ row. row_result row d) (command_row name) (Err UnknownCommand)

-- the command of a control line, or the first reason that the line is bad
abbrev pub command_result : Data → Result Command Why
command_result d = option_map_or (named_result d) (text_at (codes "do") d) (Err WrongKind)
