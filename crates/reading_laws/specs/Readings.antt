-- What is written of event lines is read again: statements that laws prove.
use Rattle.std.specs.Prelude.{ℕ, ◌≡◌, ◌≤◌, ◌<◌, ◌^◌, ◌+◌, List, [], ◌∷◌, length, false, ⊤}
use Rattle.std.specs.Prelude.{Option, Some, None, Ok}
use Rattle.std.specs.List.{All}
use Rattle.std.specs.Str.{IsUtf8}
use Rattle.trace_types.specs.Times.{latest_time}
use Rattle.trace_types.specs.declared.event.Event as events
use Rattle.event_lines.specs.Commands.{most_command_number}
use Rattle.event_lines.specs.EventFaults.{is_bad_text}
use Rattle.event_lines.specs.GoodLines.{number_of_command}
use Rattle.event_lines.specs.InputLines.{lines_said}
use Rattle.event_lines.specs.declared.line.Line.{Line}
use Rattle.event_lines.specs.declared.line.Line.TheVariants.{Control, Event}
use Rattle.event_rewrite.specs.WithoutWaits.{without_waits}
use Rattle.event_text.specs.LineTexts.{lines_text}
use Rattle.import_run.specs.Inputs.{files_said}

-- a text that a line may have: 1 to 64 bytes of UTF-8 without control characters
pub record IsGoodText (text : List ℕ) : Type 0 where
  pub utf8 : IsUtf8 text
  pub good : is_bad_text text ≡ false

-- a message that it may have, or none
abbrev pub IsGoodMessage : Option (List ℕ) → Type 0
IsGoodMessage None = ⊤
IsGoodMessage (Some message) = IsGoodText message

-- an event that a line may say
pub record IsGoodEvent (e : events.Event) : Type 0 where
  pub request : IsGoodText e.request
  pub machine : IsGoodText e.machine
  pub task : IsGoodText e.task
  pub event : IsGoodText e.event
  pub send : IsGoodMessage e.send
  pub recv : IsGoodMessage e.recv
  pub timely : e.time ≤ latest_time

-- a line that is good wherever it stands
abbrev pub IsGoodLine : Line → Type 0
IsGoodLine (Event event) = IsGoodEvent event
IsGoodLine (Control line command) = number_of_command command ≤ most_command_number

-- a line under another number
abbrev pub with_number : ℕ → Line → Line
with_number n (Event event) = Event (record event { line = n })
with_number n (Control line command) = Control n command

-- lines under the numbers from n on
abbrev pub numbered_from : ℕ → List Line → List Line
numbered_from n [] = []
numbered_from n (line ∷ lines) = with_number n line ∷ numbered_from (n + 1) lines

-- what an input without a bad line says is good
abbrev pub WhatIsSaidIsGood : Type 0
WhatIsSaidIsGood =
    (bytes : List ℕ) (lines : List Line) → lines_said bytes ≡ Ok lines → All IsGoodLine lines

-- the text of good lines says them, under their numbers in the text
abbrev pub GoodLinesAreReadAgain : Type 0
GoodLinesAreReadAgain = (lines : List Line) → All IsGoodLine lines
    → lines_said (lines_text lines) ≡ Ok (numbered_from 1 lines)

-- good lines without waits are good
abbrev pub WithoutWaitsIsGood : Type 0
WithoutWaitsIsGood = (lines : List Line) → length lines < 2 ^ 31 → All IsGoodLine lines
    → All IsGoodLine (without_waits lines)

-- so what is written of the lines of files has no bad line, and says them without waits
abbrev pub WhatIsWrittenIsRead : Type 0
WhatIsWrittenIsRead = (inputs : List (List ℕ)) (lines : List Line) → files_said inputs ≡ Ok lines
    → length lines < 2 ^ 31
    → lines_said (lines_text (without_waits lines)) ≡ Ok (numbered_from 1 (without_waits lines))
