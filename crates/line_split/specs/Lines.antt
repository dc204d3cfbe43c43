-- The lines of the files, and what is made of each.
use Rattle.std.specs.Prelude.{ℕ, ◌≡◌, ◌+◌, List, [], ◌∷◌, ◌++◌, length, nat_lt, true, is_ok}
use Rattle.std.specs.Prelude.{if◌then◌else◌, Option, Some, None, Result, Ok, Err}
use Rattle.event_lines.specs.Cut.{input_lines, is_blank_line}
use Rattle.event_lines.specs.LineResults.{line_result}
use Rattle.event_lines.specs.declared.line.Line as said
use Rattle.event_lines.specs.declared.line.Line.TheVariants.{Event, Control}
use Rattle.event_lines.specs.declared.why.Why.{Why}
use Rattle.mystery_io.specs.Readings.{Reading}
use Rattle.line_split.specs.declared.reason.Reason.{Reason}
use Rattle.line_split.specs.declared.reason.Reason.TheVariants as reasons

-- a line of a file: the index of the file, from 0, the number of the line there, from 1, and its bytes
pub record FileLine : Type 0 where
  pub file : ℕ
  pub number : ℕ
  pub bytes : List ℕ

-- the lines of the file with this index, numbered from n on
abbrev pub lines_from : ℕ → ℕ → List (List ℕ) → List FileLine
lines_from file n [] = []
lines_from file n (line ∷ lines) =
    record { file = file; number = n; bytes = line } ∷ lines_from file (n + 1) lines

-- the lines of readings, whose files have the indexes from this one on: the lines of each file are
-- numbered from 1
abbrev pub lines_of_readings : ℕ → List Reading → List FileLine
lines_of_readings file [] = []
lines_of_readings file (r ∷ readings) =
    lines_from file 1 (input_lines r.bytes) ++ lines_of_readings (file + 1) readings

-- all lines that were read
abbrev pub all_lines : List Reading → List FileLine
all_lines readings = lines_of_readings 0 readings

-- the most bytes that a line may have: 64 MiB, as many as an input of `mystery`
abbrev pub longest_line : ℕ
longest_line = 67108864

-- the request of what a line says, or why it does not belong here
abbrev pub request_said : Result said.Line Why → Result (Option (List ℕ)) Reason
request_said (Ok (Event event)) = Ok (Some event.request)
request_said (Ok (Control line command)) = Err reasons.Control
request_said (Err why) = Err (reasons.Line why)

-- the request of a line, none where it is blank, or why it is bad. `line_result` judges it, as it
-- judges the lines of every input of `mystery`; the number that it is given does not matter here
abbrev pub request_of : List ℕ → Result (Option (List ℕ)) Reason
request_of line =
    if nat_lt longest_line (length line) then Err reasons.TooLong
    else (if is_blank_line line then Ok None else request_said (line_result 1 line))

-- a line is good: blank, or an event line
abbrev pub IsGood : FileLine → Type 0
IsGood line = is_ok (request_of line.bytes) ≡ true
