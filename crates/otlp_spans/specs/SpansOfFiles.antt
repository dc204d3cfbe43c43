-- The spans of a file: OpenTelemetry, "OpenTelemetry Protocol File Exporter", JSON lines; and one
-- value over several lines, as it is sent over HTTP.
use Rattle.std.specs.Prelude.{ℕ, List, [], ◌∷◌, is_some, Result, Ok, Err, if◌then◌else◌}
use Rattle.std.specs.Option.{option_map_or}
use Rattle.event_lines.specs.Cut.{input_lines}
use Rattle.event_lines.specs.InputLines.{numbered_lines}
use Rattle.span_text.specs.declared.why.Why.{Why}
use Rattle.span_text.specs.declared.why.Why.TheVariants.{NotJson}
use Rattle.span_text.specs.declared.placed.Fault.{Fault}
use Rattle.span_text.specs.declared.placed.Placed.{Placed}
use Rattle.span_text.specs.Outcomes.{gather}
use Rattle.span_text.specs.Parsing.{json_of}
use Rattle.span_text.specs.Places.{at_place}
use Rattle.otlp_values.specs.SpansOfOtlp.{spans_of_value}

-- the spans of the value that bytes are, which begins in line n
abbrev pub text_said : ℕ → List ℕ → Result (List Placed) Why
text_said n bytes = option_map_or (spans_of_value n) (json_of bytes) (Err NotJson)

-- the spans of a numbered line, or its fault
abbrev pub line_said : ℕ × List ℕ → Result (List Placed) Fault
line_said line = at_place line.0 (text_said line.0 line.1)

-- the spans of lines that are not blank
abbrev pub lines_said : List (ℕ × List ℕ) → Result (List Placed) Fault
lines_said lines = gather line_said lines

-- the spans of a file with these lines: a value a line, or one value where the first line is none
abbrev pub file_said : List ℕ → List (ℕ × List ℕ) → Result (List Placed) Fault
file_said bytes [] = Ok []
file_said bytes (line ∷ lines) =
    if is_some (json_of line.1) then lines_said (line ∷ lines) else line_said (line.0, bytes)

-- the spans of a file, each with the number of its line, or its first fault
abbrev pub spans_said : List ℕ → Result (List Placed) Fault
spans_said bytes = file_said bytes (numbered_lines 1 (input_lines bytes))
