-- The lines of a file that are left.
use Rattle.std.specs.Prelude.{ℕ, ◌+◌, ◌<◌, ◌^◌, List, [], length, filter, not}
use Rattle.std.specs.List.{enumerate_from}
use Rattle.std.specs.Option.{option_map_or}
use Rattle.event_lines.specs.Cut.{input_lines, is_blank_line}
use Rattle.otlp_spans.specs.declared.line_cuts.LinesLeft.{LinesLeft}
use Rattle.otlp_spans.specs.declared.line_cuts.NumberedLine.{NumberedLine}

-- a line and its number
abbrev pub line_view : NumberedLine → ℕ × List ℕ
line_view line = (line.number, line.bytes.now)

-- the lines that are left, each with its number
abbrev pub all_left : LinesLeft → List (ℕ × List ℕ)
all_left lines =
    option_map_or (λ rest. enumerate_from lines.number (input_lines rest.now)) lines.rest []

-- those that are not blank
abbrev pub lines_left : LinesLeft → List (ℕ × List ℕ)
lines_left lines = filter (λ line. not (is_blank_line line.1)) (all_left lines)

-- the numbers of the lines that are left fit 64 bits
abbrev pub AreFew : LinesLeft → Type 0
AreFew lines = lines.number + option_map_or (λ rest. length rest.now) lines.rest 0 < 2 ^ 64
