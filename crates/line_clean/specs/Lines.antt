-- The lines of the files, which of them are good, and the text of these.
use Rattle.std.specs.Prelude.{ℕ, ◌&&◌, ◌++◌, List, [], ◌∷◌, Bool, filter, is_ok, length}
use Rattle.std.specs.Prelude.{nat_le, not}
use Rattle.std.specs.List.{flat_map}
use Rattle.event_lines.specs.Cut.{input_lines, is_blank_line}
use Rattle.event_lines.specs.LineResults.{line_result}
use Rattle.mystery_io.specs.Input.{input_limit}
use Rattle.mystery_io.specs.Readings.{Reading}

-- a line is good: it is not blank, it has at most as many bytes as an input may have, 64 MiB, and
-- it says an event or a command. `line_result` judges it, as it judges the lines of every input of
-- `mystery`; the number that it is given does not matter here
abbrev pub is_good : List ℕ → Bool
is_good line =
    not (is_blank_line line) && (nat_le (length line) input_limit && is_ok (line_result 1 line))

-- the lines that were read: those of each file, one file after another
abbrev pub lines_read : List Reading → List (List ℕ)
lines_read readings = flat_map (λ (r : Reading). input_lines r.bytes) readings

-- a line as it is printed: its bytes as they stand, and a line feed
abbrev pub line_row : List ℕ → List ℕ
line_row line = line ++ 10 ∷ []

-- what is printed of lines: the good ones, in their order
abbrev pub clean_text : List (List ℕ) → List ℕ
clean_text lines = flat_map line_row (filter is_good lines)
