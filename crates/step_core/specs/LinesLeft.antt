-- What is left of bytes that are cut at a separator, and of their lines.
use Rattle.std.specs.Prelude.{ℕ, ◌+◌, List, [], length, Bool, Option, Some, None}
use Rattle.std.specs.List.{slice_split}
use Rattle.event_lines.specs.Cut.{is_line_feed}
use Rattle.event_lines.specs.InputLines.{numbered_lines}

-- the parts of bytes that are left around separators; none where no bytes are left
abbrev pub parts_left : (ℕ → Bool) → Option (List ℕ) → List (List ℕ)
parts_left separates None = []
parts_left separates (Some bytes) = slice_split separates bytes

-- one more than the number of bytes that are left; 0 where none are
abbrev pub room_left : Option (List ℕ) → ℕ
room_left None = 0
room_left (Some bytes) = length bytes + 1

-- the lines that are not blank, in what is left, the first of all having this number
abbrev pub lines_left : ℕ → Option (List ℕ) → List (ℕ × List ℕ)
lines_left number rest = numbered_lines number (parts_left is_line_feed rest)
