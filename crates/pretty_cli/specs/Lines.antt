-- Lines in columns, and where they are cut.
use Rattle.std.specs.Prelude.{ℕ, ◌≡◌, ◌≤◌, ◌<◌, ◌-◌, ◌/◌, ◌++◌, [], List, false, chars, codes}
use Rattle.std.specs.Prelude.{decimal, encode_utf8, replicate, take}
use Rattle.std.specs.List.{flat_map}
use Rattle.unicode_width.specs.Width.{str_width}
use Rattle.pretty_cli.specs.declared.cell.Cell.{Cell}
use Rattle.pretty_cli.specs.declared.cell.Cell.TheVariants.{Absent, Empty, Count, Time, Difference}
use Rattle.pretty_cli.specs.declared.cell.Cell.TheVariants.{Share}
use Rattle.pretty_cli.specs.Durations.{difference_text, duration_text, share_text}

-- how many columns of a terminal a text takes
abbrev pub width_of : List ℕ → ℕ
width_of text = str_width false (chars text)

-- what stands in a column
abbrev pub cell_text : Cell → List ℕ
cell_text Absent = []
cell_text Empty = []
cell_text (Count number) = decimal number
cell_text (Time nanos) = duration_text nanos
cell_text (Difference first second) = difference_text first second
cell_text (Share part total) = share_text part total

-- a text at the right end of a column of eight, and the two spaces behind it
abbrev pub set_text : List ℕ → List ℕ
set_text text = replicate (8 - width_of text) 32 ++ text ++ codes "  "

-- a column of a line; nothing where there is none
abbrev pub set_cell : Cell → List ℕ
set_cell Absent = []
set_cell cell = set_text (cell_text cell)

-- how many columns a line of so many has: they take no more than half of it
abbrev pub columns_within : ℕ → ℕ
columns_within limit = limit / 20

-- a line before it is cut: its columns, and the label behind them
abbrev pub whole_line : ℕ → List Cell → List ℕ → List ℕ
whole_line limit cells label = flat_map set_cell (take (columns_within limit) cells) ++ label

-- the line is the beginning of the whole one that fits the limit, and with its next character it
-- would not; one that fits is whole
pub record IsCut (limit : ℕ) (whole line : List ℕ) : Type 0 where
  pub narrow : width_of line ≤ limit
  pub rest : List ℕ
  pub split : whole ≡ line ++ rest
  pub uncut : width_of whole ≤ limit → line ≡ whole
  pub longest : (c : ℕ) (more : List ℕ) → rest ≡ encode_utf8 c ++ more
      → limit < width_of (line ++ encode_utf8 c)

-- the line of columns and a label
abbrev pub IsLine : ℕ → List Cell → List ℕ → List ℕ → Type 0
IsLine limit cells label line = IsCut limit (whole_line limit cells label) line
