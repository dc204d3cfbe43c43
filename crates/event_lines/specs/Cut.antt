-- How the bytes of the input are cut into lines, and which lines are blank.
use Rattle.std.specs.Prelude.{ℕ, ◌==◌, ◌||◌, List, Bool}
use Rattle.std.specs.List.{slice_split, list_all}

-- the byte that ends a line
abbrev pub is_line_feed : ℕ → Bool
is_line_feed byte = byte == 10

-- the lines of an input: the parts of its bytes around the line feeds, one more than these
abbrev pub input_lines : List ℕ → List (List ℕ)
input_lines bytes = slice_split is_line_feed bytes

-- a space, a tab or a carriage return
abbrev pub is_blank_byte : ℕ → Bool
is_blank_byte byte = byte == 32 || byte == 9 || byte == 13

-- a line of spaces, tabs and carriage returns alone; the empty line is one
abbrev pub is_blank_line : List ℕ → Bool
is_blank_line line = list_all is_blank_byte line
