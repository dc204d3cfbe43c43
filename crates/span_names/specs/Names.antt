-- The names that spans give to tasks, events and machines.
use Rattle.std.specs.Prelude.{ℕ, ◌==◌, ◌+◌, ◌/◌, ◌%◌, ◌&&◌, ◌||◌, ◌++◌, List, [], ◌∷◌}
use Rattle.std.specs.Prelude.{Bool, false, not, Option, Some, None, codes, decimal, length}
use Rattle.std.specs.Prelude.{nat_lt, take, drop, if◌then◌else◌}
use Rattle.std.specs.Char.{is_ascii_digit}
use Rattle.std.specs.List.{flat_map, list_all, position_or_len}
use Rattle.span_names.specs.declared.piece.Piece.{Piece}
use Rattle.task_pieces.specs.PieceNames.{cut_length, is_number_sign}

-- a digit in base 16, in upper case
abbrev pub hex_digit : ℕ → ℕ
hex_digit n = if nat_lt n 10 then 48 + n else 55 + n

-- a byte that does not stand as it is: a per cent sign, an at sign, a control character
abbrev pub is_escaped : ℕ → Bool
is_escaped byte = byte == 37 || (byte == 64 || (nat_lt byte 32 || byte == 127))

-- what stands for a byte: a per cent sign and two digits where it does not stand as it is
abbrev pub escaped_byte : ℕ → List ℕ
escaped_byte byte =
    if is_escaped byte then 37 ∷ hex_digit (byte / 16) ∷ hex_digit (byte % 16) ∷ [] else byte ∷ []

-- what stands for a text; no two texts have one
abbrev pub escaped : List ℕ → List ℕ
escaped text = flat_map escaped_byte text

-- the most bytes that are kept of the name of a task, and of an event or a machine
abbrev pub most_of_task : ℕ
most_of_task = 40

abbrev pub most_of_event : ℕ
most_of_event = 48

-- the base of a name: a text escaped, and cut between characters after at most so many bytes
abbrev pub base_of : ℕ → List ℕ → List ℕ
base_of most text = take (cut_length (escaped text) most) (escaped text)

-- one digit at least, and nothing else
abbrev pub is_number : List ℕ → Bool
is_number text = not (length text == 0) && list_all is_ascii_digit text

-- where a byte first stands in a text, or the text's length
abbrev pub place_of : ℕ → List ℕ → ℕ
place_of byte text = position_or_len (λ c. c == byte) text

-- what stands before and behind a place in a text, of which each passes
abbrev pub are_parts_at : ℕ → (first second : List ℕ → Bool) → List ℕ → Bool
are_parts_at at first second text = nat_lt at (length text)
    && (first (take at text) && second (drop (at + 1) text))

-- a piece: a number, or two with a point between them
abbrev pub is_piece : List ℕ → Bool
is_piece text = is_number text || are_parts_at (place_of 46 text) is_number is_number text

-- what follows the number sign in a numbered name: a number, or a number, a slash and a piece
abbrev pub is_numbering : List ℕ → Bool
is_numbering text = is_number text || are_parts_at (place_of 47 text) is_number is_piece text

-- the text ends as a numbered name does: with a number sign and a numbering
abbrev pub looks_numbered : List ℕ → Bool
looks_numbered [] = false
looks_numbered (byte ∷ text) = (is_number_sign byte && is_numbering text) || looks_numbered text

-- a gap's number, behind a point
abbrev pub gap_text : Option ℕ → List ℕ
gap_text None = []
gap_text (Some gap) = codes "." ++ decimal gap

-- a piece behind a slash; the first piece has no text
abbrev pub piece_text : Option Piece → List ℕ
piece_text None = []
piece_text (Some piece) = codes "/" ++ decimal piece.number ++ gap_text piece.gap

-- the first piece of what is first with its base has no number, unless the base looks numbered
abbrev pub stands_alone : List ℕ → ℕ → Option Piece → Bool
stands_alone base number None = number == 1 && not (looks_numbered base)
stands_alone base number (Some piece) = false

-- the name with a base, its number among those with the same base, from 1, and a piece
abbrev pub numbered : List ℕ → ℕ → Option Piece → List ℕ
numbered base number piece =
    if stands_alone base number piece then base
    else base ++ codes "#" ++ decimal number ++ piece_text piece
