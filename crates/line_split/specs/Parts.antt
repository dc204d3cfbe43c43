-- The parts: which lines stand in each, and where each comes from.
use Rattle.std.specs.Prelude.{ℕ, ◌≡◌, ◌+◌, ◌-◌, ◌/◌, ◌%◌, ◌^◌, ◌<◌, ◌≤◌, ◌==◌, List, [], ◌∷◌, ◌++◌}
use Rattle.std.specs.Prelude.{Bool, false, true, codes, decimal, filter, length, min, nat_lt}
use Rattle.std.specs.Prelude.{if◌then◌else◌, Option, Some, None, Result, Ok, Err, slice_index_or}
use Rattle.std.specs.List.{flat_map}
use Rattle.byteorder.specs.Endian.{big_number}
use Rattle.sha2.specs.Sha256.{sha256}
use Rattle.output_files.specs.Written.{WrittenFile}
use Rattle.line_split.specs.declared.reason.Reason.{Reason}
use Rattle.line_split.specs.CommandLines.{Call}
use Rattle.line_split.specs.Lines.{FileLine, request_of}

-- the part of a request among n parts, counted from 0: the number in the first eight bytes of the
-- SHA-256 digest of the seed and then the request, the highest byte first, by its remainder
abbrev pub part_of : ℕ → List ℕ → List ℕ → ℕ
part_of n seed request = big_number 8 (sha256 (seed ++ request)) % n

-- a line with this request stands in the part; one with none stands in no part
abbrev pub has_part : Call → ℕ → Result (Option (List ℕ)) Reason → Bool
has_part call part (Ok (Some request)) = part_of call.parts call.seed request == part
has_part call part (Ok None) = false
has_part call part (Err why) = false

-- the line stands in the part
abbrev pub is_in_part : Call → ℕ → FileLine → Bool
is_in_part call part line = has_part call part (request_of line.bytes)

-- the control line in front of each part, where it is to have one
abbrev pub grace_line : Option ℕ → List ℕ
grace_line None = []
grace_line (Some micros) =
    codes "{\"do\":\"grace\",\"micros\":" ++ decimal micros ++ codes "}\n"

-- the row of the origins for that control line, which comes from no file: two zeros
abbrev pub grace_origin : Option ℕ → List ℕ
grace_origin None = []
grace_origin (Some micros) = codes "0\t0\n"

-- the number of a line as it is told: itself, or 2^64 - 1 where it is greater
abbrev pub counted : ℕ → ℕ
counted number = min number (2 ^ 64 - 1)

-- the row of a part that a line makes: its bytes, and a line feed
abbrev pub line_row : FileLine → List ℕ
line_row line = line.bytes ++ 10 ∷ []

-- the row of the origins: the number of its file, from 1 as in the arguments, a tab, and its number
-- there
abbrev pub origin_row : FileLine → List ℕ
origin_row line = decimal (line.file + 1) ++ codes "\t" ++ decimal (counted line.number) ++ codes "\n"

-- a part of these lines: those that stand in it, in their order
abbrev pub part_text : Call → List FileLine → ℕ → List ℕ
part_text call lines part =
    grace_line call.grace ++ flat_map line_row (filter (is_in_part call part) lines)

-- the origins of a part: where each line that stands in it comes from, in the same order
abbrev pub origins_text : Call → List FileLine → ℕ → List ℕ
origins_text call lines part =
    grace_origin call.grace ++ flat_map origin_row (filter (is_in_part call part) lines)

-- a number below 1000 in three digits
abbrev pub three_digits : ℕ → List ℕ
three_digits n = decimal (n / 100) ++ decimal (n / 10 % 10) ++ decimal (n % 10)

-- the name of a part: the prefix, and the part's number in three digits, from 000
abbrev pub part_name : Call → ℕ → List ℕ
part_name call part = call.prefix ++ three_digits part

-- the name of the origins of a part: that of the part, and an ending
abbrev pub origins_name : Call → ℕ → List ℕ
origins_name call part = part_name call part ++ codes ".origins"

-- how many files are made: two a part
abbrev pub file_count : Call → ℕ
file_count call = call.parts + call.parts

-- the name of the file with this index, from 0, of those that are made: first come all parts, and
-- then the origins of each
abbrev pub made_name : Call → ℕ → List ℕ
made_name call index =
    if nat_lt index call.parts then part_name call index
    else origins_name call (index - call.parts)

-- the whole text of the file with this index, made of these lines
abbrev pub made_text : Call → List FileLine → ℕ → List ℕ
made_text call lines index =
    if nat_lt index call.parts then part_text call lines index
    else origins_text call lines (index - call.parts)

-- the file with this index, with its whole text
abbrev pub part_file : Call → List FileLine → ℕ → WrittenFile
part_file call lines index =
    record { name = made_name call index; bytes = made_text call lines index }

-- the file with this index of a list, from 0
abbrev pub file_at : List WrittenFile → ℕ → WrittenFile
file_at files index = slice_index_or files index (record { name = []; bytes = [] })

-- these files were made, and each has its whole text
pub record ArePartsOf (call : Call) (lines : List FileLine) (made : List WrittenFile)
    : Type 0 where
  pub count : length made ≡ file_count call
  pub each : (index : ℕ) → index < file_count call
      → file_at made index ≡ part_file call lines index

-- a file has the name of another, and its bytes are the first of that one's
pub record Begins (file whole : WrittenFile) : Type 0 where
  pub named : file.name ≡ whole.name
  pub rest : List ℕ
  pub split : whole.bytes ≡ file.bytes ++ rest

-- the first of these files were made, and each has the first bytes of its text
pub record AreBegun (call : Call) (lines : List FileLine) (made : List WrittenFile)
    : Type 0 where
  pub few : length made ≤ file_count call
  pub each : (index : ℕ) → index < length made
      → Begins (file_at made index) (part_file call lines index)

-- the line stands in one of the parts, and in no other
pub record IsOnePart (call : Call) (line : FileLine) : Type 0 where
  pub part : ℕ
  pub within : part < call.parts
  pub stands : is_in_part call part line ≡ true
  pub alone : (other : ℕ) → is_in_part call other line ≡ true → other ≡ part
