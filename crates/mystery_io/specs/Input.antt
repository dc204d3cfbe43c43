-- The input: the bytes of files, one file after another, each ending its last line.
use Rattle.std.specs.Prelude.{ℕ, ◌-◌, List, [], ◌∷◌, ◌++◌, ◌==◌, ◌||◌, length, slice_index, Bool}
use Rattle.std.specs.Prelude.{if◌then◌else◌}
use Rattle.std.specs.List.{flat_map}
use Rattle.mystery_io.specs.Readings.{Reading}

-- the most bytes that an input may have: 64 MiB
abbrev pub input_limit : ℕ
input_limit = 67108864

-- the bytes are none, or their last is a line feed
abbrev pub ends_line : List ℕ → Bool
ends_line bytes = length bytes == 0 || slice_index bytes (length bytes - 1) == 10

-- the bytes, and a line feed where they end in an unfinished line
abbrev pub ended : List ℕ → List ℕ
ended bytes = if ends_line bytes then bytes else bytes ++ 10 ∷ []

-- the input of a list of names: the ended contents of each, in this order
abbrev pub input_of : (List ℕ → List ℕ) → List (List ℕ) → List ℕ
input_of contents names = flat_map (λ name. ended (contents name)) names

-- what a reading brings to the input: its bytes, and once it came to the end that of its last line
abbrev pub bytes_read : Reading → List ℕ
bytes_read r = if r.at_end then ended r.bytes else r.bytes

-- the input that was read: what each reading brings, in their order
abbrev pub input_read : List Reading → List ℕ
input_read readings = flat_map bytes_read readings
