-- Files that are written through buffers, one a file.
use Rattle.std.specs.Prelude.{ℕ, ◌≡◌, ◌+◌, ◌<◌, ◌≤◌, ◌==◌, ◌^◌, List, [], ◌++◌, length, map, slice_index_or}
use Rattle.std.specs.Prelude.{if◌then◌else◌}
use Rattle.output_files.specs.Written.{WrittenFile}
use Rattle.line_split.specs.declared.pending.Pending.{Pending}
use Rattle.line_split.specs.CommandLines.{Call}
use Rattle.line_split.specs.Lines.{FileLine}
use Rattle.line_split.specs.Parts.{Begins, file_at, file_count, part_file}

-- the bytes in the buffer with this index
abbrev pub buffer_at : Pending → ℕ → List ℕ
buffer_at pending index = slice_index_or (map (λ v. v.items) pending.buffers.items) index []

-- the bytes in each buffer
abbrev pub buffers_of : Pending → List (List ℕ)
buffers_of pending = map (λ v. v.items) pending.buffers.items

-- how many buffers there are
abbrev pub buffer_count : Pending → ℕ
buffer_count pending = length pending.buffers.items

-- a file with these bytes more
abbrev pub with_more : WrittenFile → List ℕ → WrittenFile
with_more file more = record { name = file.name; bytes = file.bytes ++ more }

-- files of which the one with this index has these bytes more
abbrev pub added : (ℕ → WrittenFile) → ℕ → List ℕ → ℕ → WrittenFile
added files index more j = if j == index then with_more (files j) more else files j

-- there is a file for each buffer, and its index fits 64 bits
pub record IsOver (written : List WrittenFile) (pending : Pending) : Type 0 where
  pub within : pending.base + buffer_count pending ≤ length written
  pub fits : pending.base + buffer_count pending < 2 ^ 64

-- after the files before them these were made, so many, and each has what was written to it and then
-- what is in its buffer
pub record TellsFiles (count : ℕ) (before : List WrittenFile) (files : ℕ → WrittenFile)
    (written : List WrittenFile) (pending : Pending) : Type 0 where
  pub made : List WrittenFile
  pub split : written ≡ before ++ made
  pub base : pending.base ≡ length before
  pub size : length made ≡ count
  pub many : buffer_count pending ≡ count
  pub each : (j : ℕ) → j < count → with_more (file_at made j) (buffer_at pending j) ≡ files j

-- after the files before them some of these were made, and each has the first bytes of its own
pub record BeginsFiles (most : ℕ) (before : List WrittenFile) (files : ℕ → WrittenFile)
    (written : List WrittenFile) : Type 0 where
  pub made : List WrittenFile
  pub split : written ≡ before ++ made
  pub few : length made ≤ most
  pub each : (j : ℕ) → j < length made → Begins (file_at made j) (files j)

-- after the files before them these were made, so many, and each is whole
pub record WholeFiles (count : ℕ) (before : List WrittenFile) (files : ℕ → WrittenFile)
    (written : List WrittenFile) : Type 0 where
  pub made : List WrittenFile
  pub split : written ≡ before ++ made
  pub size : length made ≡ count
  pub each : (j : ℕ) → j < count → file_at made j ≡ files j

-- the files of a call have these lines
abbrev pub Tells : Call → List WrittenFile → List FileLine → List WrittenFile → Pending → Type 0
Tells call before lines written pending =
    TellsFiles (file_count call) before (part_file call lines) written pending

-- the files of a call were begun with these lines
abbrev pub IsBegun : Call → List WrittenFile → List FileLine → List WrittenFile → Type 0
IsBegun call before lines written =
    BeginsFiles (file_count call) before (part_file call lines) written
