-- Files in memory of which one may be open.
use Rattle.std.specs.Prelude.{ℕ, Bool, List, [], Option, Some, None, slice_get, drop, length, ◌-◌}
use Rattle.std.specs.Prelude.{◌≤◌, ◌≡◌}
use Rattle.std.specs.Option.{option_map_or}
use Rattle.mystery_io.specs.declared.mem_file.MemFile.{MemFile}

-- files, what is left of the open one, and whether one is open
pub record OpenState : Type 0 where
  pub files : List MemFile
  pub left : List ℕ
  pub is_open : Bool

-- the bytes of the file at an index, none past the end
abbrev pub bytes_at : List MemFile → ℕ → List ℕ
bytes_at files index = option_map_or (λ (file : MemFile). file.bytes) (slice_get files index) []

-- the last bytes, so many, of the open file at an index, none where no file is open
abbrev pub left_of : List MemFile → Option ℕ → ℕ → List ℕ
left_of files None count = []
left_of files (Some index) count =
    drop (length (bytes_at files index) - count) (bytes_at files index)

-- the open file has at least so many bytes
abbrev pub HasBytes : List MemFile → Option ℕ → ℕ → Type 0
HasBytes files None count = count ≡ 0
HasBytes files (Some index) count = count ≤ length (bytes_at files index)

-- how many bytes the open file has
abbrev pub size_at : List MemFile → Option ℕ → ℕ
size_at files None = 0
size_at files (Some index) = length (bytes_at files index)
