-- The bytes of files in memory by name.
use Rattle.std.specs.Prelude.{ℕ, List, [], Option, find}
use Rattle.std.specs.Option.{option_map_or}
use Rattle.std.specs.Str.{bytes_eq}
use Rattle.mystery_io.specs.declared.mem_file.MemFile.{MemFile}

-- the first file with this name
abbrev pub file_named : List MemFile → List ℕ → Option MemFile
file_named files name = find (λ (file : MemFile). bytes_eq file.name name) files

-- the bytes of the first file with this name, none where there is no such file
abbrev pub bytes_named : List MemFile → List ℕ → List ℕ
bytes_named files name = option_map_or (λ (file : MemFile). file.bytes) (file_named files name) []
