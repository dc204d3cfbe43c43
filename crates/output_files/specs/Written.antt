-- Files that were made, and what was written to them.
use Rattle.std.specs.Prelude.{ℕ, ◌≡◌, zero, suc, List, [], ◌∷◌, ◌++◌, take, Result, Ok, Err}
use Rattle.mystery_io.specs.Counts.{counted_up}
use Rattle.output_files.specs.declared.create_fault.CreateFault.{CreateFault}
use Rattle.output_files.specs.declared.create_fault.CreateFault.TheVariants.{Memory, Failed}

-- a file: the name under which it was made, and all bytes that were written to it since
pub record WrittenFile : Type 0 where
  pub name : List ℕ
  pub bytes : List ℕ

-- the files after one more was made
abbrev pub after_create : List WrittenFile → List ℕ → List WrittenFile
after_create files name = files ++ record { name = name; bytes = [] } ∷ []

-- the files after these bytes were appended to the one with this index
abbrev pub after_write : List WrittenFile → ℕ → List ℕ → List WrittenFile
after_write [] index more = []
after_write (file ∷ files) zero more =
    record { name = file.name; bytes = file.bytes ++ more } ∷ files
after_write (file ∷ files) (suc index) more = file ∷ after_write files index more

-- the count of faults after making a file: one more where that failed, and unchanged otherwise
abbrev pub create_faults : {T : Type 0} → Result T CreateFault → ℕ → ℕ
create_faults (Ok x) count = count
create_faults (Err Memory) count = count
create_faults (Err Failed) count = counted_up count

-- a prefix of the bytes was appended to the file with this index: the first `count` of them
pub record WritesPrefix (before : List WrittenFile) (index : ℕ) (bytes : List ℕ)
    (now : List WrittenFile) : Type 0 where
  pub count : ℕ
  pub written : now ≡ after_write before index (take count bytes)
