-- The states of files in memory.
use Rattle.std.specs.Prelude.{ℕ, Bool, List}
use Rattle.mystery_io.specs.Readings.{Reading}
use Rattle.mystery_io.specs.declared.mem_file.MemFile.{MemFile}

-- files of which a read gives at most so many bytes, the numbers of the calls that fail, what is
-- left of the open file and whether one is open, what the calls gave, and how many calls, opens and
-- faults there were
pub record FilesState : Type 0 where
  pub files : List MemFile
  pub most : ℕ
  pub failing : List ℕ
  pub left : List ℕ
  pub is_open : Bool
  pub given : List Reading
  pub calls : ℕ
  pub opens : ℕ
  pub faults : ℕ

-- files that never fail: the same without a plan
pub record SureState : Type 0 where
  pub files : List MemFile
  pub left : List ℕ
  pub is_open : Bool
  pub given : List Reading
  pub opens : ℕ
