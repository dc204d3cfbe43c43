-- When an entry is not added to a journal.
use Rattle.std.specs.Prelude.{◌≡◌, ℕ, ◌<◌, false, List, length}
use Rattle.day_partitions.specs.Books.{KeptDay, has_day}
use Rattle.pipeline_tests.specs.DaySheets.{SheetState}
use Rattle.live_journal.specs.declared.entry.Entry.{Entry}
use Rattle.live_journal.specs.declared.deed_fault.DeedFault.{DeedFault}
use Rattle.live_journal.specs.declared.deed_fault.DeedFault.TheVariants.{Memory as DeedMemory}
use Rattle.live_journal.specs.declared.deed_fault.DeedFault.TheVariants.{JournalFull as DeedJournalFull}
use Rattle.live_journal.specs.declared.roll_fault.RollFault.{RollFault}
use Rattle.live_journal.specs.declared.roll_fault.RollFault.TheVariants.{Memory, JournalFull}
use Rattle.live_journal.specs.declared.roll_fault.RollFault.TheVariants.{TooManyDays}
use Rattle.live_journal.specs.Replays.{replay}

-- 64 days are kept, and this is none of them
abbrev pub IsOneTooMany : List KeptDay → ℕ → Type 0
IsOneTooMany days day = (length days ≡ 64) × (has_day days day ≡ false)

-- the sheet comes back; the journal has 10,000 entries exactly where it is full, and else 64 other
-- days are kept exactly where there would be 65
abbrev pub IsRollFault : List Entry → ℕ → SheetState → RollFault → Type 0
IsRollFault entries day sheet (Memory back) = (back ≡ sheet) × (length entries < 10000)
    × (IsOneTooMany (replay entries) day → ⊥)
IsRollFault entries day sheet (JournalFull back count) = (back ≡ sheet)
    × (length entries ≡ 10000) × (count ≡ 10000)
IsRollFault entries day sheet (TooManyDays back days) = (back ≡ sheet) × (length entries < 10000)
    × IsOneTooMany (replay entries) day × (days ≡ 65)

-- the journal has 10,000 entries exactly where it is full
abbrev pub IsDeedFault : List Entry → DeedFault → Type 0
IsDeedFault entries DeedMemory = length entries < 10000
IsDeedFault entries (DeedJournalFull count) = (length entries ≡ 10000) × (count ≡ 10000)
