-- When a sheet is not added to a book.
use Rattle.std.specs.Prelude.{◌≡◌, ℕ}
use Rattle.pipeline_tests.specs.DaySheets.{SheetState}
use Rattle.day_partitions.specs.declared.book_fault.BookFault.{BookFault}
use Rattle.day_partitions.specs.declared.book_fault.BookFault.TheVariants.{Memory, TooManyDays}
use Rattle.day_partitions.specs.Books.{BookState, IsFull}

-- the sheet comes back, and there would be 65 days exactly where they are too many
abbrev pub IsBookFault : BookState → ℕ → SheetState → BookFault → Type 0
IsBookFault b day sheet (Memory s) = (s ≡ sheet) × (IsFull b day → ⊥)
IsBookFault b day sheet (TooManyDays s days) = (s ≡ sheet) × IsFull b day × (days ≡ 65)
