-- Sheets of several days that are added to a book at once.
use Rattle.std.specs.Prelude.{◌≡◌, ℕ, ◌+◌, ◌^◌, ◌<◌, ◌≤◌, false, not, List, [], ◌∷◌, length, All, AllPairs}
use Rattle.std.specs.Prelude.{count_by, sum_by}
use Rattle.day_partitions.specs.Books.{BookState, KeptDay, all_traces, has_day, with_added}
use Rattle.day_partitions.specs.Books.{IsSheetOf}
use Rattle.day_partitions.specs.declared.add_all_fault.AddAllFault.{AddAllFault}
use Rattle.day_partitions.specs.declared.add_all_fault.AddAllFault.TheVariants.{Memory, TooManyDays}
use Rattle.day_partitions.specs.declared.dated_sheet.DatedSheet.{DatedSheet}

-- the book with one sheet after another added
abbrev pub with_all : BookState → List DatedSheet → BookState
with_all b [] = b
with_all b (s ∷ ss) = with_all (with_added b s.day s.sheet.traces) ss

-- how many of the sheets are of a day that is not kept
abbrev pub new_days : List KeptDay → List DatedSheet → ℕ
new_days days sheets = count_by (λ (s : DatedSheet). not (has_day days s.day)) sheets

-- how many traces the sheets have together
abbrev pub trace_count : List DatedSheet → ℕ
trace_count sheets = sum_by (λ (s : DatedSheet). length s.sheet.traces) sheets

-- the days of the sheets rise, each sheet is one for the book, and all traces together are fewer
-- than 4,294,967,296
pub record AreSheetsFor (b : BookState) (sheets : List DatedSheet) : Type 0 where
  pub rising : AllPairs (λ (r s : DatedSheet). r.day < s.day) sheets
  pub each : All (λ (s : DatedSheet). IsSheetOf b.names s.day s.sheet) sheets
  pub counted : length (all_traces b.days) + trace_count sheets < 2 ^ 32

-- no sheet is of a day that is kept
abbrev pub AreNoneKept : List KeptDay → List DatedSheet → Type 0
AreNoneKept days sheets = All (λ (s : DatedSheet). has_day days s.day ≡ false) sheets

-- no sheet is of a day that is kept, and there is a spare row for each
pub record AreAllNew (b : BookState) (sheets : List DatedSheet) : Type 0 where
  pub none_kept : AreNoneKept b.days sheets
  pub rows : length sheets ≤ b.spare

-- the kept days and the new ones are at most 64 together
abbrev pub HasRoomFor : BookState → List DatedSheet → Type 0
HasRoomFor b sheets = (length b.days + new_days b.days sheets) ≤ 64

-- the sheets come back, and there would be so many days exactly where they are too many
abbrev pub IsBatchFault : BookState → List DatedSheet → AddAllFault → Type 0
IsBatchFault b sheets (Memory back) = (back.items ≡ sheets) × HasRoomFor b sheets
IsBatchFault b sheets (TooManyDays back days) =
    (back.items ≡ sheets) × (64 < days) × (days ≡ length b.days + new_days b.days sheets)
