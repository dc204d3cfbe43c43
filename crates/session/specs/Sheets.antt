-- What is recorded of the valid traces of a batch.
use Rattle.std.specs.Prelude.{◌≡◌, ℕ, ◌*◌, List, All, Contains, length, map}
use Rattle.std.specs.List.{AllZip}
use Rattle.std.specs.Ordering.{nat_cmp}
use Rattle.batch_sheets.specs.declared.recording.DayLines.{DayLines}
use Rattle.book_laws.specs.BookLaws.{AreSheetsOf}
use Rattle.book_laws.specs.Shown.{AreShown}
use Rattle.day_partitions.specs.Books.{IsSheetOf}
use Rattle.day_partitions.specs.declared.dated_sheet.DatedSheet.{DatedSheet}
use Rattle.segment_names.specs.Known.{Known}
use Rattle.session_rules.specs.KeptTraces.{Kept, by_kept, day_of, kept_with, traces_on}
use Rattle.trace_rules.specs.WatchLines.{AreWatchLines}
use Rattle.trace_types.specs.Listing.{ListsExactly}
use Rattle.trace_types.specs.declared.named_trace.NamedTrace.{NamedTrace}
use Rattle.trace_types.specs.declared.trace.Trace.{Trace}

-- the watch lines of the traces of this day
pub record AreLinesOn (every workers : ℕ) (traces : List Kept) (day : ℕ) (watched : DayLines)
    : Type 0 where
  pub same : watched.day ≡ day
  pub lines : AreWatchLines by_kept every workers (traces_on day traces) watched.lines

-- the sheets and the watch lines of kept traces, which the catalogue names: one for each of their
-- days, rising
pub record AreSheets (known : Known) (workers every : ℕ) (kept : List Kept)
    (sheets : List DatedSheet) (watched : List DayLines) : Type 0 where
  pub named : List NamedTrace
  pub shown : AreShown known named kept
  pub parts : AreSheetsOf sheets named
  pub fit : All (λ (s : DatedSheet). IsSheetOf (length known.names) s.day s.sheet) sheets
  pub days : List ℕ
  pub days_are : ListsExactly nat_cmp (Contains (map day_of kept)) days
  pub lines : AllZip (AreLinesOn every workers kept) days watched

-- the traces with this grace, in microseconds
abbrev pub graced_by : ℕ → List Trace → List Kept
graced_by micros valid = map (kept_with (1000 * micros)) valid
