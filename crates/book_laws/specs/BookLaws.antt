-- What each change of a book does to the kept traces that it has, over the definitions alone.
use Rattle.std.specs.Prelude.{◌≡◌, ℕ, ◌<◌, ◌+◌, List, length, map, All, AllPairs, Contains}
use Rattle.day_partitions.specs.Batches.{new_days, with_all}
use Rattle.day_partitions.specs.Books.{BookState, IsBook, all_traces, traces_kept_on}
use Rattle.day_partitions.specs.Books as books
use Rattle.day_partitions.specs.declared.dated_sheet.DatedSheet.{DatedSheet}
use Rattle.segment_names.specs.Known.{Known, with_traces}
use Rattle.segment_names.specs.Limits.{IsKept}
use Rattle.session_rules.specs.KeptTraces.{Kept, days_of, newest, traces_on, with_taken}
use Rattle.session_rules.specs.KeptTraces.{without_day}
use Rattle.trace_types.specs.declared.named_trace.NamedTrace.{NamedTrace}
use Rattle.trace_types.specs.declared.trace.Trace.{Trace}
use Rattle.book_laws.specs.Shown.{AreShown, named_on}

-- a day is dropped from the book and from the kept traces, as many traces from the one as from the
-- other
abbrev pub DropShows : Type 0
DropShows = (known : Known) (b : BookState) (kept : List Kept) (day : ℕ) → IsBook b
    → AreShown known (all_traces b.days) kept
    → AreShown known (all_traces (books.days_without day b.days)) (without_day day kept)
    × (length (traces_kept_on b.days day) ≡ length (traces_on day kept))

-- the last days of the book have the kept traces of the last days
abbrev pub NewestShow : Type 0
NewestShow = (known : Known) (b : BookState) (kept : List Kept) (n : ℕ) → IsBook b
    → AreShown known (all_traces b.days) kept
    → AreShown known (all_traces (books.newest_days n b.days)) (newest n kept)

-- the sheets have exactly these traces, each those of its day in their order; their days rise, and
-- none is empty
pub record AreSheetsOf (sheets : List DatedSheet) (named : List NamedTrace) : Type 0 where
  pub rising : AllPairs (λ (r s : DatedSheet). r.day < s.day) sheets
  pub each : All (λ (s : DatedSheet). s.sheet.traces ≡ named_on s.day named) sheets
  pub some : All (λ (s : DatedSheet). 0 < length s.sheet.traces) sheets
  pub all : All (λ (t : NamedTrace). Contains (map (λ (s : DatedSheet). s.day) sheets) t.day) named

-- a book with the sheets of more traces has the kept traces with these taken in
abbrev pub SheetsShow : Type 0
SheetsShow = (known : Known) (b : BookState) (kept more : List Kept) (sheets : List DatedSheet)
    (named : List NamedTrace) → IsBook b → AreShown known (all_traces b.days) kept
    → AreShown known named more → AreSheetsOf sheets named
    → AreShown known (all_traces (with_all b sheets).days) (with_taken kept more)

-- and it has as many days as there are different days of the traces then kept
abbrev pub DaysAreCounted : Type 0
DaysAreCounted = (known : Known) (b : BookState) (kept more : List Kept)
    (sheets : List DatedSheet) (named : List NamedTrace) → IsBook b
    → AreShown known (all_traces b.days) kept → AreShown known named more
    → AreSheetsOf sheets named
    → (length b.days + new_days b.days sheets) ≡ length (days_of (with_taken kept more))

-- traces have the same numbers in a catalogue that has grown
abbrev pub GrownShows : Type 0
GrownShows = (known : Known) (more : List Trace) (named : List NamedTrace) (kept : List Kept)
    → IsKept known → AreShown known named kept → AreShown (with_traces known more) named kept
