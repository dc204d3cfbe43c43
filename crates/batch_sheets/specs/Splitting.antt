-- Traces that are split by their days.
use Rattle.std.specs.Prelude.{◌≡◌, ℕ, ◌<◌, List, All, length, map}
use Rattle.book_laws.specs.Shown.{named_on}
use Rattle.day_partitions.specs.declared.dated_sheet.DatedSheet.{DatedSheet}
use Rattle.trace_types.specs.declared.named_trace.NamedTrace.{NamedTrace}
use Rattle.batch_sheets.specs.declared.days.DayTraces.{DayTraces}

-- the day of a trace, and of a list of traces of one day
abbrev pub named_day : NamedTrace → ℕ
named_day t = t.day

abbrev pub split_day : DayTraces → ℕ
split_day s = s.day

-- the day of a sheet
abbrev pub sheet_day : DatedSheet → ℕ
sheet_day s = s.day

-- there is one list for each of these days, with the traces of that day, in their order
pub record AreSplitSoFar (days : List ℕ) (named : List NamedTrace) (split : List DayTraces)
    : Type 0 where
  pub each_day : map split_day split ≡ days
  pub each_list : All (λ (s : DayTraces). s.traces.items ≡ named_on s.day named) split

-- and none is empty
pub record AreSplit (days : List ℕ) (named : List NamedTrace) (split : List DayTraces)
    : Type 0 where
  pub so_far : AreSplitSoFar days named split
  pub some : All (λ (s : DayTraces). 0 < length s.traces.items) split
