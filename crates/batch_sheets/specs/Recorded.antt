-- What is recorded of the traces of days.
use Rattle.std.specs.Prelude.{◌≡◌, ℕ, List, length}
use Rattle.std.specs.List.{AllZip}
use Rattle.day_partitions.specs.declared.dated_sheet.DatedSheet.{DatedSheet}
use Rattle.hypothesis_index.specs.Places.{width_of}
use Rattle.trace_rules.specs.WatchLines.{AreWatchLines}
use Rattle.trace_types.specs.Parts.{by_number}
use Rattle.batch_sheets.specs.declared.days.DayTraces.{DayTraces}
use Rattle.batch_sheets.specs.declared.recording.DayLines.{DayLines}

-- the sheet of the traces of a day, over so many names
pub record IsSheetOfDay (names : ℕ) (split : DayTraces) (sheet : DatedSheet) : Type 0 where
  pub day : sheet.day ≡ split.day
  pub traces : sheet.sheet.traces ≡ split.traces.items
  pub width : length sheet.sheet.words ≡ width_of names

-- the watch lines of the traces of a day, which so many workers shared
pub record AreLinesOfDay (every workers : ℕ) (split : DayTraces) (watched : DayLines)
    : Type 0 where
  pub day : watched.day ≡ split.day
  pub lines : AreWatchLines by_number every workers split.traces.items watched.lines

-- a sheet and watch lines for each day, in order
pub record AreRecorded (names every workers : ℕ) (split : List DayTraces)
    (sheets : List DatedSheet) (watched : List DayLines) : Type 0 where
  pub all_sheets : AllZip (IsSheetOfDay names) split sheets
  pub all_lines : AllZip (AreLinesOfDay every workers) split watched
