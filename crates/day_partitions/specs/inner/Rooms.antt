-- Room for sheets of several days.
use Rattle.std.specs.Prelude.{List, length, All}
use Rattle.day_partitions.specs.inner.Slots.{HasTraceRoom}
use Rattle.day_partitions.specs.declared.dated_sheet.DatedSheet.{DatedSheet}
use Rattle.day_partitions.specs.declared.day.Day.{Day}

-- there is room for the traces of each sheet whose day is kept
abbrev pub HaveTraceRoom : List Day → List DatedSheet → Type 0
HaveTraceRoom days sheets =
    All (λ (s : DatedSheet). HasTraceRoom days s.day (length s.sheet.traces)) sheets
