-- The watch lines of traces by number and by text.
use Rattle.std.specs.Prelude.{ℕ, ◌<◌, List}
use Rattle.book_laws.specs.Shown.{AreShown}
use Rattle.segment_names.specs.Known.{Known}
use Rattle.segment_names.specs.Limits.{IsKept}
use Rattle.session_rules.specs.KeptTraces.{Kept, by_kept}
use Rattle.trace_rules.specs.WatchLines.{AreWatchLines}
use Rattle.trace_rules.specs.declared.watch_line.WatchLine.{WatchLine}
use Rattle.trace_types.specs.Parts.{by_number}
use Rattle.trace_types.specs.declared.named_trace.NamedTrace.{NamedTrace}

-- where named traces are the kept ones under a catalogue, the watch lines of the named traces are
-- watch lines of the kept ones
abbrev pub WatchLinesAreToldByText : Type 0
WatchLinesAreToldByText = (known : Known) (every workers : ℕ) (named : List NamedTrace)
    (kept : List Kept) (lines : List WatchLine) → IsKept known → AreShown known named kept
    → 0 < workers → AreWatchLines by_number every workers named lines
    → AreWatchLines by_kept every workers kept lines
