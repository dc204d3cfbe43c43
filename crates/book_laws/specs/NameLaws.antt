-- The names of kept traces can be listed: a statement that a law proves.
use Rattle.std.specs.Prelude.{List}
use Rattle.session_rules.specs.KeptTraces.{Kept}
use Rattle.session_rules.specs.ReportTexts.{AreKeptNames}
use Rattle.trace_types.specs.Segments.{SegmentName}

-- there is a list of exactly the names of the kept traces' segments, each once, in name order
abbrev pub NamesAreListed : Type 0
NamesAreListed = (kept : List Kept) → (names : List SegmentName) × AreKeptNames kept names
