-- The forecast of a trace by number is that of the kept trace: a statement that a law proves.
use Rattle.std.specs.Prelude.{ℕ, List}
use Rattle.book_laws.specs.Shown.{IsShown}
use Rattle.segment_names.specs.Known.{Known}
use Rattle.segment_names.specs.Limits.{IsKept}
use Rattle.session_rules.specs.ForecastTexts.{IsForecastOf}
use Rattle.session_rules.specs.GivenDigests.{SurvivesUnder}
use Rattle.session_rules.specs.KeptTraces.{Kept}
use Rattle.session_rules.specs.declared.named_change.NamedChange.{NamedChange}
use Rattle.trace_rules.specs.declared.forecast.Forecast.{Forecast}
use Rattle.digest_facts.specs.Digests.{Digest}
use Rattle.judged_books.specs.JudgedLaws.{AreJudgedWords}
use Rattle.model_meet.specs.RelationBits.{KeepsExclusion}
use Rattle.trace_types.specs.declared.named_trace.NamedTrace.{NamedTrace}
use Rattle.trace_types.specs.Segments.{SegmentName}
use Rattle.view_rows.specs.inner.NumberedForecasts.{IsForecastIn, changes_of}

-- the forecast of a trace by number, with the change by the number of its name, is the forecast of
-- the kept trace with the change
abbrev pub ForecastIsShown : Type 0
ForecastIsShown = (known : Known) (given : Digest SegmentName (List ℕ)) (words : List ℕ)
    (kept : List Kept) (trace : NamedTrace) (k : Kept) (change : NamedChange) (f : Forecast)
    → IsKept known → AreJudgedWords known given kept words → IsShown known trace k
    → IsForecastIn (KeepsExclusion words) (changes_of known change) trace f
    → IsForecastOf change (SurvivesUnder given kept) k f
