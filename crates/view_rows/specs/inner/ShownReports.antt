-- The texts of reports on kept traces, by the reports on the traces that a book has: statements
-- that laws prove.
use Rattle.std.specs.Prelude.{◌≡◌, ℕ, ◌<◌, List, All, map}
use Rattle.book_laws.specs.Shown.{AreShown}
use Rattle.day_partitions.specs.Books.{BookState, IsBook, all_traces}
use Rattle.latency_report.specs.declared.full_report.FullReport.{FullReport}
use Rattle.latency_report.specs.declared.segment_row.SegmentRow.{SegmentRow}
use Rattle.latency_report.specs.Reports.{IsReport}
use Rattle.segment_names.specs.Known.{Known}
use Rattle.segment_names.specs.Limits.{IsKept}
use Rattle.session_rules.specs.GivenDigests.{SurvivesUnder}
use Rattle.session_rules.specs.KeptTraces.{Kept}
use Rattle.session_rules.specs.ReportTexts.{AreKeptNames, IsLatencyText, IsReportHead}
use Rattle.session_rules.specs.ReportTexts.{IsSegmentText}
use Rattle.session_rules.specs.TailTexts.{IsTailHead, IsTailText}
use Rattle.slow_tail.specs.declared.slow_report.SlowReport.{SlowReport}
use Rattle.slow_tail.specs.declared.tail_row.TailRow.{TailRow}
use Rattle.slow_tail.specs.SlowReports.{IsSlowReport}
use Rattle.trace_paths.specs.NameOrders.{name_with_number}
use Rattle.trace_paths.specs.NameOrders as numbers
use Rattle.digest_facts.specs.Digests.{Digest}
use Rattle.judged_books.specs.JudgedLaws.{AreJudgedWords}
use Rattle.model_meet.specs.RelationBits.{KeepsExclusion}
use Rattle.trace_types.specs.declared.named_trace.NamedTrace.{NamedTrace}
use Rattle.trace_types.specs.Segments.{SegmentName}
use Rattle.view_rows.specs.inner.NumberedTexts.{latency_row, report_head, segment_row}
use Rattle.view_rows.specs.inner.NumberedTexts.{tail_head, tail_row}

-- the rows of a report are texts of the report on the kept traces, in the order of their names
pub record AreReportTexts (known : Known) (given : Digest SegmentName (List ℕ)) (kept : List Kept)
    (report : FullReport) : Type 0 where
  pub head : IsReportHead (SurvivesUnder given kept) kept (report_head report)
  pub latency : IsLatencyText kept (latency_row report.latency)
  pub names : (names : List SegmentName) → AreKeptNames kept names
      → map (λ (r : SegmentRow). name_with_number known.names r.name) report.rows ≡ names
  pub rows : All (λ (r : SegmentRow). IsSegmentText (SurvivesUnder given kept) kept
      (name_with_number known.names r.name) (segment_row known.names r)) report.rows

-- the report on traces by number gives the texts of the report on the kept traces
abbrev pub ReportIsShown : Type 0
ReportIsShown = (known : Known) (given : Digest SegmentName (List ℕ)) (words : List ℕ)
    (traces : List NamedTrace) (kept : List Kept) (report : FullReport) → IsKept known
    → AreShown known traces kept → AreJudgedWords known given kept words
    → IsReport known.names (KeepsExclusion words) traces report
    → AreReportTexts known given kept report

-- the rows of a report on the slowest are texts of that report on the kept traces, likewise
pub record AreTailTexts (known : Known) (given : Digest SegmentName (List ℕ)) (kept : List Kept)
    (report : SlowReport) : Type 0 where
  pub head : IsTailHead kept (tail_head report)
  pub names : (names : List SegmentName) → AreKeptNames kept names
      → map (λ (r : TailRow). name_with_number known.names r.name) report.rows ≡ names
  pub rows : All (λ (r : TailRow). IsTailText (SurvivesUnder given kept) kept
      (name_with_number known.names r.name) (tail_row known.names r)) report.rows

-- the report on the slowest of traces by number gives the texts of that on the kept traces
abbrev pub TailIsShown : Type 0
TailIsShown = (known : Known) (given : Digest SegmentName (List ℕ)) (words : List ℕ)
    (traces : List NamedTrace) (kept : List Kept) (report : SlowReport) → IsKept known
    → AreShown known traces kept → AreJudgedWords known given kept words
    → IsSlowReport known.names (KeepsExclusion words) traces report
    → AreTailTexts known given kept report

-- the names of a book's traces are below its number of names
abbrev pub NamesAreBelow : Type 0
NamesAreBelow = (b : BookState) (known : List SegmentName) (ns : List ℕ) → IsBook b
    → numbers.AreNamesOf known (all_traces b.days) ns → All (λ n. n < b.names) ns
