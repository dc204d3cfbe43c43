-- Reports on traces by number, as the texts of reports on kept traces.
use Rattle.std.proofs.Common.{◌≡◌, ℕ, ◌<◌, eqb, List, length, map, get_or, refl, sym, ap, ◌∙◌, subst}
use Rattle.std.specs.Cmp.{IsTotalOrder}
use Rattle.std.proofs.lemmas.Slice.Zip.{AllZip-long}
use Rattle.book_laws.specs.Shown.{AreShown, IsShown}
use Rattle.trace_rules.specs.Numbers.{AreFigures}
use Rattle.latency_report.specs.Reports.{IsReport}
use Rattle.trace_rules.specs.ReportRows.{AreFiguresOf}
use Rattle.latency_report.specs.declared.full_report.FullReport.{FullReport}
use Rattle.latency_report.specs.declared.segment_row.SegmentRow.{SegmentRow}
use Rattle.segment_names.specs.Known.{Known}
use Rattle.segment_names.specs.Limits.{IsKept}
use Rattle.session_rules.specs.GivenDigests.{SurvivesUnder}
use Rattle.session_rules.specs.KeptTraces.{Kept, by_kept, latencies_of}
use Rattle.session_rules.specs.ReportTexts.{IsSegmentText}
use Rattle.session_rules.specs.TailTexts.{IsTailText}
use Rattle.slow_tail.specs.SlowReports.{IsSlowReport}
use Rattle.trace_rules.specs.ReportRows.{AreSlowAndRest}
use Rattle.slow_tail.specs.SlowReports as by_trace
use Rattle.trace_rules.specs.SlowTraces.{IsFloor, rest_of, slow_count, slow_marks, slow_of}
use Rattle.slow_tail.specs.declared.slow_report.SlowReport.{SlowReport}
use Rattle.slow_tail.specs.declared.tail_row.TailRow.{TailRow}
use Rattle.trace_rules.specs.CriticalPaths.{AreCriticalPaths}
use Rattle.digest_facts.specs.Digests.{Digest}
use Rattle.judged_books.specs.JudgedLaws.{AreJudgedWords}
use Rattle.model_meet.specs.RelationBits.{KeepsExclusion}
use Rattle.trace_paths.specs.NameOrders.{name_with_number}
use Rattle.trace_types.specs.declared.named_trace.NamedTrace.{NamedTrace}
use Rattle.trace_types.specs.declared.segment.Segment.{Segment}
use Rattle.trace_types.specs.NameOrder.{name_cmp}
use Rattle.trace_types.specs.Segments.{SegmentName}
use Rattle.trace_types.specs.Parts.{by_number, segments_of}
use Rattle.trace_types.proofs.ElementLemmas.{map_twice}
use Rattle.trace_types.proofs.ZipLemmas.{zip_mapped}
use Rattle.view_rows.specs.inner.NumberedTexts.{report_head, segment_row, tail_head, tail_row}
use Rattle.view_rows.specs.inner.ShownPaths.{ArePathsShown, AreSegmentsShown, PathsAreShown}
use Rattle.view_rows.specs.inner.ShownReports.{AreReportTexts, AreTailTexts}
use Rattle.view_rows.proofs.DurationLemmas.{counts_shown, durations_shown, lengths_shown, times_shown}
use Rattle.view_rows.proofs.ListLemmas.{All-unmap}
use Rattle.view_rows.proofs.ReportNameLemmas.{AreListedInOneWay, names_told, number_within}
use Rattle.view_rows.proofs.ReportPathLemmas.{IsMatched, all_segments_shown}
use Rattle.view_rows.proofs.ReportZipLemmas.{zip_marked, zip_unmarked}

module _ (known : Known) (given : Digest SegmentName (List ℕ)) (words : List ℕ) (traces : List NamedTrace) (kept : List Kept) (fits : IsKept known) (shown : AreShown known traces kept) (judge : AreJudgedWords known given kept words) (matched : IsMatched known.names)
    (paths_law : PathsAreShown) (total : IsTotalOrder name_cmp) (one : AreListedInOneWay) where
  count_shown : length traces ≡ length kept
  count_shown = sym (AllZip-long (IsShown known) traces kept shown)

  latencies_shown : by_trace.trace_latencies traces ≡ latencies_of kept
  latencies_shown = zip_mapped (IsShown known) (λ (t : NamedTrace). t.latency) (λ (k : Kept). k.trace.latency) (λ t k s. s.latency) traces kept shown

  segments : AreSegmentsShown known (segments_of by_number traces) (segments_of by_kept kept)
  segments = all_segments_shown known matched traces kept shown

  -- the report
  module _ (report : FullReport) (is : IsReport known.names (KeepsExclusion words) traces report) (texts : List (List Segment)) (are : AreCriticalPaths by_kept (SurvivesUnder given kept) kept texts) (alike : ArePathsShown known is.paths texts) where
    segment_shown : (r : SegmentRow) → r.name < length known.names → AreFiguresOf by_number eqb traces is.paths r.name r.figures r.on_path r.on_path_sum → IsSegmentText (SurvivesUnder given kept) kept (name_with_number known.names r.name) (segment_row known.names r)
    segment_shown r lt told = record {
      paths = texts;
      critical_paths = are;
      figures = r.figures;
      on_path = r.on_path;
      on_path_sum = r.on_path_sum;
      told = record {
        figures = subst (λ (ds : List ℕ). AreFigures ds r.figures) (durations_shown known fits.names_differ r.name lt (segments_of by_number traces) (segments_of by_kept kept) segments) told.figures;
        on_path = told.on_path ∙ counts_shown known fits.names_differ r.name lt is.paths texts alike;
        on_path_sum = told.on_path_sum ∙ times_shown known fits.names_differ r.name lt is.paths texts alike;
      };
      text = refl;
    }

    texts_shown : AreReportTexts known given kept report
    texts_shown =
        let within = All-unmap (λ (n : ℕ). n < length known.names) (λ (r : SegmentRow). r.name) report.rows (number_within known traces kept segments (map (λ (r : SegmentRow). r.name) report.rows) is.names) in
        record {
          head = record {
            paths = texts;
            critical_paths = are;
            text = ap (λ (n : ℕ). report_head (record report { traces = n })) (is.count ∙ count_shown) ∙ ap (λ (n : ℕ). report_head (record report { traces = length kept; critical = n })) (is.critical ∙ lengths_shown known is.paths texts alike);
          };
          latency = record {
            figures = report.latency;
            told = subst (λ (ls : List ℕ). AreFigures ls report.latency) latencies_shown is.latency;
            text = refl;
          };
          names = λ names all. sym (map_twice (name_with_number known.names) (λ (r : SegmentRow). r.name) report.rows) ∙ names_told known traces kept segments (map (λ (r : SegmentRow). r.name) report.rows) is.names names all one total;
          rows = λ k d lt. segment_shown (get_or report.rows k d) (within k d lt) (is.rows k d lt);
        }

  pub report_shown : (report : FullReport) → IsReport known.names (KeepsExclusion words) traces report → AreReportTexts known given kept report
  report_shown report is = let p = paths_law known given words traces kept is.paths fits shown judge is.critical_paths in texts_shown report is p.0 p.1 p.2

  -- the report on the slowest
  module _ (report : SlowReport) (is : IsSlowReport known.names (KeepsExclusion words) traces report) (texts : List (List Segment)) (are : AreCriticalPaths by_kept (SurvivesUnder given kept) kept texts) (alike : ArePathsShown known is.paths texts) where
    slow_alike : ArePathsShown known (slow_of (by_trace.trace_latencies traces) is.paths) (slow_of (latencies_of kept) texts)
    slow_alike = subst (λ (ls : List ℕ). ArePathsShown known (slow_of (by_trace.trace_latencies traces) is.paths) (slow_of ls texts)) latencies_shown
        (zip_marked (λ path text. AreSegmentsShown known path text) (slow_marks (by_trace.trace_latencies traces)) is.paths texts alike)

    rest_alike : ArePathsShown known (rest_of (by_trace.trace_latencies traces) is.paths) (rest_of (latencies_of kept) texts)
    rest_alike = subst (λ (ls : List ℕ). ArePathsShown known (rest_of (by_trace.trace_latencies traces) is.paths) (rest_of ls texts)) latencies_shown
        (zip_unmarked (λ path text. AreSegmentsShown known path text) (slow_marks (by_trace.trace_latencies traces)) is.paths texts alike)

    tail_row_shown : (r : TailRow) → r.name < length known.names → AreSlowAndRest by_number eqb (slow_of (by_trace.trace_latencies traces) is.paths) (rest_of (by_trace.trace_latencies traces) is.paths) r.name r.slow_on r.slow_sum r.rest_on r.rest_sum
        → IsTailText (SurvivesUnder given kept) kept (name_with_number known.names r.name) (tail_row known.names r)
    tail_row_shown r lt told = record {
      paths = texts;
      critical_paths = are;
      slow_on = r.slow_on;
      slow_sum = r.slow_sum;
      rest_on = r.rest_on;
      rest_sum = r.rest_sum;
      told = record {
        slow_on = told.slow_on ∙ counts_shown known fits.names_differ r.name lt (slow_of (by_trace.trace_latencies traces) is.paths) (slow_of (latencies_of kept) texts) slow_alike;
        slow_sum = told.slow_sum ∙ times_shown known fits.names_differ r.name lt (slow_of (by_trace.trace_latencies traces) is.paths) (slow_of (latencies_of kept) texts) slow_alike;
        rest_on = told.rest_on ∙ counts_shown known fits.names_differ r.name lt (rest_of (by_trace.trace_latencies traces) is.paths) (rest_of (latencies_of kept) texts) rest_alike;
        rest_sum = told.rest_sum ∙ times_shown known fits.names_differ r.name lt (rest_of (by_trace.trace_latencies traces) is.paths) (rest_of (latencies_of kept) texts) rest_alike;
      };
      text = refl;
    }

    tail_texts_shown : AreTailTexts known given kept report
    tail_texts_shown =
        let within = All-unmap (λ (n : ℕ). n < length known.names) (λ (r : TailRow). r.name) report.rows (number_within known traces kept segments (map (λ (r : TailRow). r.name) report.rows) is.names) in
        record {
          head = record {
            floor = report.floor;
            least = subst (λ (ls : List ℕ). IsFloor (slow_of ls ls) report.floor) latencies_shown is.floor;
            text = ap (λ (n : ℕ). tail_head (record report { traces = n })) (is.count ∙ count_shown) ∙ ap (λ (n : ℕ). tail_head (record report { traces = length kept; slow = n })) (is.slow ∙ ap slow_count count_shown);
          };
          names = λ names all. sym (map_twice (name_with_number known.names) (λ (r : TailRow). r.name) report.rows) ∙ names_told known traces kept segments (map (λ (r : TailRow). r.name) report.rows) is.names names all one total;
          rows = λ k d lt. tail_row_shown (get_or report.rows k d) (within k d lt) (is.rows k d lt);
        }

  pub tail_shown : (report : SlowReport) → IsSlowReport known.names (KeepsExclusion words) traces report → AreTailTexts known given kept report
  tail_shown report is = let p = paths_law known given words traces kept is.paths fits shown judge is.critical_paths in tail_texts_shown report is p.0 p.1 p.2
