-- The report over a list of traces: figures of their latencies, and of the segments of each name.
use Rattle.std.specs.Prelude.{◌≡◌, ℕ, nat_eq, List, length, map, sum_by, All}
use Rattle.trace_paths.specs.NameOrders.{AreNamesOf}
use Rattle.trace_rules.specs.CriticalPaths.{AreCriticalPaths}
use Rattle.trace_rules.specs.Durations.{path_length}
use Rattle.trace_rules.specs.Numbers.{AreFigures}
use Rattle.trace_rules.specs.ReportRows.{AreFiguresOf}
use Rattle.trace_types.specs.declared.named_segment.NamedSegment.{NamedSegment}
use Rattle.trace_types.specs.declared.named_trace.NamedTrace.{NamedTrace}
use Rattle.trace_types.specs.Parts.{by_number}
use Rattle.trace_types.specs.Segments.{SegmentName}
use Rattle.latency_report.specs.declared.full_report.FullReport.{FullReport}
use Rattle.latency_report.specs.declared.segment_row.SegmentRow.{SegmentRow}

-- the report over a list of traces whose names have these texts, where the mutual exclusions in
-- Excludes survive: how many traces there are, how long their critical paths are together, the
-- figures of their latencies, and a row for each name of their segments, in name order
pub record IsReport (known : List SegmentName) (Excludes : ℕ → ℕ → Type 0)
    (traces : List NamedTrace) (report : FullReport) : Type 0 where
  pub paths : List (List NamedSegment)
  pub critical_paths : AreCriticalPaths by_number Excludes traces paths
  pub count : report.traces ≡ length traces
  pub critical : report.critical ≡ sum_by (path_length by_number) paths
  pub latency : AreFigures (map (λ (t : NamedTrace). t.latency) traces) report.latency
  pub names : AreNamesOf known traces (map (λ (r : SegmentRow). r.name) report.rows)
  pub rows : All (λ (r : SegmentRow). AreFiguresOf by_number nat_eq traces paths r.name r.figures
      r.on_path r.on_path_sum) report.rows
