-- The report on the slowest of a list of traces: what is on their critical paths, beside what is on
-- those of the rest.
use Rattle.std.specs.Prelude.{◌≡◌, nat_eq, Bool, ℕ, List, length, map, count_by, All}
use Rattle.trace_paths.specs.NameOrders.{AreNamesOf}
use Rattle.trace_rules.specs.CriticalPaths.{AreCriticalPaths}
use Rattle.trace_rules.specs.ReportRows.{AreSlowAndRest}
use Rattle.trace_rules.specs.SlowTraces.{IsFloor, rest_of, slow_count, slow_marks, slow_of}
use Rattle.trace_types.specs.declared.named_segment.NamedSegment.{NamedSegment}
use Rattle.trace_types.specs.declared.named_trace.NamedTrace.{NamedTrace}
use Rattle.trace_types.specs.Parts.{by_number}
use Rattle.trace_types.specs.Segments.{SegmentName}
use Rattle.slow_tail.specs.declared.slow_report.SlowReport.{SlowReport}
use Rattle.slow_tail.specs.declared.tail_row.TailRow.{TailRow}

-- the latencies of traces
abbrev pub trace_latencies : List NamedTrace → List ℕ
trace_latencies traces = map (λ (t : NamedTrace). t.latency) traces

-- the report over a list of traces whose names have these texts, where the mutual exclusions in
-- Excludes survive: how many traces there are, how many are slow, which is one in twenty and exactly
-- how many the definition has, the least latency of the slow ones, and a row for each name of the
-- traces' segments, in name order
pub record IsSlowReport (known : List SegmentName) (Excludes : ℕ → ℕ → Type 0)
    (traces : List NamedTrace) (report : SlowReport) : Type 0 where
  pub paths : List (List NamedSegment)
  pub critical_paths : AreCriticalPaths by_number Excludes traces paths
  pub count : report.traces ≡ length traces
  pub slow : report.slow ≡ slow_count (length traces)
  pub exact : count_by (λ (m : Bool). m) (slow_marks (trace_latencies traces)) ≡ report.slow
  pub floor : IsFloor (slow_of (trace_latencies traces) (trace_latencies traces)) report.floor
  pub names : AreNamesOf known traces (map (λ (r : TailRow). r.name) report.rows)
  pub rows : All (λ (r : TailRow). AreSlowAndRest by_number nat_eq
      (slow_of (trace_latencies traces) paths) (rest_of (trace_latencies traces) paths) r.name
      r.slow_on r.slow_sum r.rest_on r.rest_sum) report.rows
