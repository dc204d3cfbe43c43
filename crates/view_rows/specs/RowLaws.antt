-- What the report on the slowest traces tells of a name adds up to what the report on all tells.
use Rattle.std.specs.Prelude.{◌≡◌, ℕ, ◌+◌, List, Contains}
use Rattle.latency_report.specs.declared.full_report.FullReport.{FullReport}
use Rattle.latency_report.specs.declared.segment_row.SegmentRow.{SegmentRow}
use Rattle.latency_report.specs.Reports.{IsReport}
use Rattle.slow_tail.specs.declared.slow_report.SlowReport.{SlowReport}
use Rattle.slow_tail.specs.declared.tail_row.TailRow.{TailRow}
use Rattle.slow_tail.specs.SlowReports.{IsSlowReport}
use Rattle.model_meet.specs.RelationBits.{KeepsExclusion}
use Rattle.trace_types.specs.declared.named_trace.NamedTrace.{NamedTrace}
use Rattle.trace_types.specs.Segments.{SegmentName}

-- the two counts and the two times of a row add up to the count and the time of a row of the
-- latency report
pub record RowAddsUp (row : TailRow) (all : SegmentRow) : Type 0 where
  pub counts : row.slow_on + row.rest_on ≡ all.on_path
  pub times : row.slow_sum + row.rest_sum ≡ all.on_path_sum

-- so it is for the rows of one name, of the two reports over one list of traces by one list of
-- words
abbrev pub RowsAddUp : Type 0
RowsAddUp = (known : List SegmentName) (words : List ℕ) (traces : List NamedTrace) (report : SlowReport)
    (full : FullReport) (row : TailRow) (all : SegmentRow)
    → IsSlowReport known (KeepsExclusion words) traces report
    → IsReport known (KeepsExclusion words) traces full → Contains report.rows row
    → Contains full.rows all → row.name ≡ all.name → RowAddsUp row all
