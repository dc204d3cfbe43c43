-- The rows of a report whose names are numbers of a catalogue.
use Rattle.std.specs.Prelude.{ℕ, List, [], ◌∷◌, ◌++◌, map, codes, decimal}
use Rattle.latency_report.specs.declared.full_report.FullReport.{FullReport}
use Rattle.latency_report.specs.declared.segment_row.SegmentRow.{SegmentRow}
use Rattle.session_rules.specs.ReportTexts.{named_row, numbers_of}
use Rattle.slow_tail.specs.declared.slow_report.SlowReport.{SlowReport}
use Rattle.slow_tail.specs.declared.tail_row.TailRow.{TailRow}
use Rattle.text_rows.specs.Rows.{figure, row_of}
use Rattle.trace_paths.specs.NameOrders.{name_with_number}
use Rattle.trace_rules.specs.declared.figures.Figures.{Figures}
use Rattle.trace_types.specs.Segments.{SegmentName}

-- the header of a report
abbrev pub report_head : FullReport → List ℕ
report_head report =
    row_of (codes "report"
    ∷ figure (codes "traces") report.traces
    ∷ figure (codes "critical") report.critical ∷ [])

-- the row of the figures of latencies
abbrev pub latency_row : Figures → List ℕ
latency_row figures = row_of (codes "latency" ∷ map decimal (numbers_of figures))

-- the figures of a row, and what it has of the critical paths
abbrev pub segment_numbers : SegmentRow → List ℕ
segment_numbers r = numbers_of r.figures ++ (r.on_path ∷ r.on_path_sum ∷ [])

-- the row of a name
abbrev pub segment_row : List SegmentName → SegmentRow → List ℕ
segment_row names r = named_row (codes "segment") (name_with_number names r.name) (segment_numbers r)

-- the header of the report on the slowest traces
abbrev pub tail_head : SlowReport → List ℕ
tail_head report =
    row_of (codes "tail"
    ∷ figure (codes "traces") report.traces
    ∷ figure (codes "slow") report.slow
    ∷ figure (codes "floor") report.floor ∷ [])

-- what a row has of the critical paths of slow traces, and of those of the rest
abbrev pub tail_numbers : TailRow → List ℕ
tail_numbers r = r.slow_on ∷ r.slow_sum ∷ r.rest_on ∷ r.rest_sum ∷ []

-- the row of a name in it
abbrev pub tail_row : List SegmentName → TailRow → List ℕ
tail_row names r = named_row (codes "segment") (name_with_number names r.name) (tail_numbers r)
