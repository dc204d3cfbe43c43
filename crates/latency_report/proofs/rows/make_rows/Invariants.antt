use Rattle.std.proofs.Common.{◌≡◌, All, map, take}
use Rattle.latency_report.specs.inner.TableRows.{IsRowFrom}
use Rattle.latency_report.specs.declared.segment_row.SegmentRow.{SegmentRow}
use Rattle.latency_report.proofs.rows.make_rows.Given as goal

abbrev pub invariant-names : goal.invariant-names
invariant-names l = record {
  names : map (λ (r : SegmentRow). r.name) l.rows.items ≡ take l.name-index l.name-items;
  rows : All (IsRowFrom l.fn.durations l.on_paths) l.rows.items;
}
