-- Rows that are made of two tables by the numbers of names: of the durations of all segments, and
-- of those on critical paths.
use Rattle.std.specs.Prelude.{◌≡◌, ℕ, ◌<◌, List, length, map, sum, All}
use Rattle.trace_paths.specs.NameOrders.{number_cmp}
use Rattle.trace_paths.specs.Tables.{list_at}
use Rattle.trace_rules.specs.Numbers.{AreFigures}
use Rattle.trace_types.specs.Listing.{ListsExactly}
use Rattle.trace_types.specs.Segments.{SegmentName}
use Rattle.latency_report.specs.declared.segment_row.SegmentRow.{SegmentRow}

-- the row of a name, by the lists of the name
pub record IsRowFrom (durations on_paths : List (List ℕ)) (row : SegmentRow) : Type 0 where
  pub below : row.name < length durations
  pub figures : AreFigures (list_at durations row.name) row.figures
  pub on_path : row.on_path ≡ length (list_at on_paths row.name)
  pub on_path_sum : row.on_path_sum ≡ sum (list_at on_paths row.name)

-- a row for each name that has a duration, in name order
pub record AreRowsFrom (known : List SegmentName) (durations on_paths : List (List ℕ))
    (made : List SegmentRow) : Type 0 where
  pub names : ListsExactly (number_cmp known) (λ n. 0 < length (list_at durations n))
      (map (λ (r : SegmentRow). r.name) made)
  pub each : All (IsRowFrom durations on_paths) made
