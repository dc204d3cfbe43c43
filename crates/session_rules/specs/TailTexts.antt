-- The printed text of the report on the slowest of the kept traces. Their critical paths are by the
-- mutual exclusions in Excludes, those that survive. Latencies and times are in nanoseconds.
use Rattle.std.specs.Prelude.{◌≡◌, ℕ, List, [], ◌∷◌, length, codes}
use Rattle.segment_names.specs.Known.{same_name}
use Rattle.text_rows.specs.Rows.{figure, row_of}
use Rattle.trace_rules.specs.ReportRows.{AreSlowAndRest}
use Rattle.trace_rules.specs.SlowTraces.{IsFloor, rest_of, slow_count, slow_of}
use Rattle.trace_rules.specs.CriticalPaths.{AreCriticalPaths}
use Rattle.trace_types.specs.declared.segment.Segment.{Segment}
use Rattle.trace_types.specs.Segments.{SegmentName}
use Rattle.session_rules.specs.KeptTraces.{Kept, by_kept, latencies_of}
use Rattle.session_rules.specs.ReportTexts.{named_row}

-- `tail`, how many traces are kept, how many of them are slow, and the least latency of these
pub record IsTailHead (kept : List Kept) (bytes : List ℕ) : Type 0 where
  pub floor : ℕ
  pub least : IsFloor (slow_of (latencies_of kept) (latencies_of kept)) floor
  pub text : bytes ≡ row_of (codes "tail"
      ∷ figure (codes "traces") (length kept)
      ∷ figure (codes "slow") (slow_count (length kept))
      ∷ figure (codes "floor") floor ∷ [])

-- `segment` and a name; on how many critical paths of slow traces there is a segment with this
-- name, and for how long together; the same of the rest
pub record IsTailText (Excludes : SegmentName → SegmentName → Type 0) (kept : List Kept)
    (name : SegmentName) (bytes : List ℕ) : Type 0 where
  pub paths : List (List Segment)
  pub critical_paths : AreCriticalPaths by_kept Excludes kept paths
  pub slow_on : ℕ
  pub slow_sum : ℕ
  pub rest_on : ℕ
  pub rest_sum : ℕ
  pub told : AreSlowAndRest by_kept same_name (slow_of (latencies_of kept) paths)
      (rest_of (latencies_of kept) paths) name slow_on slow_sum rest_on rest_sum
  pub text : bytes ≡ named_row (codes "segment") name
      (slow_on ∷ slow_sum ∷ rest_on ∷ rest_sum ∷ [])
