-- The printed text of the report on kept traces: their latencies, and their segments by name. Their
-- critical paths are by the mutual exclusions in Excludes, those that survive. Times are in
-- nanoseconds.
use Rattle.std.specs.Prelude.{◌≡◌, ℕ, List, [], ◌∷◌, ◌++◌, length, map, sum_by, codes}
use Rattle.std.specs.Prelude.{Contains, decimal}
use Rattle.segment_names.specs.Known.{same_name}
use Rattle.text_rows.specs.Rows.{figure, row_of}
use Rattle.trace_rules.specs.declared.figures.Figures.{Figures}
use Rattle.trace_rules.specs.Numbers.{AreFigures}
use Rattle.trace_rules.specs.ReportRows.{AreFiguresOf}
use Rattle.trace_rules.specs.CriticalPaths.{AreCriticalPaths}
use Rattle.trace_rules.specs.Durations.{path_length}
use Rattle.trace_types.specs.declared.segment.Segment.{Segment}
use Rattle.trace_types.specs.Listing.{ListsExactly}
use Rattle.trace_types.specs.NameOrder.{name_cmp}
use Rattle.trace_types.specs.Parts.{segments_of}
use Rattle.trace_types.specs.Segments.{SegmentName, name_of}
use Rattle.session_rules.specs.KeptTraces.{Kept, by_kept, latencies_of}

-- exactly the names of the kept traces' segments, each once, in name order
abbrev pub AreKeptNames : List Kept → List SegmentName → Type 0
AreKeptNames kept names =
    ListsExactly name_cmp (Contains (map name_of (segments_of by_kept kept))) names

-- a row of a word, a name and numbers
abbrev pub named_row : List ℕ → SegmentName → List ℕ → List ℕ
named_row word name figures =
    row_of (word ∷ name.0 ∷ name.1 ∷ name.2 ∷ map decimal figures)

-- the numbers of figures: how many there are, their sum, their median and the greatest
abbrev pub numbers_of : Figures → List ℕ
numbers_of f = f.count ∷ f.sum ∷ f.median ∷ f.greatest ∷ []

-- `report`, how many traces are kept, and how long their critical paths are together
pub record IsReportHead (Excludes : SegmentName → SegmentName → Type 0) (kept : List Kept)
    (bytes : List ℕ) : Type 0 where
  pub paths : List (List Segment)
  pub critical_paths : AreCriticalPaths by_kept Excludes kept paths
  pub text : bytes ≡ row_of (codes "report"
      ∷ figure (codes "traces") (length kept)
      ∷ figure (codes "critical") (sum_by (path_length by_kept) paths) ∷ [])

-- `latency` and the figures of the latencies of the kept traces
pub record IsLatencyText (kept : List Kept) (bytes : List ℕ) : Type 0 where
  pub figures : Figures
  pub told : AreFigures (latencies_of kept) figures
  pub text : bytes ≡ row_of (codes "latency" ∷ map decimal (numbers_of figures))

-- `segment` and a name; the figures of the durations of the kept traces' segments with this name;
-- on how many of the critical paths there is one, and how long they last there together
pub record IsSegmentText (Excludes : SegmentName → SegmentName → Type 0) (kept : List Kept)
    (name : SegmentName) (bytes : List ℕ) : Type 0 where
  pub paths : List (List Segment)
  pub critical_paths : AreCriticalPaths by_kept Excludes kept paths
  pub figures : Figures
  pub on_path : ℕ
  pub on_path_sum : ℕ
  pub told : AreFiguresOf by_kept same_name kept paths name figures on_path on_path_sum
  pub text : bytes ≡ named_row (codes "segment") name
      (numbers_of figures ++ (on_path ∷ on_path_sum ∷ []))
