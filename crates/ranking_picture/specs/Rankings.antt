-- Which segments are on critical paths, the longest first, and what they would gain.
use Rattle.std.specs.Prelude.{ℕ, ◌-◌, ◌^◌, List, [], ◌∷◌, if◌then◌else◌}
use Rattle.std.specs.Prelude.{nat_lt, IsPermutation}
use Rattle.std.specs.List.{flat_map}
use Rattle.std.specs.List.Sorted.{IsSortedByKey}
use Rattle.std.specs.Ordering.{nat_cmp}
use Rattle.page_rows.specs.declared.gain_rows.GainRow.{GainRow}
use Rattle.page_rows.specs.declared.report_rows.SegmentRow.{SegmentRow}
use Rattle.page_rows.specs.Pages.{PageLists}
use Rattle.picture_parts.specs.Names.{same_name}
use Rattle.ranking_picture.specs.declared.ranked_row.RankedRow.{RankedRow}
use Rattle.trace_types.specs.Segments.{SegmentName}

-- a figure of the first gain of a name; 0 where the page has none
abbrev pub first_gain : (GainRow → ℕ) → List GainRow → SegmentName → ℕ
first_gain figure [] name = 0
first_gain figure (gain ∷ gains) name =
    if same_name gain.name name then figure gain else first_gain figure gains name

-- what the critical paths would lose if a name took no time, or half of its time
abbrev pub none_of : List GainRow → SegmentName → ℕ
none_of gains name = first_gain (λ (g : GainRow). g.none) gains name

abbrev pub half_of : List GainRow → SegmentName → ℕ
half_of gains name = first_gain (λ (g : GainRow). g.half) gains name

-- the row of a segment: its time on critical paths, and its gains
abbrev pub ranked_row : List GainRow → SegmentRow → RankedRow
ranked_row gains segment = record {
  name = segment.name;
  on_path = segment.on_path;
  critical = segment.on_path_sum;
  none = none_of gains segment.name;
  half = half_of gains segment.name;
}

-- the row of a segment that is on a critical path
abbrev pub row_if_on_path : List GainRow → SegmentRow → List RankedRow
row_if_on_path gains segment =
    if nat_lt 0 segment.on_path then ranked_row gains segment ∷ [] else []

-- how far a row is from the greatest number: the longest row has the least key
abbrev pub rank_key : RankedRow → ℕ
rank_key row = 2 ^ 128 - 1 - row.critical

-- the segments on critical paths, each once, the longest first
pub record IsRanking (p : PageLists) (ranking : List RankedRow) : Type 0 where
  pub once : IsPermutation (flat_map (row_if_on_path p.gains) p.segments) ranking
  pub falling : IsSortedByKey rank_key nat_cmp ranking
