-- What the rows of each kind say: their fields by place, from 0, the first being the row's word.
use Rattle.std.specs.Prelude.{ℕ, [], List, codes, Option}
use Rattle.page_rows.specs.declared.report_rows.RefusedRow.{RefusedRow}
use Rattle.page_rows.specs.declared.report_rows.ReportHead.{ReportHead}
use Rattle.page_rows.specs.declared.report_rows.LatencyRow.{LatencyRow}
use Rattle.page_rows.specs.declared.report_rows.SegmentRow.{SegmentRow}
use Rattle.page_rows.specs.declared.tail_rows.TailHead.{TailHead}
use Rattle.page_rows.specs.declared.tail_rows.TailRow.{TailRow}
use Rattle.page_rows.specs.declared.tail_rows.BucketRow.{BucketRow}
use Rattle.page_rows.specs.declared.tail_rows.RankRow.{RankRow}
use Rattle.page_rows.specs.declared.gain_rows.GainRow.{GainRow}
use Rattle.page_rows.specs.declared.gain_rows.RoomRow.{RoomRow}
use Rattle.page_rows.specs.declared.load_rows.LoadRow.{LoadRow}
use Rattle.page_rows.specs.declared.load_rows.BarRow.{BarRow}
use Rattle.page_rows.specs.declared.model_rows.BoxRow.{BoxRow}
use Rattle.page_rows.specs.declared.model_rows.BetweenRow.{BetweenRow}
use Rattle.page_rows.specs.declared.model_rows.OverlapPart.{OverlapPart}
use Rattle.page_rows.specs.declared.model_rows.PipeRow.{PipeRow}
use Rattle.page_rows.specs.Fields.{field_at, figure_at, name_at, number_at, numbers_from}

abbrev pub refused_row : List (List ℕ) → RefusedRow
refused_row fields = record {
  request = field_at fields 1;
  reason = field_at fields 2;
  line = number_at fields 3;
}

abbrev pub report_head : List (List ℕ) → ReportHead
report_head fields = record {
  traces = figure_at (codes "traces=") fields 1;
  critical = figure_at (codes "critical=") fields 2;
}

abbrev pub latency_row : List (List ℕ) → LatencyRow
latency_row fields = record {
  count = number_at fields 1;
  sum = number_at fields 2;
  median = number_at fields 3;
  greatest = number_at fields 4;
}

abbrev pub segment_row : List (List ℕ) → SegmentRow
segment_row fields = record {
  name = name_at fields 1;
  count = number_at fields 4;
  sum = number_at fields 5;
  median = number_at fields 6;
  greatest = number_at fields 7;
  on_path = number_at fields 8;
  on_path_sum = number_at fields 9;
}

abbrev pub tail_head : List (List ℕ) → TailHead
tail_head fields = record {
  traces = figure_at (codes "traces=") fields 1;
  slow = figure_at (codes "slow=") fields 2;
  floor = figure_at (codes "floor=") fields 3;
}

abbrev pub tail_row : List (List ℕ) → TailRow
tail_row fields = record {
  name = name_at fields 1;
  slow_on = number_at fields 4;
  slow_sum = number_at fields 5;
  rest_on = number_at fields 6;
  rest_sum = number_at fields 7;
}

abbrev pub bucket_row : List (List ℕ) → BucketRow
bucket_row fields = record {
  number = number_at fields 1;
  loads = number_at fields 2;
  latency = number_at fields 3;
  length = number_at fields 4;
  least = number_at fields 5;
}

abbrev pub rank_row : List (List ℕ) → RankRow
rank_row fields = record {
  name = name_at fields 1;
  sums = numbers_from fields 4;
}

abbrev pub gain_row : List (List ℕ) → GainRow
gain_row fields = record {
  name = name_at fields 1;
  none = number_at fields 4;
  half = number_at fields 5;
}

abbrev pub room_row : List (List ℕ) → RoomRow
room_row fields = record {
  name = name_at fields 1;
  count = number_at fields 4;
  zero = number_at fields 5;
  least = number_at fields 6;
  tenth = number_at fields 7;
  median = number_at fields 8;
  ninetieth = number_at fields 9;
  greatest = number_at fields 10;
}

abbrev pub load_row : List (List ℕ) → LoadRow
load_row fields = record {
  pick = field_at fields 1;
  rank = number_at fields 2;
  request = field_at fields 3;
  day = number_at fields 4;
  index = number_at fields 5;
  latency = number_at fields 6;
  length = number_at fields 7;
  vertices = number_at fields 8;
  steps = number_at fields 9;
  edges = number_at fields 10;
}

abbrev pub bar_row : List (List ℕ) → BarRow
bar_row fields = record {
  number = number_at fields 1;
  name = name_at fields 2;
  start = number_at fields 5;
  duration = number_at fields 6;
  slack = number_at fields 7;
  on_path = number_at fields 8;
}

abbrev pub pipe_row : List (List ℕ) → PipeRow
pipe_row fields = record {
  first = field_at fields 1;
  second = field_at fields 2;
}

-- a box of one name, and one of all names of a task
abbrev pub name_box : List (List ℕ) → BoxRow
name_box fields = record { number = number_at fields 1; name = name_at fields 2 }

abbrev pub task_box : List (List ℕ) → BoxRow
task_box fields = record { number = number_at fields 1; name = (field_at fields 2, [], []) }

-- where two names overlap first
abbrev pub overlap_part : List (List ℕ) → OverlapPart
overlap_part fields = record {
  day = number_at fields 6;
  index = number_at fields 7;
  request = field_at fields 8;
}

-- the relations between two boxes, with this overlap
abbrev pub between_row : Option OverlapPart → List (List ℕ) → BetweenRow
between_row overlap fields = record {
  first = number_at fields 1;
  second = number_at fields 2;
  both = number_at fields 3;
  before = number_at fields 4;
  exclusive = number_at fields 5;
  overlap = overlap;
}
