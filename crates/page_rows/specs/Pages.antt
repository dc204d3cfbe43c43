-- What a text says: rows in order, and the lists that they make.
use Rattle.std.specs.Prelude.{ℕ, ◌≡◌, ◌+◌, ◌==◌, List, [], ◌∷◌, ◌++◌, length, if◌then◌else◌}
use Rattle.std.specs.Prelude.{⊤, Result, Ok, Err}
use Rattle.page_rows.specs.declared.report_rows.RefusedRow.{RefusedRow}
use Rattle.page_rows.specs.declared.report_rows.ReportHead.{ReportHead}
use Rattle.page_rows.specs.declared.report_rows.LatencyRow.{LatencyRow}
use Rattle.page_rows.specs.declared.report_rows.SegmentRow.{SegmentRow}
use Rattle.page_rows.specs.declared.tail_rows.TailHead.{TailHead}
use Rattle.page_rows.specs.declared.tail_rows.TailRow.{TailRow}
use Rattle.page_rows.specs.declared.tail_rows.BucketRow.{BucketRow}
use Rattle.page_rows.specs.declared.tail_rows.RankRow.{RankRow}
use Rattle.page_rows.specs.declared.gain_rows.GainRow.{GainRow}
use Rattle.page_rows.specs.declared.gain_rows.RoomRow.{RoomRow}
use Rattle.page_rows.specs.declared.load_rows.LoadRow.{LoadRow}
use Rattle.page_rows.specs.declared.model_rows.BoxRow.{BoxRow}
use Rattle.page_rows.specs.declared.model_rows.BetweenRow.{BetweenRow}
use Rattle.page_rows.specs.declared.model_rows.PipeRow.{PipeRow}
use Rattle.page_rows.specs.declared.placed_bar.PlacedBar.{PlacedBar}
use Rattle.page_rows.specs.declared.page_error.PageError.{PageError}
use Rattle.page_rows.specs.declared.page_error.PageError.TheVariants.{Memory, Bad}
use Rattle.page_rows.specs.declared.row.Row.{Row}
use Rattle.page_rows.specs.declared.row.Row.TheVariants as rows
use Rattle.page_rows.specs.declared.why.Why.{Why}
use Rattle.page_rows.specs.declared.why.Why.TheVariants.{Misplaced, Unfinished}
use Rattle.page_rows.specs.Fields.{text_lines}
use Rattle.page_rows.specs.Rows.{may_end, may_follow, row_said, stage_of}

-- the first bad line, by its number from 1, and why it is bad
pub record LineFault : Type 0 where
  pub line : ℕ
  pub why : Why

-- the row of a line with this number, where it may stand behind a row
abbrev pub placed_row : (before number : ℕ) → Result Row Why → Result Row LineFault
placed_row before number (Ok row) =
    if may_follow before (stage_of row) then Ok row
    else Err (record { line = number; why = Misplaced })
placed_row before number (Err why) = Err (record { line = number; why = why })

-- rows, and then those of the lines behind them
abbrev pub after_rows : List Row → Result (List Row) LineFault → Result (List Row) LineFault
after_rows rows (Ok more) = Ok (rows ++ more)
after_rows rows (Err fault) = Err fault

-- what follows a row, if it is one
abbrev pub row_then : Result Row LineFault → (Row → Result (List Row) LineFault)
    → Result (List Row) LineFault
row_then (Ok row) more = more row
row_then (Err fault) more = Err fault

-- the rows of lines behind a row, the first with this number, or the first bad line; an empty line
-- says nothing
abbrev pub rows_said : (before number : ℕ) → List (List ℕ) → Result (List Row) LineFault
rows_said before number [] =
    if may_end before then Ok [] else Err (record { line = number; why = Unfinished })
rows_said before number (line ∷ lines) =
    if length line == 0 then rows_said before (number + 1) lines
    else row_then (placed_row before number (row_said line))
    (λ row. after_rows (row ∷ []) (rows_said (stage_of row) (number + 1) lines))

-- the lists of a page: its rows by kind, in their order; times are in nanoseconds
pub record PageLists : Type 0 where
  -- the heads of the reports, and the figures of the latencies
  pub report : ReportHead
  pub latency : LatencyRow
  pub tail : TailHead
  -- the traces that were refused
  pub refused : List RefusedRow
  -- the figures of each name
  pub segments : List SegmentRow
  -- those on the slowest loads
  pub tail_segments : List TailRow
  -- the loads, rank by rank
  pub buckets : List BucketRow
  -- the time of each name, rank by rank
  pub ranks : List RankRow
  -- the gain of each name
  pub gains : List GainRow
  -- the slack of each name
  pub rooms : List RoomRow
  -- the loads that are shown
  pub loads : List LoadRow
  -- their segments, each behind the number of its load, from 1
  pub bars : List PlacedBar
  -- the boxes of the model
  pub boxes : List BoxRow
  -- the relations between them
  pub betweens : List BetweenRow
  -- the pipelines
  pub pipes : List PipeRow

-- a page before its first row
abbrev pub no_lists : PageLists
no_lists = record {
  report = record { traces = 0; critical = 0 };
  latency = record { count = 0; sum = 0; median = 0; greatest = 0 };
  tail = record { traces = 0; slow = 0; floor = 0 };
  refused = [];
  segments = [];
  tail_segments = [];
  buckets = [];
  ranks = [];
  gains = [];
  rooms = [];
  loads = [];
  bars = [];
  boxes = [];
  betweens = [];
  pipes = [];
}

-- a page with a row more: it stands at the end of its list
abbrev pub with_row : PageLists → Row → PageLists
with_row p (rows.Refused row) = record p { refused = p.refused ++ row ∷ [] }
with_row p (rows.Report row) = record p { report = row }
with_row p (rows.Latency row) = record p { latency = row }
with_row p (rows.Segment row) = record p { segments = p.segments ++ row ∷ [] }
with_row p (rows.Tail row) = record p { tail = row }
with_row p (rows.TailSegment row) = record p { tail_segments = p.tail_segments ++ row ∷ [] }
with_row p rows.Ranks = p
with_row p (rows.Bucket row) = record p { buckets = p.buckets ++ row ∷ [] }
with_row p (rows.Rank row) = record p { ranks = p.ranks ++ row ∷ [] }
with_row p rows.Gains = p
with_row p (rows.Gain row) = record p { gains = p.gains ++ row ∷ [] }
with_row p rows.Rooms = p
with_row p (rows.Room row) = record p { rooms = p.rooms ++ row ∷ [] }
with_row p rows.Loads = p
with_row p (rows.Load row) = record p { loads = p.loads ++ row ∷ [] }
with_row p (rows.Bar row) =
    record p { bars = p.bars ++ record { load = length p.loads; bar = row } ∷ [] }
with_row p (rows.Box row) = record p { boxes = p.boxes ++ row ∷ [] }
with_row p (rows.Between row) = record p { betweens = p.betweens ++ row ∷ [] }
with_row p (rows.Pipe row) = record p { pipes = p.pipes ++ row ∷ [] }

-- a page with more rows, in their order
abbrev pub with_rows : PageLists → List Row → PageLists
with_rows p [] = p
with_rows p (row ∷ more) = with_rows (with_row p row) more

-- the page of these rows
abbrev pub page_of : Result (List Row) LineFault → Result PageLists LineFault
page_of (Ok rows) = Ok (with_rows no_lists rows)
page_of (Err fault) = Err fault

-- the page that a text says, or its first bad line
abbrev pub page_said : List ℕ → Result PageLists LineFault
page_said text = page_of (rows_said 0 1 (text_lines text))

-- why a text was not read: out of memory, or its first bad line
abbrev pub IsPageError : {X : Type 0} → Result X LineFault → PageError → Type 0
IsPageError said Memory = ⊤
IsPageError said (Bad line why) = said ≡ Err (record { line = line; why = why })
