-- What a line says: a row, or why it is none; and where rows may stand.
use Rattle.std.specs.Prelude.{ℕ, ◌==◌, ◌&&◌, ◌||◌, List, Bool, if◌then◌else◌, length, nat_eq}
use Rattle.std.specs.Prelude.{nat_le}
use Rattle.std.specs.Prelude.{nat_lt, not, Option, Some, None, Result, Ok, Err, [], ◌∷◌}
use Rattle.std.specs.List.{list_any}
use Rattle.std.specs.Str.{is_utf8}
use Rattle.page_rows.specs.declared.kind.Kind.{Kind}
use Rattle.page_rows.specs.declared.kind.Kind.TheVariants as kinds
use Rattle.page_rows.specs.declared.row.Row.{Row}
use Rattle.page_rows.specs.declared.row.Row.TheVariants as rows
use Rattle.page_rows.specs.declared.why.Why.{Why}
use Rattle.page_rows.specs.declared.why.Why.TheVariants.{NotUtf8, NoRow, NoNumber}
use Rattle.page_rows.specs.Fields.{field_at, line_fields}
use Rattle.page_rows.specs.Kinds.{has_form, kind_of}
use Rattle.page_rows.specs.RowFields as parts

-- the row of this kind with these fields
abbrev pub row_of : Kind → List (List ℕ) → Row
row_of kinds.Refused fields = rows.Refused (parts.refused_row fields)
row_of kinds.Report fields = rows.Report (parts.report_head fields)
row_of kinds.Latency fields = rows.Latency (parts.latency_row fields)
row_of kinds.Segment fields = rows.Segment (parts.segment_row fields)
row_of kinds.Tail fields = rows.Tail (parts.tail_head fields)
row_of kinds.TailSegment fields = rows.TailSegment (parts.tail_row fields)
row_of kinds.Ranks fields = rows.Ranks
row_of kinds.Bucket fields = rows.Bucket (parts.bucket_row fields)
row_of kinds.Rank fields = rows.Rank (parts.rank_row fields)
row_of kinds.Gains fields = rows.Gains
row_of kinds.Gain fields = rows.Gain (parts.gain_row fields)
row_of kinds.Rooms fields = rows.Rooms
row_of kinds.Room fields = rows.Room (parts.room_row fields)
row_of kinds.Loads fields = rows.Loads
row_of kinds.Load fields = rows.Load (parts.load_row fields)
row_of kinds.Bar fields = rows.Bar (parts.bar_row fields)
row_of kinds.NameBox fields = rows.Box (parts.name_box fields)
row_of kinds.TaskBox fields = rows.Box (parts.task_box fields)
row_of kinds.Between fields = rows.Between (parts.between_row None fields)
row_of kinds.Overlap fields =
    rows.Between (parts.between_row (Some (parts.overlap_part fields)) fields)
row_of kinds.Pipe fields = rows.Pipe (parts.pipe_row fields)

-- the row with these fields, if it is one
abbrev pub row_as : Option Kind → List (List ℕ) → Result Row Why
row_as None fields = Err NoRow
row_as (Some kind) fields = if has_form kind fields then Ok (row_of kind fields) else Err NoNumber

-- the row of fields, the first being its word
abbrev pub row_of_fields : List (List ℕ) → Result Row Why
row_of_fields fields = row_as (kind_of (field_at fields 0) (length fields)) fields

-- the row that a line says, or why it says none
abbrev pub row_said : List ℕ → Result Row Why
row_said line = if is_utf8 line then row_of_fields (line_fields line) else Err NotUtf8

-- where a row stands: rows stand in the order of these numbers
abbrev pub stage_of : Row → ℕ
stage_of (rows.Refused row) = 0
stage_of (rows.Report row) = 1
stage_of (rows.Latency row) = 2
stage_of (rows.Segment row) = 3
stage_of (rows.Tail row) = 4
stage_of (rows.TailSegment row) = 5
stage_of rows.Ranks = 6
stage_of (rows.Bucket row) = 7
stage_of (rows.Rank row) = 8
stage_of rows.Gains = 9
stage_of (rows.Gain row) = 10
stage_of rows.Rooms = 11
stage_of (rows.Room row) = 12
stage_of rows.Loads = 13
stage_of (rows.Load row) = 14
stage_of (rows.Bar row) = 15
stage_of (rows.Box row) = 16
stage_of (rows.Between row) = 17
stage_of (rows.Pipe row) = 18

-- the heads, each of which stands once
abbrev pub heads : List ℕ
heads = 1 ∷ 2 ∷ 4 ∷ 6 ∷ 9 ∷ 11 ∷ 13 ∷ []

-- the head that has to come after a row; 19 is none
abbrev pub next_head : ℕ → ℕ
next_head stage =
    if nat_lt stage 1 then 1 else if nat_lt stage 2 then 2 else if nat_lt stage 4 then 4
    else if nat_lt stage 6 then 6 else if nat_lt stage 9 then 9
    else if nat_lt stage 11 then 11 else if nat_lt stage 13 then 13 else 19

-- a row that is no head may stand behind one that stands no later and before the next head; a load
-- also behind a bar, and a bar behind a load or a bar
abbrev pub may_repeat : (before now : ℕ) → Bool
may_repeat before now = (before == 15 && now == 14)
    || (nat_le before now && nat_lt now (next_head before) && not (now == 15 && nat_lt before 14))

-- a row may stand behind another
abbrev pub may_follow : (before now : ℕ) → Bool
may_follow before now =
    if list_any (nat_eq now) heads then now == next_head before else may_repeat before now

-- a page may end behind a row: all heads have come
abbrev pub may_end : ℕ → Bool
may_end stage = nat_le 13 stage
