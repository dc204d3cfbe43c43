-- What a row shows: its columns, the label behind them, and the titles below it.
use Rattle.std.specs.Prelude.{ℕ, ◌-◌, ◌/◌, ◌++◌, ◌≡◌, [], ◌∷◌, List, codes}
use Rattle.std.specs.Prelude.{decimal, max}
use Rattle.pretty_cli.specs.declared.cell.Cell.{Cell}
use Rattle.pretty_cli.specs.declared.cell.Cell.TheVariants.{Absent, Empty, Difference, Share, Time}
use Rattle.pretty_cli.specs.declared.context.Context.{Context}
use Rattle.pretty_cli.specs.declared.context.Kind.{Kind}
use Rattle.pretty_cli.specs.declared.context.Kind.TheVariants as kinds
use Rattle.pretty_cli.specs.declared.context.View.{View}
use Rattle.pretty_cli.specs.declared.context.View.TheVariants as views
use Rattle.pretty_cli.specs.Dates.{IsDateText}
use Rattle.pretty_cli.specs.Durations.{duration_text}
use Rattle.pretty_cli.specs.Fields.{field_at, figure_of, number_at}
use Rattle.pretty_cli.specs.Relations.{arrow, counts_text, exclusion_cells, exclusion_text}
use Rattle.pretty_cli.specs.Relations.{nearly_text, order_cells, order_text, pipe_text}
use Rattle.pretty_cli.specs.Relations.{support_cells, support_place}

-- a duration in a field
abbrev pub time_at : List (List ℕ) → ℕ → Cell
time_at fields index = Time (number_at fields index)

-- a sum divided among so many; all of it where there are none
abbrev pub each_of : ℕ → ℕ → ℕ
each_of sum count = sum / max count 1

-- a segment of `report`: its time on critical paths, the share of them, and its median and its
-- greatest duration
abbrev pub report_cells : Context → List (List ℕ) → List Cell
report_cells c fields =
    time_at fields 9 ∷ Share (number_at fields 9) c.total ∷ time_at fields 6 ∷ time_at fields 7 ∷ []

-- a segment of `tail`: how much longer it is on the path of a slow trace, and how long on that of a
-- slow one and of another
abbrev pub tail_cells : Context → List (List ℕ) → List Cell
tail_cells c fields =
    let slow = each_of (number_at fields 5) c.slow in
    let other = each_of (number_at fields 7) c.others in
    Difference slow other ∷ Time slow ∷ Time other ∷ Absent ∷ []

-- a trace of `whatif`: what its critical path loses, the share of it, and its length before and
-- after
abbrev pub forecast_cells : List (List ℕ) → List Cell
forecast_cells fields =
    let before = number_at fields 3 in
    let gain = before - number_at fields 4 in
    Time gain ∷ Share gain before ∷ Time before ∷ time_at fields 4 ∷ []

-- the columns of a segment, by its view
abbrev pub segment_cells : Context → View → List (List ℕ) → List Cell
segment_cells c views.Report fields = report_cells c fields
segment_cells c views.Tail fields = tail_cells c fields
segment_cells c _ fields = time_at fields 5 ∷ time_at fields 4 ∷ Empty ∷ Absent ∷ []

-- the columns of a trace: its latency last, and the length of its critical path
abbrev pub trace_cells : View → List (List ℕ) → List Cell
trace_cells views.Paths fields = time_at fields 4 ∷ Empty ∷ time_at fields 3 ∷ Absent ∷ []
trace_cells _ fields = Empty ∷ time_at fields 4 ∷ time_at fields 3 ∷ Absent ∷ []

-- the columns of a row
abbrev pub cells_of : Context → Kind → List (List ℕ) → List Cell
cells_of c kinds.Segment fields = segment_cells c c.view fields
cells_of c kinds.Trace fields = trace_cells c.view fields
cells_of c kinds.Step fields =
    time_at fields 4 ∷ Share (number_at fields 4) c.total ∷ Empty ∷ Absent ∷ []
cells_of c kinds.Forecast fields = forecast_cells fields
cells_of c kinds.Order fields = order_cells fields
cells_of c kinds.Exclusion fields = exclusion_cells fields
cells_of c kinds.Pipe fields = support_cells fields 3
cells_of c kinds.Nearly fields = support_cells fields (support_place fields)
cells_of c _ fields = Absent ∷ Absent ∷ Absent ∷ Absent ∷ []

-- the name of a segment: `task: start → end`
abbrev pub name_text : List (List ℕ) → List ℕ
name_text fields = field_at fields 1 ++ codes ": " ++ field_at fields 2 ++ arrow ++ field_at fields 3

-- a name, on how many critical paths it is, and how often it was seen
abbrev pub counted_text : List (List ℕ) → List ℕ
counted_text fields = name_text fields ++ codes " (" ++ field_at fields 8 ++ codes " of "
    ++ field_at fields 4 ++ codes ")"

-- how many traces a header tells
abbrev pub traces_text : List (List ℕ) → List ℕ
traces_text fields =
    codes "traces: " ++ decimal (figure_of (codes "traces=") (field_at fields 1))

-- the duration that a header has behind a name
abbrev pub header_time : List ℕ → List ℕ → List ℕ
header_time name field = duration_text (figure_of name field)

-- what a header tells
abbrev pub header_text : View → List (List ℕ) → List ℕ
header_text views.Report fields = traces_text fields ++ codes ", critical paths: "
    ++ header_time (codes "critical=") (field_at fields 2) ++ codes " together"
header_text views.Tail fields = traces_text fields ++ codes ", slow: "
    ++ decimal (figure_of (codes "slow=") (field_at fields 2)) ++ codes " of "
    ++ header_time (codes "floor=") (field_at fields 3) ++ codes " or more"
header_text views.WhatIf fields = traces_text fields ++ codes ", critical paths: "
    ++ header_time (codes "before=") (field_at fields 2) ++ codes " together, then "
    ++ header_time (codes "after=") (field_at fields 3)
header_text views.Evidence fields = traces_text fields ++ counts_text fields
header_text _ fields = traces_text fields ++ codes ", the slowest first"

-- what the latencies of a report tell
abbrev pub latency_text : List (List ℕ) → List ℕ
latency_text fields = codes "latency: median " ++ duration_text (number_at fields 3)
    ++ codes ", greatest " ++ duration_text (number_at fields 4)
    ++ codes ", " ++ duration_text (number_at fields 2) ++ codes " together"

-- a request and its day
abbrev pub IsRequestText : List (List ℕ) → List ℕ → Type 0
IsRequestText fields text = (date : List ℕ) × IsDateText (number_at fields 2) date
    × (text ≡ field_at fields 1 ++ codes ", " ++ date)

-- the name of a segment, in `report` with its counts
abbrev pub segment_text : View → List (List ℕ) → List ℕ
segment_text views.Report fields = counted_text fields
segment_text _ fields = name_text fields

-- the text is the label of a row
abbrev pub IsLabel : Context → Kind → List (List ℕ) → List ℕ → Type 0
IsLabel c kinds.Header fields text = text ≡ header_text c.view fields
IsLabel c kinds.Latency fields text = text ≡ latency_text fields
IsLabel c kinds.Segment fields text = text ≡ segment_text c.view fields
IsLabel c kinds.Trace fields text = IsRequestText fields text
IsLabel c kinds.Step fields text = text ≡ name_text fields
IsLabel c kinds.Forecast fields text = IsRequestText fields text
IsLabel c kinds.Order fields text = text ≡ order_text fields
IsLabel c kinds.Exclusion fields text = text ≡ exclusion_text fields
IsLabel c kinds.Pipe fields text = text ≡ pipe_text fields
IsLabel c kinds.Nearly fields text = text ≡ nearly_text fields
IsLabel c kinds.Other fields text = text ≡ []
