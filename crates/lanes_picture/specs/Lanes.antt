-- A load as lanes: one for each task, in the order of first sight, below one for the critical path.
use Rattle.std.specs.Prelude.{ℕ, ◌≡◌, ◌≤◌, ◌+◌, ◌*◌, ◌/◌, ◌++◌, ◌==◌, List, [], ◌∷◌, bytes_eq}
use Rattle.std.specs.Prelude.{codes, if◌then◌else◌, length, true}
use Rattle.std.specs.List.{flat_map, list_any}
use Rattle.markup.specs.Parts.{Fixed, Name, Number, Time, parts_text}
use Rattle.page_rows.specs.declared.load_rows.BarRow.{BarRow}
use Rattle.page_rows.specs.declared.load_rows.LoadRow.{LoadRow}
use Rattle.page_rows.specs.declared.placed_bar.PlacedBar.{PlacedBar}
use Rattle.page_rows.specs.Pages.{PageLists}
use Rattle.picture_parts.specs.Bars.{bar_text}
use Rattle.picture_parts.specs.Names.{arrow, label_text}
use Rattle.picture_parts.specs.Places.{span_of}
use Rattle.picture_parts.specs.declared.span.Span.{Span}
use Rattle.lanes_picture.specs.Texts.{lanes_end, loads_end, loads_start, names_start}
use Rattle.lanes_picture.specs.Texts.{row_start, table_end}

-- the tasks that were seen, with one more
abbrev pub with_task : List (List ℕ) → List ℕ → List (List ℕ)
with_task seen task = if list_any (bytes_eq task) seen then seen else seen ++ task ∷ []

-- those with the task of a bar, if it is of the load with this number
abbrev pub with_bar : ℕ → List (List ℕ) → PlacedBar → List (List ℕ)
with_bar number seen placed =
    if placed.load == number then with_task seen placed.bar.name.0 else seen

-- those with the tasks of bars, in the order of first sight
abbrev pub with_bars : ℕ → List (List ℕ) → List PlacedBar → List (List ℕ)
with_bars number seen [] = seen
with_bars number seen (placed ∷ bars) = with_bars number (with_bar number seen placed) bars

-- the lanes of the load with this number, from 1: its tasks, each once
abbrev pub lanes_of : ℕ → List PlacedBar → List (List ℕ)
lanes_of number bars = with_bars number [] bars

-- the lane of a task, from 0; behind all lanes where it has none
abbrev pub lane_of : List (List ℕ) → List ℕ → ℕ
lane_of [] task = 0
lane_of (lane ∷ lanes) task = if bytes_eq task lane then 0 else 1 + lane_of lanes task

-- where a bar ends, after the beginning of the load
abbrev pub end_of : BarRow → ℕ
end_of bar = bar.start + bar.duration

-- the time of a bar on the width of a load
abbrev pub bar_span : (full : ℕ) → BarRow → Span
bar_span full bar = span_of bar.start (end_of bar) full

-- what is said of a bar
unfoldable pub bar_title : BarRow → List ℕ
bar_title bar = parts_text
    (Fixed (codes "<g><title>") ∷ Name bar.name.0 ∷ Fixed (codes ": ") ∷ Name bar.name.1
    ∷ Fixed (codes " " ++ arrow ++ codes " ") ∷ Name bar.name.2 ∷ Fixed (codes ": ")
    ∷ Time bar.duration ∷ Fixed (codes " from ") ∷ Time bar.start ∷ Fixed (codes ", slack ")
    ∷ Time bar.slack ∷ Fixed (codes "</title>") ∷ [])

-- the bar itself, in a lane that begins so many pixels down: on the critical path it is taller
abbrev pub main_bar : (full y : ℕ) → BarRow → List ℕ
main_bar full y bar =
    if bar.on_path == 1 then bar_text (codes "path") (bar_span full bar) y 16
    else bar_text (codes "off") (bar_span full bar) (y + 1) 11

-- its slack, a light bar behind it
unfoldable pub slack_bar : (full y : ℕ) → BarRow → List ℕ
slack_bar full y bar =
    bar_text (codes "slk") (span_of (end_of bar) (end_of bar + bar.slack) full) (y + 12) 5

-- a bar with its slack and its title
unfoldable pub lane_bar : (full y : ℕ) → BarRow → List ℕ
lane_bar full y bar =
    bar_title bar ++ slack_bar full y bar ++ main_bar full y bar ++ codes "</g>"

-- a bar of the load with this number, in the lane of its task; a lane is 22 pixels high, and the
-- first lane is that of the critical path
abbrev pub placed_text : (number full : ℕ) → List (List ℕ) → PlacedBar → List ℕ
placed_text number full lanes placed = if placed.load == number
    then lane_bar full (22 * lane_of lanes placed.bar.name.0 + 25) placed.bar else []

-- a bar of the critical path in the first lane
abbrev pub path_text : (number full : ℕ) → PlacedBar → List ℕ
path_text number full placed = if placed.load == number
    then (if placed.bar.on_path == 1
    then bar_text (codes "path") (bar_span full placed.bar) 3 16 else [])
    else []

-- the name of a lane
unfoldable pub lane_name : List ℕ → List ℕ
lane_name task = parts_text
    (Fixed (codes "<div class=\"lane\"><bdi>") ∷ Name task ∷ Fixed (codes "</bdi></div>") ∷ [])

-- what a load is
unfoldable pub load_head : LoadRow → List ℕ
load_head load = parts_text
    (Fixed (codes "<details class=\"load\" open><summary><b>") ∷ Name load.pick
    ∷ Fixed (codes "</b> <bdi>") ∷ Name load.request ∷ Fixed (codes "</bdi>, ")
    ∷ Time load.latency ∷ Fixed (codes ": ") ∷ Time load.length ∷ Fixed (codes " in ")
    ∷ Number load.steps ∷ Fixed (codes " segments of the critical path, day ")
    ∷ Number load.day ∷ Fixed (codes ", number ") ∷ Number load.index
    ∷ Fixed (codes "</summary>") ∷ [])

-- the times at the quarters of a load
unfoldable pub axis_text : (latency : ℕ) → List ℕ
axis_text latency = parts_text
    (Fixed (codes "</div><div class=\"plot\"><svg class=\"axis\" width=\"100%\" height=\"14\">")
    ∷ Fixed (codes "<text class=\"first\" y=\"11\">0</text><text x=\"25%\" y=\"11\">")
    ∷ Time (latency / 4) ∷ Fixed (codes "</text><text x=\"50%\" y=\"11\">") ∷ Time (latency / 2)
    ∷ Fixed (codes "</text><text x=\"75%\" y=\"11\">") ∷ Time (3 * latency / 4)
    ∷ Fixed (codes "</text></svg>") ∷ [])

-- how the picture of so many lanes begins
unfoldable pub lanes_start : ℕ → List ℕ
lanes_start count = parts_text
    (Fixed (codes "<svg class=\"g\" width=\"100%\" height=\"") ∷ Number (22 * count + 26)
    ∷ Fixed (codes "\">") ∷ [])

-- the figures of a bar
unfoldable pub bar_figures : BarRow → List ℕ
bar_figures bar = parts_text
    (Fixed (codes "<td>") ∷ Time bar.start ∷ Fixed (codes "<td>") ∷ Time bar.duration
    ∷ Fixed (codes "<td>") ∷ Time bar.slack ∷ Fixed (codes "</tr>") ∷ [])

-- the row of a bar
unfoldable pub bar_row : BarRow → List ℕ
bar_row bar = row_start ++ label_text bar.name ++ bar_figures bar

abbrev pub row_of_placed : ℕ → PlacedBar → List ℕ
row_of_placed number placed = if placed.load == number then bar_row placed.bar else []

-- the picture of a load with these lanes: the critical path over a hatched bar of all its time,
-- each bar of the load in the lane of its task, and each in a table
unfoldable pub picture_text : (number : ℕ) → LoadRow → List PlacedBar → List (List ℕ) → List ℕ
picture_text number load bars lanes = lanes_start (length lanes)
    ++ bar_text (codes "wait") (span_of 0 load.latency load.latency) 3 16
    ++ flat_map (path_text number load.latency) bars
    ++ flat_map (placed_text number load.latency lanes) bars
    ++ lanes_end ++ flat_map (row_of_placed number) bars ++ table_end

unfoldable pub load_text : (number : ℕ) → LoadRow → List PlacedBar → List ℕ
load_text number load bars = load_head load ++ names_start
    ++ flat_map lane_name (lanes_of number bars) ++ axis_text load.latency
    ++ picture_text number load bars (lanes_of number bars)

-- the loads, the first with this number
abbrev pub loads_from : ℕ → List PlacedBar → List LoadRow → List ℕ
loads_from number bars [] = []
loads_from number bars (load ∷ loads) =
    load_text number load bars ++ loads_from (number + 1) bars loads

-- all loads of a page
unfoldable pub loads_text : PageLists → List ℕ
loads_text p = loads_start ++ loads_from 1 p.bars p.loads ++ loads_end

-- a bar is within the width
abbrev pub BarsAreWithin : Type 0
BarsAreWithin =
    (full : ℕ) (bar : BarRow) → (bar_span full bar).x + (bar_span full bar).width ≤ 100000

-- bars of which the first ends before the second begins don't overlap
abbrev pub BarsAreApart : Type 0
BarsAreApart = (full : ℕ) (first second : BarRow) → end_of first ≤ second.start
    → (bar_span full first).x + (bar_span full first).width ≤ (bar_span full second).x

-- the task of each bar of a load has a lane
abbrev pub TasksHaveLanes : Type 0
TasksHaveLanes = (number : ℕ) (bars before after : List PlacedBar) (placed : PlacedBar)
    → bars ≡ before ++ placed ∷ after → placed.load ≡ number
    → list_any (bytes_eq placed.bar.name.0) (lanes_of number bars) ≡ true

-- two tasks of which one has a lane don't share it
abbrev pub LanesAreOfOneTask : Type 0
LanesAreOfOneTask = (lanes : List (List ℕ)) (task other : List ℕ)
    → list_any (bytes_eq task) lanes ≡ true → lane_of lanes task ≡ lane_of lanes other
    → task ≡ other
