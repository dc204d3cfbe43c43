-- What the rows of `evidence` show.
use Rattle.std.specs.Prelude.{ℕ, ◌+◌, ◌++◌, [], ◌∷◌, List, bytes_eq, codes, decimal, drop, nat_eq}
use Rattle.std.specs.Prelude.{if◌then◌else◌}
use Rattle.std.specs.List.{starts_with}
use Rattle.pretty_cli.specs.declared.cell.Cell.{Cell}
use Rattle.pretty_cli.specs.declared.cell.Cell.TheVariants.{Absent, Count, Difference, Empty, Time}
use Rattle.pretty_cli.specs.Fields.{field_at, figure_of, number_at, number_of}

-- an arrow in UTF-8, between spaces
abbrev pub arrow : List ℕ
arrow = 32 ∷ 226 ∷ 134 ∷ 146 ∷ 32 ∷ []

-- the name of a segment whose three texts begin at a field: `task: start → end`
abbrev pub named_at : List (List ℕ) → ℕ → List ℕ
named_at fields at =
    field_at fields at ++ codes ": " ++ field_at fields (at + 1) ++ arrow ++ field_at fields (at + 2)

-- a gap in nanoseconds, which may be negative
abbrev pub gap_cell : List ℕ → Cell
gap_cell text =
    if starts_with nat_eq text (codes "-") then Difference 0 (number_of (drop 1 text))
    else Time (number_of text)

-- a number of traces in a field
abbrev pub count_at : List (List ℕ) → ℕ → Cell
count_at fields index = Count (number_at fields index)

-- an order: how many traces have both names, and the least and the greatest gap
abbrev pub order_cells : List (List ℕ) → List Cell
order_cells fields =
    count_at fields 7 ∷ gap_cell (field_at fields 8) ∷ gap_cell (field_at fields 9) ∷ Absent ∷ []

-- a mutual exclusion: how many traces have both names, and the least gap
abbrev pub exclusion_cells : List (List ℕ) → List Cell
exclusion_cells fields =
    count_at fields 7 ∷ gap_cell (field_at fields 10) ∷ Empty ∷ Absent ∷ []

-- where a row of a relation that few traces refute has the number of those that support it: its
-- sides are two tasks, or two names
abbrev pub support_place : List (List ℕ) → ℕ
support_place fields = if bytes_eq (field_at fields 1) (codes "pipe") then 4 else 8

-- a number of traces, alone in its row
abbrev pub support_cells : List (List ℕ) → ℕ → List Cell
support_cells fields index = count_at fields index ∷ Empty ∷ Empty ∷ Absent ∷ []

-- two names that come one after the other, or never at once
abbrev pub order_text : List (List ℕ) → List ℕ
order_text fields = named_at fields 1 ++ codes ", then " ++ named_at fields 4

abbrev pub exclusion_text : List (List ℕ) → List ℕ
exclusion_text fields = named_at fields 1 ++ codes ", never with " ++ named_at fields 4

-- two tasks, the one before the other
abbrev pub tasks_text : List (List ℕ) → List ℕ
tasks_text fields = field_at fields 1 ++ codes ", then " ++ field_at fields 2

-- two tasks between which elements pass, and how many do
abbrev pub pipe_text : List (List ℕ) → List ℕ
pipe_text fields = tasks_text fields ++ codes ", elements: " ++ field_at fields 4

-- the two sides of a relation that few traces refute
abbrev pub sides_text : List (List ℕ) → List ℕ
sides_text fields =
    if bytes_eq (field_at fields 1) (codes "pipe")
    then field_at fields 2 ++ codes ", " ++ field_at fields 3
    else named_at fields 2 ++ codes ", " ++ named_at fields 5

-- how many traces refute it, its kind and its sides, and the request of the first that does
abbrev pub nearly_text : List (List ℕ) → List ℕ
nearly_text fields = codes "but for " ++ field_at fields (support_place fields + 1) ++ codes ", "
    ++ field_at fields 1 ++ codes ": " ++ sides_text fields ++ codes "; first "
    ++ field_at fields (support_place fields + 4)

-- how many relations of each kind follow
abbrev pub counts_text : List (List ℕ) → List ℕ
counts_text fields = codes ", before: " ++ decimal (figure_of (codes "hb=") (field_at fields 2))
    ++ codes ", exclusive: " ++ decimal (figure_of (codes "mx=") (field_at fields 3))
    ++ codes ", pipe: " ++ decimal (figure_of (codes "pipe=") (field_at fields 4))
    ++ codes ", nearly: " ++ decimal (figure_of (codes "nearly=") (field_at fields 5))
