-- What a row is, by its word and by how many fields it has; and which of its fields are numbers.
use Rattle.std.specs.Prelude.{ℕ, ◌==◌, ◌&&◌, [], ◌∷◌, List, Bool, true, codes, bytes_eq, drop}
use Rattle.std.specs.Prelude.{if◌then◌else◌, nat_lt, Option, Some, None}
use Rattle.std.specs.List.{list_all}
use Rattle.page_rows.specs.declared.kind.Kind.{Kind}
use Rattle.page_rows.specs.declared.kind.Kind.TheVariants as kinds
use Rattle.page_rows.specs.Fields.{field_at, is_figure, is_number}

-- a kind, where the row has so many fields
abbrev pub kind_if : Bool → Kind → Option Kind
kind_if fits kind = if fits then Some kind else None

-- one kind with so many fields, and one with other fields
abbrev pub kind_of_two : ℕ → ℕ → Kind → ℕ → Kind → Option Kind
kind_of_two count first kind second other =
    if count == first then Some kind else if count == second then Some other else None

-- what a row with this word and so many fields is
abbrev pub kind_of : List ℕ → ℕ → Option Kind
kind_of word count =
    if bytes_eq word (codes "refused") then kind_if (count == 4) kinds.Refused
    else if bytes_eq word (codes "report") then kind_if (count == 3) kinds.Report
    else if bytes_eq word (codes "latency") then kind_if (count == 5) kinds.Latency
    else if bytes_eq word (codes "segment")
    then kind_of_two count 10 kinds.Segment 8 kinds.TailSegment
    else if bytes_eq word (codes "tail") then kind_if (count == 4) kinds.Tail
    else if bytes_eq word (codes "ranks") then kind_if (count == 3) kinds.Ranks
    else if bytes_eq word (codes "bucket") then kind_if (count == 6) kinds.Bucket
    else if bytes_eq word (codes "rank") then kind_if (nat_lt 4 count) kinds.Rank
    else if bytes_eq word (codes "gain") then kind_of_two count 3 kinds.Gains 6 kinds.Gain
    else if bytes_eq word (codes "room") then kind_of_two count 2 kinds.Rooms 11 kinds.Room
    else if bytes_eq word (codes "loads") then kind_if (count == 2) kinds.Loads
    else if bytes_eq word (codes "load") then kind_if (count == 11) kinds.Load
    else if bytes_eq word (codes "bar") then kind_if (count == 9) kinds.Bar
    else if bytes_eq word (codes "box") then kind_of_two count 5 kinds.NameBox 3 kinds.TaskBox
    else if bytes_eq word (codes "between") then kind_of_two count 6 kinds.Between 9 kinds.Overlap
    else if bytes_eq word (codes "pipe") then kind_if (count == 3) kinds.Pipe
    else None

-- the places of its fields that are numbers
abbrev pub number_places : Kind → List ℕ
number_places kinds.Refused = 3 ∷ []
number_places kinds.Report = []
number_places kinds.Latency = 1 ∷ 2 ∷ 3 ∷ 4 ∷ []
number_places kinds.Segment = 4 ∷ 5 ∷ 6 ∷ 7 ∷ 8 ∷ 9 ∷ []
number_places kinds.Tail = []
number_places kinds.TailSegment = 4 ∷ 5 ∷ 6 ∷ 7 ∷ []
number_places kinds.Ranks = []
number_places kinds.Bucket = 1 ∷ 2 ∷ 3 ∷ 4 ∷ 5 ∷ []
number_places kinds.Rank = []
number_places kinds.Gains = []
number_places kinds.Gain = 4 ∷ 5 ∷ []
number_places kinds.Rooms = []
number_places kinds.Room = 4 ∷ 5 ∷ 6 ∷ 7 ∷ 8 ∷ 9 ∷ 10 ∷ []
number_places kinds.Loads = []
number_places kinds.Load = 2 ∷ 4 ∷ 5 ∷ 6 ∷ 7 ∷ 8 ∷ 9 ∷ 10 ∷ []
number_places kinds.Bar = 1 ∷ 5 ∷ 6 ∷ 7 ∷ 8 ∷ []
number_places kinds.NameBox = 1 ∷ []
number_places kinds.TaskBox = 1 ∷ []
number_places kinds.Between = 1 ∷ 2 ∷ 3 ∷ 4 ∷ 5 ∷ []
number_places kinds.Overlap = 1 ∷ 2 ∷ 3 ∷ 4 ∷ 5 ∷ 6 ∷ 7 ∷ []
number_places kinds.Pipe = []

-- a figure in a field
abbrev pub has_figure : List (List ℕ) → ℕ → List ℕ → Bool
has_figure fields place name = is_figure name (field_at fields place)

-- the figures of a head are figures, and the sums of a rank are numbers
abbrev pub are_figures : Kind → List (List ℕ) → Bool
are_figures kinds.Report fields = has_figure fields 1 (codes "traces=")
    && has_figure fields 2 (codes "critical=")
are_figures kinds.Tail fields = has_figure fields 1 (codes "traces=")
    && has_figure fields 2 (codes "slow=") && has_figure fields 3 (codes "floor=")
are_figures kinds.Ranks fields = has_figure fields 1 (codes "traces=")
    && has_figure fields 2 (codes "buckets=")
are_figures kinds.Gains fields = has_figure fields 1 (codes "traces=")
    && has_figure fields 2 (codes "critical=")
are_figures kinds.Rooms fields = has_figure fields 1 (codes "traces=")
are_figures kinds.Loads fields = has_figure fields 1 (codes "loads=")
are_figures kinds.Rank fields = list_all is_number (drop 4 fields)
are_figures kind fields = true

-- the fields of a row of this kind have its form
abbrev pub has_form : Kind → List (List ℕ) → Bool
has_form kind fields = list_all (λ place. is_number (field_at fields place)) (number_places kind)
    && are_figures kind fields
