-- The printed rows of a page besides those of the reports. Times are in nanoseconds.
use Rattle.std.specs.Prelude.{ℕ, nat_lt, List, [], ◌∷◌, ◌++◌, map, flat_map, codes}
use Rattle.std.specs.Prelude.{decimal, if◌then◌else◌, Option, Some, None}
use Rattle.std.specs.List.{enumerate_from, range_with_len}
use Rattle.evidence_rules.specs.RowTexts.{name_fields}
use Rattle.page_rules.specs.Boxes.{Box, OfName, OfTask}
use Rattle.page_rules.specs.declared.bar.Bar.{Bar}
use Rattle.page_rules.specs.declared.box_relations.BoxRelations.{BoxRelations}
use Rattle.page_rules.specs.declared.load_figures.LoadFigures.{LoadFigures}
use Rattle.slack_spread.specs.declared.spread.Spread.{Spread}
use Rattle.text_rows.specs.Rows.{figure, row_of}
use Rattle.trace_types.specs.Segments.{SegmentName}

-- `ranks`, how many traces there are, and in how many buckets they are
abbrev pub ranks_line : ℕ → ℕ → List ℕ
ranks_line traces buckets =
    row_of (codes "ranks" ∷ figure (codes "traces") traces ∷ figure (codes "buckets") buckets ∷ [])

-- `bucket`, its number, how many traces it has, the sums of their latencies and of the lengths of
-- their critical paths, and the least latency
abbrev pub bucket_line : (number count latency length_sum least : ℕ) → List ℕ
bucket_line number count latency length_sum least =
    row_of (codes "bucket" ∷ map decimal (number ∷ count ∷ latency ∷ length_sum ∷ least ∷ []))

-- `rank`, a name, and its time on the critical paths of each bucket
abbrev pub rank_line : SegmentName → List ℕ → List ℕ
rank_line name times = row_of (codes "rank" ∷ name_fields name ++ map decimal times)

-- `gain`, how many traces there are, and how long their critical paths are together
abbrev pub gains_line : (traces critical : ℕ) → List ℕ
gains_line traces critical =
    row_of (codes "gain" ∷ figure (codes "traces") traces ∷ figure (codes "critical") critical ∷ [])

-- `gain`, a name, and by how much the critical paths would be shorter together if its segments took
-- no time, and half
abbrev pub gain_line : SegmentName → (none half : ℕ) → List ℕ
gain_line name none half =
    row_of (codes "gain" ∷ name_fields name ++ map decimal (none ∷ half ∷ []))

-- `room`, a name, and the spread of its slacks
abbrev pub room_line : SegmentName → Spread → List ℕ
room_line name s =
    row_of (codes "room" ∷ name_fields name ++ map decimal (s.count ∷ s.zero ∷ s.least ∷ s.tenth
    ∷ s.median ∷ s.ninetieth ∷ s.greatest ∷ []))

-- `loads`, and how many are shown
abbrev pub loads_line : ℕ → List ℕ
loads_line loads = row_of (codes "loads" ∷ figure (codes "loads") loads ∷ [])

-- `load`, its pick, its rank, its request, its day, its index among those of its day, its latency,
-- the length of its critical path, and how many vertices, steps and edges it has
abbrev pub load_line : (pick : List ℕ) → (rank : ℕ) → (request : List ℕ)
    → (day index latency : ℕ) → LoadFigures → List ℕ
load_line pick rank request day index latency f =
    row_of (codes "load" ∷ pick ∷ decimal rank ∷ request ∷ map decimal (day ∷ index ∷ latency
    ∷ f.length ∷ f.vertices ∷ f.steps ∷ f.edges ∷ []))

-- `bar`, its number, its name, its start, its duration, its slack, and 1 on the critical path, 0
-- beside it
abbrev pub bar_line : ℕ → Bar SegmentName → List ℕ
bar_line number bar =
    row_of (codes "bar" ∷ decimal number ∷ name_fields bar.name ++ map decimal (bar.start
    ∷ bar.duration ∷ bar.slack ∷ (if bar.on_path then 1 else 0) ∷ []))

-- the bars of a load, by number
abbrev pub bars_text : List (Bar SegmentName) → List ℕ
bars_text bars = flat_map (λ x. bar_line x.0 x.1) (enumerate_from 0 bars)

-- what a box is called: a name, or a task
abbrev pub box_fields : Box → List (List ℕ)
box_fields (OfTask task) = task ∷ []
box_fields (OfName name) = name_fields name

-- `box`, its number, and what it is called
abbrev pub box_line : ℕ → Box → List ℕ
box_line number box = row_of (codes "box" ∷ decimal number ∷ box_fields box)

-- the boxes, by number
abbrev pub boxes_text : List Box → List ℕ
boxes_text boxes = flat_map (λ x. box_line x.0 x.1) (enumerate_from 0 boxes)

-- the fields of the trace of an overlap, none without one; `fields` has those of a trace by index
abbrev pub overlap_fields : (fields : ℕ → List (List ℕ)) → Option ℕ → List (List ℕ)
overlap_fields fields None = []
overlap_fields fields (Some index) = fields index

-- `between`, the numbers of two boxes, how many pairs of their names some trace has both of, how
-- many of these have an order, how many are mutually exclusive, and the trace of the first overlap
abbrev pub between_line : (fields : ℕ → List (List ℕ)) → (v w : ℕ) → BoxRelations → List ℕ
between_line fields v w r =
    row_of (codes "between" ∷ map decimal (v ∷ w ∷ r.both ∷ r.before ∷ r.exclusive ∷ [])
    ++ overlap_fields fields r.overlap)

-- the rows of each two of so many boxes with a pair that some trace has both of, by the first and
-- then by the second
abbrev pub between_text : (fields : ℕ → List (List ℕ)) → (ℕ → ℕ → BoxRelations) → ℕ → List ℕ
between_text fields relations boxes =
    flat_map (λ v. flat_map (λ w. if nat_lt 0 (relations v w).both
    then between_line fields v w (relations v w) else []) (range_with_len 0 boxes))
    (range_with_len 0 boxes)
