-- What one line of a digest's text says, by the rows of its kind before it.
use Rattle.std.specs.Prelude.{ℕ, ◌-◌, ◌==◌, ◌&&◌, ◌||◌, List, [], ◌∷◌, length, map, codes, Bool}
use Rattle.std.specs.Prelude.{true, nat_le, if◌then◌else◌, Option, Some, None, slice_get}
use Rattle.std.specs.Cmp.Lexicographic.{slice_cmp}
use Rattle.std.specs.Option.{option_and_then, option_map_or}
use Rattle.std.specs.List.{list_all, list_any}
use Rattle.std.specs.Int.{is_in_range}
use Rattle.std.specs.Ordering.{is_lt, nat_cmp}
use Rattle.std.specs.Str.{bytes_eq}
use Rattle.std.specs.declared.cmp.Ordering.{Ordering}
use Rattle.step_core.specs.Numbers.{plain_number}
use Rattle.trace_types.specs.NameOrder.{name_cmp}
use Rattle.trace_types.specs.Segments.{SegmentName}
use Rattle.certificates.specs.Claims.{line_fields, name_of_texts, text_of}

-- a list is empty, or its last element is less than this one
abbrev pub comes_after : {X : Type 0} → (X → X → Ordering) → List X → X → Bool
comes_after cmp xs x = option_map_or (λ y. is_lt (cmp y x)) (slice_get xs (length xs - 1)) true

-- the day of the latest time of an event, in days of 86,400 seconds since 1970
abbrev pub latest_day : ℕ
latest_day = 47482

-- the day comes after those before it, and is no later than the latest one
abbrev pub is_next_day : List ℕ → ℕ → Bool
is_next_day earlier day = comes_after nat_cmp earlier day && nat_le day latest_day

-- the day of the two fields of a row, which may follow those before it
abbrev pub day_of_fields : List ℕ → List (List ℕ) → Option ℕ
day_of_fields earlier (word ∷ day ∷ []) = option_and_then
    (λ d. if bytes_eq word (codes "day") && is_next_day earlier d then Some d else None)
    (plain_number day)
day_of_fields earlier fields = None

-- the day that a line says
abbrev pub day_said : List ℕ → List ℕ → Option ℕ
day_said earlier line = day_of_fields earlier (line_fields line)

-- a mark of two tasks: `.` or a digit up to 3, the sum of 1 and 2
abbrev pub is_task_mark : ℕ → Bool
is_task_mark byte = (byte == 46) || is_in_range 48 51 byte

-- a mark of two names: one of two tasks, or 7, the sum of 1, 2 and 4
abbrev pub is_name_mark : ℕ → Bool
is_name_mark byte = is_task_mark byte || (byte == 55)

-- so many marks, and nothing else
abbrev pub are_marks : (ℕ → Bool) → ℕ → List ℕ → Bool
are_marks is_mark count marks = (length marks == count) && list_all is_mark marks

-- the row of this task with these marks, where it comes after those before it
abbrev pub task_row : List (List ℕ × List ℕ) → List ℕ → List ℕ → Option (List ℕ × List ℕ)
task_row earlier task marks =
    if comes_after (slice_cmp nat_cmp) (map (λ r. r.0) earlier) task
    then Some (task, marks)
    else None

-- the row of a task that three fields say
abbrev pub task_of_fields : List (List ℕ × List ℕ) → List (List ℕ) → Option (List ℕ × List ℕ)
task_of_fields earlier (word ∷ task ∷ marks ∷ []) =
    if bytes_eq word (codes "task") && are_marks is_task_mark (length earlier) marks
    then option_and_then (λ t. task_row earlier t marks) (text_of task)
    else None
task_of_fields earlier fields = None

-- the row of a task that a line says
abbrev pub task_said : List (List ℕ × List ℕ) → List ℕ → Option (List ℕ × List ℕ)
task_said earlier line = task_of_fields earlier (line_fields line)

-- one of the rows is of this task
abbrev pub has_task : List (List ℕ × List ℕ) → List ℕ → Bool
has_task tasks task = list_any (λ r. bytes_eq r.0 task) tasks

-- the row of this name with these marks, where its task has a row and it comes after those before
abbrev pub name_row : List (List ℕ × List ℕ) → List (SegmentName × List ℕ) → SegmentName → List ℕ
    → Option (SegmentName × List ℕ)
name_row tasks earlier name marks =
    if has_task tasks name.0 && comes_after name_cmp (map (λ r. r.0) earlier) name
    then Some (name, marks)
    else None

-- the row of a name that five fields say
abbrev pub name_of_fields : List (List ℕ × List ℕ) → List (SegmentName × List ℕ) → List (List ℕ)
    → Option (SegmentName × List ℕ)
name_of_fields tasks earlier (word ∷ task ∷ start ∷ end ∷ marks ∷ []) =
    if bytes_eq word (codes "name") && are_marks is_name_mark (length earlier) marks
    then option_and_then (λ n. name_row tasks earlier n marks) (name_of_texts task start end)
    else None
name_of_fields tasks earlier fields = None

-- the row of a name that a line says, under these rows of tasks
abbrev pub name_said : List (List ℕ × List ℕ) → List (SegmentName × List ℕ) → List ℕ
    → Option (SegmentName × List ℕ)
name_said tasks earlier line = name_of_fields tasks earlier (line_fields line)

-- each row of a task has a name of this task
abbrev pub are_named : List (List ℕ × List ℕ) → List (SegmentName × List ℕ) → Bool
are_named tasks names = list_all (λ t. list_any (λ n. bytes_eq n.0.0 t.0) names) tasks
