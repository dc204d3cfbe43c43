-- The rows on the names and the tasks of segments of valid traces.
use Rattle.std.specs.Prelude.{ℕ, ◌≡◌, ◌==◌, ◌++◌, List, [], ◌∷◌, codes, drop, if◌then◌else◌, length, map}
use Rattle.std.specs.Prelude.{nat_lt, slice_index_or}
use Rattle.std.specs.List.{AllZip, flat_map}
use Rattle.alike_groups.specs.declared.group.Group.{Group}
use Rattle.name_patterns.specs.Families.{AreFamilies}
use Rattle.name_patterns.specs.Patterns.{pattern_of}
use Rattle.name_quality.specs.Names.{HasNames, all_names, different_names, different_tasks}
use Rattle.name_quality.specs.Names.{name_label, name_pattern, names_alone}
use Rattle.trace_types.specs.Batch.{PlainTrace}
use Rattle.trace_types.specs.Limits.{most_names, most_tasks}
use Rattle.trace_types.specs.Segments.{SegmentName}
use Rattle.inspect_run.specs.Rows.{no_example, row_text}
use Rattle.inspect_run.specs.declared.level.Level.{Level}
use Rattle.inspect_run.specs.declared.level.Level.TheVariants.{Fine, Note, Warn}
use Rattle.inspect_run.specs.declared.subject.Subject.{Subject}
use Rattle.inspect_run.specs.declared.subject.Subject.TheVariants.{Names, Tasks}

-- the kind of the rows, what is counted, and how many of it other commands take
abbrev pub subject_kind : Subject → List ℕ
subject_kind Names = codes "name"
subject_kind Tasks = codes "task"

abbrev pub subject_text : Subject → List ℕ
subject_text Names = codes "segment names"
subject_text Tasks = codes "tasks"

abbrev pub subject_limit : Subject → ℕ
subject_limit Names = most_names
subject_limit Tasks = most_tasks

-- the different names of segments, or their different tasks, as they are printed
abbrev pub labels : Subject → List SegmentName → List (List ℕ)
labels Names names = map name_label (different_names names)
labels Tasks names = different_tasks names

-- the pattern of each
abbrev pub patterns : Subject → List SegmentName → List (List ℕ)
patterns Names names = map name_pattern (different_names names)
patterns Tasks names = map pattern_of (different_tasks names)

-- the first of texts, where there is one
abbrev pub first_text : List (List ℕ) → List ℕ
first_text [] = no_example
first_text (text ∷ texts) = text

-- a warning where there are more than other commands take
abbrev pub limit_level : (count limit : ℕ) → Level
limit_level count limit = if nat_lt limit count then Warn else Fine

-- how many there are, against the most that other commands take; the example is the first beyond
abbrev pub limit_row : Subject → (labels : List (List ℕ)) → List ℕ
limit_row subject labels =
    row_text (subject_kind subject) (limit_level (length labels) (subject_limit subject))
    (length labels) (subject_limit subject) (first_text (drop (subject_limit subject) labels))
    (subject_text subject)

-- a note where there is one
abbrev pub alone_level : (count : ℕ) → Level
alone_level count = if count == 0 then Fine else Note

-- how many names one trace alone has
abbrev pub alone_row : (labels alone : List (List ℕ)) → List ℕ
alone_row labels alone =
    row_text (codes "name") (alone_level (length alone)) (length alone) (length labels)
    (first_text alone) (codes "in one trace alone")

-- a family: how many there are of it, its first, and its pattern
abbrev pub family_row : Subject → (labels patterns : List (List ℕ)) → Group → List ℕ
family_row subject labels patterns family =
    row_text (subject_kind subject) Note family.count (length labels)
    (slice_index_or labels family.first []) (slice_index_or patterns family.first [])

-- the rows of families of names
abbrev pub family_rows : Subject → List SegmentName → List Group → List ℕ
family_rows subject names families =
    flat_map (family_row subject (labels subject names) (patterns subject names)) families

-- the rows on names, of which these are the families, where each trace has such names
abbrev pub name_rows : List (List SegmentName) → List Group → List ℕ
name_rows named families =
    limit_row Names (labels Names (all_names named))
    ++ alone_row (labels Names (all_names named)) (map name_label (names_alone named))
    ++ family_rows Names (all_names named) families

-- the rows on tasks
abbrev pub task_rows : List SegmentName → List Group → List ℕ
task_rows names families =
    limit_row Tasks (labels Tasks names) ++ family_rows Tasks names families

-- the rows on the names and the tasks of segments of traces
pub record AreNameRows (traces : List PlainTrace) (rows : List ℕ) : Type 0 where
  pub named : List (List SegmentName)
  pub each : AllZip HasNames traces named
  pub of_names : List Group
  pub names_told : AreFamilies (patterns Names (all_names named)) of_names
  pub of_tasks : List Group
  pub tasks_told : AreFamilies (patterns Tasks (all_names named)) of_tasks
  pub printed : rows ≡ name_rows named of_names ++ task_rows (all_names named) of_tasks
