-- How the tables of a catalogue file names: a name by the indices of its texts.
use Rattle.std.specs.Prelude.{◌≡◌, ℕ, List, ◌++◌, Some, map, length, slice_get, All}
use Rattle.event_table.specs.Texts.{AreDifferent}
use Rattle.trace_types.specs.Segments.{SegmentName}
use Rattle.segment_names.specs.declared.name_key.NameKey.{NameKey}
use Rattle.segment_names.specs.declared.tables.Marks.{Marks}
use Rattle.segment_names.specs.Known.{Known}

-- the tables: tasks, names of events, and names with their keys
pub record Filed : Type 0 where
  pub tasks : List (List ℕ)
  pub events : List (List ℕ)
  pub names : List (NameKey × SegmentName)

-- the names of the entries
abbrev pub names_of_entries : List (NameKey × SegmentName) → List SegmentName
names_of_entries entries = map (λ (e : NameKey × SegmentName). e.1) entries

-- what the tables know
abbrev pub known_in : Filed → Known
known_in filed = record { names = names_of_entries filed.names; tasks = filed.tasks }

-- the texts at the indices of the key are those of the name
pub record IsFiledAs (tasks events : List (List ℕ)) (key : NameKey)
    (name : SegmentName) : Type 0 where
  pub task : slice_get tasks key.task ≡ Some name.0
  pub start : slice_get events key.start ≡ Some name.1
  pub end : slice_get events key.end ≡ Some name.2

-- each entry is filed, and no task, event or name stands twice
pub record IsFiled (tasks events : List (List ℕ)) (names : List (NameKey
    × SegmentName)) : Type 0 where
  pub entries : All (λ (e : NameKey × SegmentName). IsFiledAs tasks events e.0 e.1) names
  pub tasks_differ : AreDifferent tasks
  pub events_differ : AreDifferent events
  pub names_differ : AreDifferent (names_of_entries names)

-- the same of tables as one value
abbrev pub AreFiled : Filed → Type 0
AreFiled filed = IsFiled filed.tasks filed.events filed.names

-- each table has what it had, and perhaps more behind it
pub record Grows (old new : Filed) : Type 0 where
  pub tasks : (more : List (List ℕ)) × (new.tasks ≡ old.tasks ++ more)
  pub events : (more : List (List ℕ)) × (new.events ≡ old.events ++ more)
  pub names : (more : List (NameKey × SegmentName)) × (new.names ≡ old.names ++ more)

-- the numbers of elements of the tables
abbrev pub marks_of : Filed → Marks
marks_of filed = record {
  tasks = length filed.tasks;
  events = length filed.events;
  names =
      length filed.names;
}
