-- How the days of a book stand in the leaves of its tree.
use Rattle.std.specs.Prelude.{◌≡◌, ◌≢◌, ℕ, ◌<◌, ◌≤◌, List, length, get_or, map, None, Some}
use Rattle.std.specs.Prelude.{is_some, count_by, All, AllPairs, Any, Contains, false, insert}
use Rattle.std.specs.Prelude.{slice_set, vec_capacity, ◌+◌, ◌++◌, ◌⊎◌, nat_lt}
use Rattle.std.specs.List.{prefix_len}
use Rattle.refute_tests.specs.Survivors.{LackRefuted}
use Rattle.trace_types.specs.declared.named_trace.NamedTrace.{NamedTrace}
use Rattle.day_partitions.specs.Books.{KeptDay, kept_day, has_day}
use Rattle.day_partitions.specs.inner.Trees.{TreeState, IsThere, leaf_words}
use Rattle.day_partitions.specs.declared.day.Day.{Day}

-- the day has a leaf, whose words lack what its traces refute
pub record HasLeaf (t : TreeState) (d : Day) : Type 0 where
  pub slot : d.slot < 64
  pub there : IsThere t.leaves d.slot
  pub width : length (leaf_words t.leaves d.slot) ≡ t.width
  pub bits : LackRefuted d.traces.items (leaf_words t.leaves d.slot)

-- each day has a leaf of its own, and each leaf that is there is that of a day
pub record AreInSlots (t : TreeState) (days : List Day) : Type 0 where
  pub leaves : length t.leaves ≡ 64
  pub kept : All (HasLeaf t) days
  pub apart : AllPairs (λ (d e : Day). d.slot ≢ e.slot) days
  pub owned : (s : ℕ) (words : List ℕ) → get_or t.leaves s None ≡ Some words
      → Any (λ (d : Day). d.slot ≡ s) days
  pub counted : count_by is_some t.leaves ≡ length days

-- what a contract sees of a day
abbrev pub shown : Day → KeptDay
shown d = kept_day d.day d.traces.items

-- the days that a contract sees
abbrev pub shown_days : List Day → List KeptDay
shown_days days = map shown days

-- how many days at the front are below this one
abbrev pub place_in_days : ℕ → List Day → ℕ
place_in_days day days = prefix_len (λ (d : Day). nat_lt d.day day) days

-- the day stands at this place
abbrev pub IsDayAt : List Day → ℕ → ℕ → Type 0
IsDayAt days place day = (place < length days) × ((e : Day) → (get_or days place e).day ≡ day)

-- there is room for n more traces of the day at this place
abbrev pub RoomAt : List Day → ℕ → ℕ → Type 0
RoomAt days place n =
    (e : Day) → length (get_or days place e).traces.items + n
    ≤ vec_capacity (get_or days place e).traces

-- the day at this place has these traces besides
pub record IsExtended (old : List Day) (place : ℕ) (traces : List NamedTrace)
    (new : List Day) : Type 0 where
  pub now : Day
  pub days : new ≡ slice_set old place now
  pub day : now.day ≡ (get_or old place now).day
  pub slot : now.slot ≡ (get_or old place now).slot
  pub traces_are : now.traces.items ≡ (get_or old place now).traces.items ++ traces

-- a day with these traces stands at this place besides
pub record IsInserted (old : List Day) (place day : ℕ) (traces : List NamedTrace)
    (new : List Day) : Type 0 where
  pub now : Day
  pub days : new ≡ insert old place now
  pub day_is : now.day ≡ day
  pub traces_are : now.traces.items ≡ traces

-- every day but this one is one of the old ones
abbrev pub ChangesOnly : ℕ → List Day → List Day → Type 0
ChangesOnly day old new = All (λ (d : Day). (d.day ≡ day) ⊎ Contains old d) new

-- the day has the same traces and the same slot, and room for no fewer traces
pub record IsSameDay (d e : Day) : Type 0 where
  pub day : e.day ≡ d.day
  pub slot : e.slot ≡ d.slot
  pub traces_are : e.traces.items ≡ d.traces.items
  pub room : vec_capacity d.traces ≤ vec_capacity e.traces

-- the same days in the same places
pub record AreSameDays (old new : List Day) : Type 0 where
  pub count : length new ≡ length old
  pub each : (k : ℕ) (e : Day) → k < length old → IsSameDay (get_or old k e) (get_or new k e)

-- there is room for n more traces of the day, where it is kept
abbrev pub HasTraceRoom : List Day → ℕ → ℕ → Type 0
HasTraceRoom days day n =
    All (λ (d : Day). d.day ≡ day → length d.traces.items + n ≤ vec_capacity d.traces) days

-- there is room for n more traces of a day that is kept, and a row for a day that is not
pub record HasRoom (t : TreeState) (days : List Day) (day n : ℕ) : Type 0 where
  pub kept : HasTraceRoom days day n
  pub new : has_day (shown_days days) day ≡ false → (t.spare ≢ 0) × (length days < 64)

-- the day at this place has so many traces
abbrev pub HasTraceCount : List Day → ℕ → ℕ → Type 0
HasTraceCount days place n = (e : Day) → n ≡ length (get_or days place e).traces.items
