-- What a journal makes of a book of days.
use Rattle.std.specs.Prelude.{ℕ, ◌-◌, ◌<◌, ◌≤◌, List, [], ◌∷◌, ◌++◌, length, All}
use Rattle.day_partitions.specs.Books.{KeptDay, all_traces, traces_kept_on}
use Rattle.day_partitions.specs.Kept.{DayCommand, Add, Drop, Keep, AreKept, days_after}
use Rattle.live_journal.specs.declared.entry.Entry.{Entry}
use Rattle.live_journal.specs.declared.entry.Entry.TheVariants.{Rolled, Dropped, Kept}

-- the entry as a command to a book of days
abbrev pub command_of : Entry → DayCommand
command_of (Rolled day traces) = Add day traces
command_of (Dropped day) = Drop day
command_of (Kept days) = Keep days

-- the kept days after these entries in order, which find these days
abbrev pub days_from : List KeptDay → List Entry → List KeptDay
days_from days [] = days
days_from days (e ∷ es) = days_from (days_after days (command_of e)) es

-- the replay of a journal: the kept days with their traces after its entries in order, starting
-- with no day
abbrev pub replay : List Entry → List KeptDay
replay entries = days_from [] entries

-- how many traces an entry drops that comes after these
abbrev pub dropped_by : List Entry → Entry → ℕ
dropped_by before (Rolled day traces) = 0
dropped_by before (Dropped day) = length (traces_kept_on (replay before) day)
dropped_by before (Kept days) =
    length (all_traces (replay before)) - length (all_traces (replay (before ++ Kept days ∷ [])))

-- an entry that rolled traces has 1 to 429,496 of them
abbrev pub HasTraceCount : Entry → Type 0
HasTraceCount (Rolled day traces) = (0 < length traces) × (length traces ≤ 429496)
HasTraceCount (Dropped day) = Unit {0}
HasTraceCount (Kept days) = Unit {0}

-- a journal has at most 10,000 entries, and each that rolled traces has 1 to 429,496 of them
pub record IsJournal (entries : List Entry) : Type 0 where
  pub few : length entries ≤ 10000
  pub counted : All HasTraceCount entries

-- the entries as commands, the last first, after earlier ones
abbrev pub commands_from : List DayCommand → List Entry → List DayCommand
commands_from earlier [] = earlier
commands_from earlier (e ∷ es) = commands_from (command_of e ∷ earlier) es

-- the replay of a journal has exactly the traces that are kept after its commands: a filter of all
-- traces that they ever took
abbrev pub ReplayIsKept : Type 0
ReplayIsKept = (entries : List Entry) → IsJournal entries
    → AreKept (replay entries) (commands_from [] entries)
