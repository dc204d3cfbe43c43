-- Which traces are kept after a list of commands. No table of days stands here: each trace that was
-- ever taken is kept or not, by the commands after its own.
use Rattle.std.specs.Prelude.{◌≡◌, ℕ, ◌<◌, Bool, false, not, ◌&&◌, ◌||◌, ◌==◌, nat_lt, nat_le}
use Rattle.std.specs.Prelude.{if◌then◌else◌, List, [], ◌∷◌, ◌++◌, length, map, filter, All}
use Rattle.std.specs.List.{list_any}
use Rattle.trace_types.specs.declared.named_trace.NamedTrace.{NamedTrace}
use Rattle.day_partitions.specs.Books.{KeptDay, AreRising, HasTraces, traces_kept_on, with_day_traces}
use Rattle.day_partitions.specs.Books.{days_without, newest_days}

-- traces are added to a day, a day is dropped, or all but so many of the newest days are
pub data DayCommand : Type 0 where
  Add : ℕ → List NamedTrace → DayCommand
  Drop : ℕ → DayCommand
  Keep : ℕ → DayCommand

-- a trace that a command took, its day, and how many commands came before that one
pub record Taken : Type 0 where
  pub day : ℕ
  pub trace : NamedTrace
  pub before : ℕ

-- the traces that one command takes
abbrev pub traces_taken_by : ℕ → DayCommand → List Taken
traces_taken_by before (Add day traces) =
    map (λ t. record { day = day; trace = t; before = before }) traces
traces_taken_by before (Drop day) = []
traces_taken_by before (Keep n) = []

-- the traces that these commands, the last first, ever took, in the order of the taking
abbrev pub taken_traces : List DayCommand → List Taken
taken_traces [] = []
taken_traces (c ∷ earlier) = taken_traces earlier ++ traces_taken_by (length earlier) c

-- the numbers, each once
abbrev pub distinct_numbers : List ℕ → List ℕ
distinct_numbers [] = []
distinct_numbers (n ∷ ns) =
    if list_any (λ m. m == n) ns then distinct_numbers ns else n ∷ distinct_numbers ns

-- how many different days greater than this one the traces have
abbrev pub greater_days_taken : List Taken → ℕ → ℕ
greater_days_taken traces day =
    length (distinct_numbers (filter (λ d. nat_lt day d) (map (λ (t : Taken). t.day) traces)))

-- the command drops the day, where these are the traces that are kept just before
abbrev pub drops : List Taken → DayCommand → ℕ → Bool
drops kept (Add d traces) day = false
drops kept (Drop d) day = day == d
drops kept (Keep n) day = nat_le n (greater_days_taken kept day)

-- one of the commands, the last first, came after the one that took the trace, and dropped its day
abbrev pub is_dropped : List DayCommand → Taken → Bool
is_dropped [] t = false
is_dropped (c ∷ earlier) t =
    is_dropped earlier t || (nat_lt t.before (length earlier)
    && drops (filter (λ u. not (is_dropped earlier u)) (taken_traces earlier)) c t.day)

-- the traces that are kept after these commands, the last first
abbrev pub kept_traces : List DayCommand → List Taken
kept_traces commands = filter (λ t. not (is_dropped commands t)) (taken_traces commands)

-- those of one day
abbrev pub kept_of : List DayCommand → ℕ → List NamedTrace
kept_of commands day =
    map (λ (t : Taken). t.trace) (filter (λ (t : Taken). t.day == day) (kept_traces commands))

-- the days rise, each has a trace, and they have exactly the traces that are kept after these
-- commands, the last first
pub record AreKept (days : List KeptDay) (commands : List DayCommand) : Type 0 where
  pub rising : AreRising days
  pub some : All HasTraces days
  pub traces : (day : ℕ) → traces_kept_on days day ≡ kept_of commands day

-- an add has at least one trace
abbrev pub AddsSome : DayCommand → Type 0
AddsSome (Add day traces) = 0 < length traces
AddsSome (Drop day) = Unit {0}
AddsSome (Keep n) = Unit {0}

-- the days after one more command, as the calls of a book say
abbrev pub days_after : List KeptDay → DayCommand → List KeptDay
days_after days (Add day traces) = with_day_traces day traces days
days_after days (Drop day) = days_without day days
days_after days (Keep n) = newest_days n days

-- a book without days has kept nothing
abbrev pub NothingIsKept : Type 0
NothingIsKept = AreKept [] []

-- each call leaves the traces that are kept after the commands so far and its own
abbrev pub CallsKeep : Type 0
CallsKeep = (days : List KeptDay) (commands : List DayCommand) (c : DayCommand) → AddsSome c
    → AreKept days commands → AreKept (days_after days c) (c ∷ commands)

-- commands leave one list of days
abbrev pub OneListIsKept : Type 0
OneListIsKept = (days others : List KeptDay) (commands : List DayCommand)
    → AreKept days commands → AreKept others commands → days ≡ others
