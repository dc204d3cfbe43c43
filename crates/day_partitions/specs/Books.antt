-- What a contract sees of a book of days.
use Rattle.std.specs.Prelude.{◌≡◌, ℕ, ◌+◌, ◌-◌, ◌^◌, ◌<◌, ◌≤◌, Bool, false, not, ◌==◌, nat_lt}
use Rattle.std.specs.Prelude.{if◌then◌else◌, List, [], ◌∷◌, ◌++◌, length, drop, filter, max, All}
use Rattle.std.specs.Prelude.{AllPairs}
use Rattle.std.specs.List.{flat_map, list_any}
use Rattle.hypothesis_index.specs.Places.{width_of}
use Rattle.pipeline_tests.specs.DaySheets.{SheetState}
use Rattle.refute_tests.specs.Clearing.{HaveNamesBelow}
use Rattle.trace_types.specs.declared.named_trace.NamedTrace.{NamedTrace}

-- a day, in days of 86,400 seconds since 1970, and its traces in the order in which they were taken
pub record KeptDay : Type 0 where
  pub day : ℕ
  pub traces : List NamedTrace

-- the kept days, the number of names, and how many new days can be added without memory
pub record BookState : Type 0 where
  pub days : List KeptDay
  pub names : ℕ
  pub spare : ℕ

-- the day with these traces
abbrev pub kept_day : ℕ → List NamedTrace → KeptDay
kept_day day traces = record { day = day; traces = traces }

-- the book with these fields
abbrev pub book : List KeptDay → ℕ → ℕ → BookState
book days names spare = record { days = days; names = names; spare = spare }

-- the traces of all days, by day, and within a day in the order in which they were taken
abbrev pub all_traces : List KeptDay → List NamedTrace
all_traces days = flat_map (λ k. k.traces) days

-- the traces of one day, none where it is not kept
abbrev pub traces_kept_on : List KeptDay → ℕ → List NamedTrace
traces_kept_on [] day = []
traces_kept_on (k ∷ ks) day = if k.day == day then k.traces else traces_kept_on ks day

-- the day is kept
abbrev pub has_day : List KeptDay → ℕ → Bool
has_day days day = list_any (λ k. k.day == day) days

-- each day is below all that follow it
abbrev pub AreRising : List KeptDay → Type 0
AreRising days = AllPairs (λ j k. j.day < k.day) days

-- a day has at least one trace
abbrev pub HasTraces : KeptDay → Type 0
HasTraces k = 0 < length k.traces

-- the traces are of this day
abbrev pub AreOfDay : ℕ → List NamedTrace → Type 0
AreOfDay day traces = All (λ (t : NamedTrace). t.day ≡ day) traces

-- what every book keeps
pub record IsBook (b : BookState) : Type 0 where
  pub names : b.names ≤ 512
  pub rising : AreRising b.days
  pub some : All HasTraces b.days
  pub dated : All (λ (k : KeptDay). AreOfDay k.day k.traces) b.days
  pub named : All (λ (k : KeptDay). All (HaveNamesBelow b.names) k.traces) b.days
  pub counted : length (all_traces b.days) < 2 ^ 32
  pub room : length b.days + b.spare ≤ 64

-- the sheet has the width of this many names and at least one trace, all its traces are of this
-- day, and their names are below that number
pub record IsSheetOf (names day : ℕ) (sheet : SheetState) : Type 0 where
  pub width : length sheet.words ≡ width_of names
  pub some : 0 < length sheet.traces
  pub dated : AreOfDay day sheet.traces
  pub named : All (HaveNamesBelow names) sheet.traces

-- 64 days are kept, and this is none of them
abbrev pub IsFull : BookState → ℕ → Type 0
IsFull b day = (length b.days ≡ 64) × (has_day b.days day ≡ false)

-- the traces follow those of their day; a new day stands in its place by number
abbrev pub with_day_traces : ℕ → List NamedTrace → List KeptDay → List KeptDay
with_day_traces day traces [] = kept_day day traces ∷ []
with_day_traces day traces (k ∷ ks) =
    if nat_lt k.day day then k ∷ with_day_traces day traces ks
    else (if k.day == day then kept_day day (k.traces ++ traces) ∷ ks
    else kept_day day traces ∷ k ∷ ks)

-- the days but this one
abbrev pub days_without : ℕ → List KeptDay → List KeptDay
days_without day days = filter (λ k. not (k.day == day)) days

-- the last n of the days, or all where they are fewer
abbrev pub newest_days : ℕ → List KeptDay → List KeptDay
newest_days n days = drop (length days - n) days

-- the book with more traces of a day; a new day takes a spare row, where there is one
abbrev pub with_added : BookState → ℕ → List NamedTrace → BookState
with_added b day traces =
    book (with_day_traces day traces b.days) b.names
    (if has_day b.days day then b.spare else b.spare - 1)

-- the book with other days, where each dropped day leaves a spare row
abbrev pub with_fewer : BookState → List KeptDay → BookState
with_fewer b days = book days b.names (b.spare + (length b.days - length days))

-- the book with at least n spare rows
abbrev pub with_spare_days : BookState → ℕ → BookState
with_spare_days b n = book b.days b.names (max b.spare n)

-- the book with so many names
abbrev pub with_names : BookState → ℕ → BookState
with_names b names = book b.days names b.spare
