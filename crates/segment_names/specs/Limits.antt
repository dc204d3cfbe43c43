-- The limits of 512 names and 64 tasks.
use Rattle.std.specs.Prelude.{◌≡◌, ℕ, ◌+◌, ◌<◌, ◌≤◌, ◌≢◌, List, length, take, AllPairs}
use Rattle.trace_types.specs.declared.trace.Trace.{Trace}
use Rattle.trace_types.specs.Limits.{most_names, most_tasks}
use Rattle.segment_names.specs.declared.name_fault.NameFault.{NameFault}
use Rattle.segment_names.specs.declared.name_fault.NameFault.TheVariants.{Memory, Over}
use Rattle.segment_names.specs.declared.name_fault.NameLimit.{NameLimit}
use Rattle.segment_names.specs.declared.name_fault.NameLimit.TheVariants.{Names, Tasks}
use Rattle.segment_names.specs.Known.{Known, with_traces}

-- neither names nor tasks are too many
abbrev pub Fits : Known → Type 0
Fits known = (length known.names ≤ most_names) × (length known.tasks ≤ most_tasks)

-- what every catalogue keeps: the limits, and that no name and no task stands twice
pub record IsKept (known : Known) : Type 0 where
  pub few_names : length known.names ≤ most_names
  pub few_tasks : length known.tasks ≤ most_tasks
  pub names_differ : AllPairs (λ a b. a ≢ b) known.names
  pub tasks_differ : AllPairs (λ a b. a ≢ b) known.tasks

-- the limit that is passed, with how many names there are where those are too many, and else how
-- many tasks
abbrev pub IsPassed : Known → NameLimit → Type 0
IsPassed known (Names count) = (most_names < length known.names)
    × (count ≡ length known.names)
IsPassed known (Tasks count) = (length known.names ≤ most_names)
    × (most_tasks < length known.tasks) × (count ≡ length known.tasks)

-- some trace of the list is the first after which a limit is passed, and it is this one
abbrev pub PassesLimit : Known → List Trace → NameLimit → Type 0
PassesLimit known traces limit = (k : ℕ) × (k < length traces)
    × ((j : ℕ) → j ≤ k → Fits (with_traces known (take j traces)))
    × IsPassed (with_traces known (take (k + 1) traces)) limit

-- out of memory, or this limit is passed
abbrev pub HasCause : (NameLimit → Type 0) → NameFault → Type 0
HasCause passed Memory = Unit {0}
HasCause passed (Over limit) = passed limit
