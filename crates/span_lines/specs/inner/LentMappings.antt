-- What lines are told from, lent.
use Rattle.std.specs.Prelude.{ℕ, ◌≡◌, ◌<◌, List, All, Option, length, IfSome}
use Rattle.span_calls.specs.Calls.{AreBefore}
use Rattle.span_lines.specs.Mappings.{Mapping}
use Rattle.span_lines.specs.declared.lent_mapping.LentMapping.{LentMapping}

-- what is lent
abbrev pub mapping_lent : LentMapping → Mapping
mapping_lent m = record {
  calls = m.calls.now;
  numbers = m.numbers.now;
  steps = m.steps.now;
  first_far = m.first_far.now;
  last_far = m.last_far.now;
  threads = m.threads.now;
  labels = m.events.now;
  groups = m.groups.now;
  heads = m.heads.now;
  tasks = m.tasks.now;
  machines = m.machines.now;
}

-- calls that are told of calls, by each of these: they are among these
abbrev pub AreAmong : ℕ → List (Option ℕ) → Type 0
AreAmong count far = All (λ o. IfSome o (λ j. j < count)) far

-- all that is told of calls, contexts and groups is there, and leads to calls, contexts and groups
pub record IsWhole (m : Mapping) : Type 0 where
  pub before : AreBefore m.calls
  pub numbers : length m.numbers ≡ length m.calls
  pub contexts : All (λ x. x < length m.threads) m.numbers
  pub steps : length m.steps ≡ length m.calls
  pub first_far : length m.first_far ≡ length m.calls
  pub first_among : AreAmong (length m.calls) m.first_far
  pub last_far : length m.last_far ≡ length m.calls
  pub last_among : AreAmong (length m.calls) m.last_far
  pub labels : length m.labels ≡ length m.threads
  pub groups : length m.groups ≡ length m.threads
  pub grouped : All (λ g. g < length m.heads) m.groups
  pub heads : All (λ x. x < length m.threads) m.heads
  pub bases : length m.tasks.bases ≡ length m.threads
  pub tasks : length m.tasks.numbers ≡ length m.threads
