-- What is on the critical paths of slow traces and of the rest adds up to what is on all.
use Rattle.std.specs.Prelude.{◌≡◌, ℕ, ◌+◌, Bool, List, length}
use Rattle.trace_rules.specs.Durations.{paths_with, time_on}
use Rattle.trace_rules.specs.SlowTraces.{rest_of, slow_of}
use Rattle.trace_types.specs.Parts.{Parts}

module _ {A S N T E : Type 0} (p : Parts A S N T E) where
  -- a name is on as many paths of slow traces and of the rest as on all paths, and for as long
  pub record AddUp (same : N → N → Bool) (name : N) (latencies : List ℕ) (paths : List (List S))
      : Type 0 where
    pub counts : paths_with p same name (slow_of latencies paths)
        + paths_with p same name (rest_of latencies paths) ≡ paths_with p same name paths
    pub times : time_on p same name (slow_of latencies paths)
        + time_on p same name (rest_of latencies paths) ≡ time_on p same name paths

  -- so it is for any paths, one for each latency
  abbrev pub PathsAddUp : Type 0
  PathsAddUp = (same : N → N → Bool) (name : N) (latencies : List ℕ) (paths : List (List S))
      → length paths ≡ length latencies → AddUp same name latencies paths
