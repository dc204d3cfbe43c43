-- Calls of one caller, in order.
use Rattle.std.specs.Prelude.{ℕ, ◌≡◌, ◌≤◌, ◌<◌, ◌+◌, List, Option, Some, None, All, length, slice_index, take}
use Rattle.std.specs.List.{AllPairs}
use Rattle.span_calls.specs.declared.call.Call.{Call}
use Rattle.context_forks.specs.Partners.{last_to_end, later_of, start_of}

-- which call ends last, where one more comes; of several the first
abbrev pub last_with : List Call → Option ℕ → ℕ → ℕ
last_with calls None j = j
last_with calls (Some i) j = later_of calls i j

-- these are calls, in the order in which they start
pub record AreSiblings (calls : List Call) (below : List ℕ) : Type 0 where
  pub within : All (λ i. i < length calls) below
  pub rise : AllPairs (λ i j. start_of calls i ≤ start_of calls j) below

-- for each of these calls the one that ends last of those up to it
pub record AreLast (calls : List Call) (below last : List ℕ) : Type 0 where
  pub size : length last ≡ length below
  pub own : (k : ℕ) → k < length below
      → last_to_end calls (take (k + 1) below) ≡ Some (slice_index last k)
