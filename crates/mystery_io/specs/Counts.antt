-- Counters of 64 bits, which stand still at their last value.
use Rattle.std.specs.Prelude.{ℕ, ◌+◌, ◌-◌, ◌^◌, ◌==◌, ◌≤◌, min, Bool, List, Result, Ok, Err}
use Rattle.std.specs.List.{list_any}

-- the counter after one call more
abbrev pub counted_up : ℕ → ℕ
counted_up count = min (count + 1) (2 ^ 64 - 1)

-- the counter of faults after a call: one more where it failed, and unchanged where it did not
abbrev pub faults_after : {T E : Type 0} → Result T E → ℕ → ℕ
faults_after (Ok x) count = count
faults_after (Err e) count = counted_up count

-- n calls were counted, as far as the counter goes
pub record CountsCalls (n before now : ℕ) : Type 0 where
  pub least : min (before + n) (2 ^ 64 - 1) ≤ now
  pub most : now ≤ before + n

-- the call with this number, from 1, is in the list of those that fail
abbrev pub is_planned : List ℕ → ℕ → Bool
is_planned failing call = list_any (λ number. number == call) failing
