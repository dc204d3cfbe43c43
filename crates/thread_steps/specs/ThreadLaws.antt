-- Which calls stand in which threads: statements that laws prove.
use Rattle.std.specs.Prelude.{ℕ, ◌≡◌, ◌≢◌, ◌+◌, ◌<◌, ◌≤◌, ◌==◌, List, Bool, false, Option, Some}
use Rattle.std.specs.Prelude.{None, filter, is_none, if◌then◌else◌, length, slice_index_or}
use Rattle.std.specs.List.{count_by, flat_map, range_with_len}
use Rattle.span_calls.specs.Calls.{AreBefore}
use Rattle.span_calls.specs.declared.call.Call.{Call}
use Rattle.context_forks.specs.Forks.{callers_of, calls_below}
use Rattle.thread_steps.specs.Parts.{Grouping, forks}
use Rattle.thread_steps.specs.Steps.{steps_from}
use Rattle.thread_steps.specs.declared.step.Step.{Step}
use Rattle.thread_steps.specs.declared.step.Step.TheVariants.{Starts, Ends, Forks, Joins}

-- the call starts at this step
abbrev pub is_start : ℕ → Step → Bool
is_start i (Starts j) = i == j
is_start i (Ends j) = false
is_start i (Forks j) = false
is_start i (Joins j piece) = false

-- the call ends at this step
abbrev pub is_end : ℕ → Step → Bool
is_end i (Starts j) = false
is_end i (Ends j) = i == j
is_end i (Forks j) = false
is_end i (Joins j piece) = false

-- so many calls from this one on are those of requests: of each one its caller too, and all that it
-- calls
pub record AreClosed (calls : List Call) (start size : ℕ) : Type 0 where
  pub bound : start + size ≤ length calls
  pub callers : (i c : ℕ) → start ≤ i → i < start + size
      → slice_index_or (callers_of calls) i None ≡ Some c → start ≤ c
  pub called : (i c : ℕ) → slice_index_or (callers_of calls) i None ≡ Some c → start ≤ c
      → c < start + size → i < start + size

module _ (calls : List Call) (grouping : Grouping) where
  -- the caller that goes into a call: none goes into one that is forked
  abbrev pub caller_within : ℕ → Option ℕ
  caller_within i =
      if forks grouping i then None else slice_index_or (callers_of calls) i None

  -- of so many calls from this one on those that begin threads
  abbrev pub thread_heads : (start size : ℕ) → List ℕ
  thread_heads start size = filter (λ i. is_none (caller_within i)) (range_with_len start size)

  module _ (group_numbers : List ℕ) where
    -- the steps of the thread that begins with a call, and those of the threads that so many calls
    -- from this one on begin
    abbrev pub thread_steps : ℕ → List Step
    thread_steps i = steps_from calls (calls_below calls) grouping group_numbers i

    abbrev pub all_steps : (start size : ℕ) → List Step
    all_steps start size = flat_map thread_steps (thread_heads start size)

    -- how often the thread that begins with a call has a step of this caller, if there is one
    abbrev pub count_of : (ℕ → Step → Bool) → Option ℕ → ℕ → ℕ
    count_of is_of None i = 0
    count_of is_of (Some c) i = count_by (is_of c) (thread_steps i)

-- among the steps of the threads of requests each of their calls starts once and ends once
abbrev pub EachStandsOnce : Type 0
EachStandsOnce = (calls : List Call) (grouping : Grouping) (group_numbers : List ℕ)
    → AreBefore calls → (start size : ℕ) → AreClosed calls start size
    → (i : ℕ) → start ≤ i → i < start + size
    → (count_by (is_start i) (all_steps calls grouping group_numbers start size) ≡ 1)
    × (count_by (is_end i) (all_steps calls grouping group_numbers start size) ≡ 1)

-- and no other call does
abbrev pub NoOtherStands : Type 0
NoOtherStands = (calls : List Call) (grouping : Grouping) (group_numbers : List ℕ)
    → AreBefore calls → (start size : ℕ) → AreClosed calls start size
    → (i : ℕ) → i < length calls → (start ≤ i → i < start + size → ⊥)
    → (count_by (is_start i) (all_steps calls grouping group_numbers start size) ≡ 0)
    × (count_by (is_end i) (all_steps calls grouping group_numbers start size) ≡ 0)

-- in the thread that it begins a call starts once and ends once
abbrev pub HeadsStandOnce : Type 0
HeadsStandOnce = (calls : List Call) (grouping : Grouping) (group_numbers : List ℕ)
    → AreBefore calls → (head : ℕ) → head < length calls
    → (count_by (is_start head) (thread_steps calls grouping group_numbers head) ≡ 1)
    × (count_by (is_end head) (thread_steps calls grouping group_numbers head) ≡ 1)

-- in a thread that another call begins, a call starts and ends as often as the caller that goes
-- into it, and if none does, never
abbrev pub CallsStandWithCallers : Type 0
CallsStandWithCallers = (calls : List Call) (grouping : Grouping) (group_numbers : List ℕ)
    → AreBefore calls → (head i : ℕ) → head < length calls → i < length calls → i ≢ head
    → (count_by (is_start i) (thread_steps calls grouping group_numbers head)
    ≡ count_of calls grouping group_numbers is_start (caller_within calls grouping i) head)
    × (count_by (is_end i) (thread_steps calls grouping group_numbers head)
    ≡ count_of calls grouping group_numbers is_end (caller_within calls grouping i) head)
