-- Which calls stand in a thread: statements that laws prove.
use Rattle.std.specs.Prelude.{ℕ, ◌≡◌, ◌<◌, List, Bool, true, Some, length}
use Rattle.std.specs.List.{count_by}
use Rattle.span_requests.specs.CallerNumbers.{number_above}
use Rattle.span_calls.specs.Calls.{AreBefore}
use Rattle.span_calls.specs.declared.call.Call.{Call}
use Rattle.context_forks.specs.Forks.{callers_of}
use Rattle.thread_steps.specs.Parts.{Grouping}
use Rattle.thread_steps.specs.ThreadLaws.{caller_within, is_start, thread_steps}

-- the call starts in the thread that this one begins
abbrev pub Stands : (calls : List Call) → Grouping → (group_numbers : List ℕ) → (head c : ℕ) → Type 0
Stands calls grouping group_numbers head c =
    0 < count_by (is_start c) (thread_steps calls grouping group_numbers head)

-- the calls that stand in a thread are below the one that begins it
abbrev pub ThreadsAreOfCallsBelow : Type 0
ThreadsAreOfCallsBelow = (calls : List Call) (grouping : Grouping) (group_numbers : List ℕ)
    → AreBefore calls → (head c : ℕ) → head < length calls
    → Stands calls grouping group_numbers head c
    → (c < length calls) × ((k : ℕ) × (number_above (callers_of calls) k c ≡ Some head))

-- a test that the call that begins a thread passes, and each call that a thread goes into if its
-- caller does, all calls that stand in the thread pass
abbrev pub ThreadsKeepTests : Type 0
ThreadsKeepTests = (calls : List Call) (grouping : Grouping) (group_numbers : List ℕ)
    → AreBefore calls → (head c : ℕ) → head < length calls
    → Stands calls grouping group_numbers head c
    → (passes : ℕ → Bool) → passes head ≡ true
    → ((i d : ℕ) → i < length calls → caller_within calls grouping i ≡ Some d
    → passes d ≡ true → passes i ≡ true)
    → passes c ≡ true
