-- The segments of threads, and the time that calls run themselves. A statement that a law proves.
use Rattle.std.specs.Prelude.{ℕ, ◌≡◌, ◌<◌, ◌≤◌, ◌&&◌, List, [], ◌∷◌, Bool, false, not, Some, None}
use Rattle.std.specs.Prelude.{length, nat_le, nat_lt, slice_index_or}
use Rattle.std.specs.List.{AllPairs, count_by, flat_map, list_any, range_with_len}
use Rattle.span_calls.specs.Calls.{AreBefore}
use Rattle.span_calls.specs.declared.call.Call.{Call}
use Rattle.context_forks.specs.Forks.{callers_of, calls_below}
use Rattle.context_forks.specs.Partners.{end_of, start_of}
use Rattle.thread_steps.specs.Parts.{Grouping, fork_together}
use Rattle.thread_steps.specs.ThreadLaws.{AreClosed, thread_heads, thread_steps}
use Rattle.thread_steps.specs.declared.step.Step.{Step}
use Rattle.thread_steps.specs.declared.step.Step.TheVariants.{Starts, Ends, Forks, Joins}

-- when a step happens, in nanoseconds
abbrev pub step_time : List Call → Step → ℕ
step_time calls (Starts i) = start_of calls i
step_time calls (Ends i) = end_of calls i
step_time calls (Forks i) = start_of calls i
step_time calls (Joins i piece) = end_of calls i

-- the segments of a thread behind a step: from each step to the next one, but none to a join, since
-- that begins another piece
abbrev pub segments_behind : Step → List Step → List (Step × Step)
segments_behind step [] = []
segments_behind step (Starts i ∷ later) = (step, Starts i) ∷ segments_behind (Starts i) later
segments_behind step (Ends i ∷ later) = (step, Ends i) ∷ segments_behind (Ends i) later
segments_behind step (Forks i ∷ later) = (step, Forks i) ∷ segments_behind (Forks i) later
segments_behind step (Joins i piece ∷ later) = segments_behind (Joins i piece) later

-- the segments of a thread with these steps
abbrev pub segments_of : List Step → List (Step × Step)
segments_of [] = []
segments_of (step ∷ later) = segments_behind step later

module _ (calls : List Call) (at : ℕ) where
  -- an instant is in a segment: this begins by then and ends later
  abbrev pub is_within : (Step × Step) → Bool
  is_within segment = nat_le (step_time calls segment.0) at && nat_lt at (step_time calls segment.1)

  -- a call runs at an instant
  abbrev pub runs : ℕ → Bool
  runs i = nat_le (start_of calls i) at && nat_lt at (end_of calls i)

  -- it runs itself: no call that it makes runs
  abbrev pub runs_itself : ℕ → Bool
  runs_itself i = runs i && not (list_any runs (slice_index_or (calls_below calls) i []))

-- each call ends not before it starts, and runs within its caller; those of one caller start in
-- order, and run one after another unless they are forked together
pub record AreNested (calls : List Call) (grouping : Grouping) : Type 0 where
  pub ends : (i : ℕ) → i < length calls → start_of calls i ≤ end_of calls i
  pub within : (i c : ℕ) → slice_index_or (callers_of calls) i None ≡ Some c
      → (start_of calls c ≤ start_of calls i) × (end_of calls i ≤ end_of calls c)
  pub rise : (c : ℕ) → c < length calls → AllPairs (λ i j. start_of calls i ≤ start_of calls j)
      (slice_index_or (calls_below calls) c [])
  pub apart : (c : ℕ) → c < length calls → AllPairs (λ i j. fork_together grouping i j ≡ false
      → end_of calls i ≤ start_of calls j) (slice_index_or (calls_below calls) c [])

-- the segments of the threads that so many calls from this one on begin
abbrev pub all_segments : List Call → Grouping → (group_numbers : List ℕ) → (start size : ℕ) → List (Step × Step)
all_segments calls grouping group_numbers start size = flat_map
    (λ head. segments_of (thread_steps calls grouping group_numbers head))
    (thread_heads calls grouping start size)

-- at each instant as many segments of the threads of requests run as calls of them run themselves:
-- so segments are the calls' own time, of which nothing is lost and nothing stands twice
abbrev pub SegmentsAreOwnTime : Type 0
SegmentsAreOwnTime = (calls : List Call) (grouping : Grouping) (group_numbers : List ℕ)
    → AreBefore calls → AreNested calls grouping → (start size : ℕ) → AreClosed calls start size
    → (at : ℕ)
    → count_by (is_within calls at) (all_segments calls grouping group_numbers start size)
    ≡ count_by (runs_itself calls at) (range_with_len start size)
