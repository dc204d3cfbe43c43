-- Where spans lie within one another on one machine, so do their calls. A statement that a law
-- proves.
use Rattle.std.specs.Prelude.{ℕ, ◌≡◌, ◌<◌, ◌≤◌, ◌^◌, false, List, None, Option, Some, length}
use Rattle.std.specs.Prelude.{slice_index_or}
use Rattle.span_types.specs.declared.span.Span.{Span}
use Rattle.span_calls.specs.Calls.{AreBefore}
use Rattle.span_calls.specs.Seen.{are_apart, span_at}
use Rattle.span_calls.specs.declared.call.Call.{Call}
use Rattle.call_contexts.specs.Contexts.{AreContexts, Frame}
use Rattle.context_forks.specs.Forks.{context_pairs, forked_of}
use Rattle.context_forks.specs.Partners.{end_of, own_end, own_start, start_of}
use Rattle.linked_groups.specs.Groups.{groups_of}
use Rattle.call_laws.specs.CallLaws.{AreCallsOf}
use Rattle.thread_steps.specs.Parts.{Grouping}
use Rattle.time_laws.specs.OwnTimes.{AreNested}

-- the spans are of one machine, each ends not before it starts, at a time of 64 bits, and each one
-- that is called runs within its caller
pub record AreNestedSpans (spans : List Span) (callers : List (Option ℕ)) : Type 0 where
  pub together : (i j : ℕ) → i < length spans → j < length spans
      → are_apart (span_at spans i) (span_at spans j) ≡ false
  pub ends : (i : ℕ) → i < length spans → ((span_at spans i).start ≤ (span_at spans i).end)
      × ((span_at spans i).end < 2 ^ 64)
  pub within : (i c : ℕ) → slice_index_or callers i None ≡ Some c
      → ((span_at spans c).start ≤ (span_at spans i).start)
      × ((span_at spans i).end ≤ (span_at spans c).end)

-- the grouping of contexts of calls that may not overlap at all
abbrev pub strict_grouping : List Call → (numbers : List ℕ) → (count : ℕ) → Grouping
strict_grouping calls numbers count = record {
  numbers = numbers;
  forked = forked_of 0 calls numbers count;
  groups = groups_of count (context_pairs 0 calls numbers);
}

-- then calls are nested, and each is seen when it runs
abbrev pub NestedSpansHaveNestedCalls : Type 0
NestedSpansHaveNestedCalls = (spans : List Span) (callers : List (Option ℕ))
    (asked : Option (List ℕ)) (entries : List ℕ) (calls : List Call)
    → AreCallsOf spans callers asked entries calls → AreNestedSpans spans callers
    → AreBefore calls → (numbers : List ℕ) (contexts : List Frame)
    → AreContexts calls numbers contexts
    → AreNested calls (strict_grouping calls numbers (length contexts))
    × ((i : ℕ) → i < length calls → (start_of calls i ≡ own_start calls i)
    × (end_of calls i ≡ own_end calls i))
