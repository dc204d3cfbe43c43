-- The contexts of calls: statements that laws prove.
use Rattle.std.specs.Prelude.{ℕ, ◌≡◌, ◌<◌, List, Some, None, length, slice_get, slice_index, slice_index_or}
use Rattle.span_requests.specs.CallerNumbers.{number_above}
use Rattle.span_calls.specs.Calls.{AreBefore}
use Rattle.span_calls.specs.declared.call.Call.{Call}
use Rattle.call_contexts.specs.Contexts.{AreContexts, Frame}
use Rattle.context_forks.specs.Forks.{callers_of, context_pairs}
use Rattle.linked_groups.specs.Groups.{groups_of}

-- two calls of one request that have one context are one call: both are so many calls below one entry
abbrev pub ContextsAreOfOneCall : Type 0
ContextsAreOfOneCall = (calls : List Call) (numbers : List ℕ) (contexts : List Frame)
    → AreBefore calls → AreContexts calls numbers contexts → (i j k l entry : ℕ)
    → i < length calls → j < length calls
    → number_above (callers_of calls) k i ≡ Some entry
    → number_above (callers_of calls) l j ≡ Some entry
    → slice_index_or (callers_of calls) entry None ≡ None
    → slice_index numbers i ≡ slice_index numbers j → i ≡ j

-- two contexts of one group are below the same context
abbrev pub GroupsHaveOneAbove : Type 0
GroupsHaveOneAbove = (grace : ℕ) (calls : List Call) (numbers : List ℕ) (contexts : List Frame)
    → AreBefore calls → AreContexts calls numbers contexts → (x y : ℕ) (f g : Frame)
    → slice_get contexts x ≡ Some f → slice_get contexts y ≡ Some g
    → slice_index (groups_of (length contexts) (context_pairs grace calls numbers)) x
    ≡ slice_index (groups_of (length contexts) (context_pairs grace calls numbers)) y
    → f.above ≡ g.above
